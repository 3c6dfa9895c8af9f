-- who is no process doesn't count for a policy, and a process that is there is put into a set
use Rattle.std.proofs.Common.{◌≡◌, ℕ, zero, suc, ◌+◌, ◌<◌, ◌==◌, Bool, true, false, ◌&&◌, ◌||◌, List, length, filter, refl, ◌∙◌, ap, ap₂, arith}
use Rattle.std.specs.Prelude.{nat_le, nat_lt}
use Rattle.std.specs.List.{list_any, range_with_len}
use Rattle.std.specs.Ordering.{nat_cmp}
use Rattle.std.specs.FinSet as sets
use Rattle.std.specs.Cmp.{nat_cmp_total, unsigned_tied}
use Rattle.std.proofs.lemmas.Bool.Decides.{nat_tests}
use Rattle.fy_locality.specs.declared.locality.Locality.{Locality}
use Rattle.fy_locality.specs.Locality.{has_value, values_of}
use Rattle.fy_policy.specs.Tree.{Tree, one, across, every, Parts, none, part}
use Rattle.fy_policy.specs.Sat.{group, satisfies, all_satisfy}

-- the two sets have the same processes
abbrev Agree : List Locality → (ℕ → Bool) → (ℕ → Bool) → Type 0
Agree processes s t = (q : ℕ) → q < length processes → s q ≡ t q

same_any : (s t : ℕ → Bool) (a n : ℕ) → ((q : ℕ) → q < a + n → s q ≡ t q) → list_any s (range_with_len a n) ≡ list_any t (range_with_len a n)
same_any s t a zero same = refl
same_any s t a (suc n) same = ap₂ (λ x y. x || y) (same a (omega arith)) (same_any s t (a + 1) n (λ q l. same q (omega (arith, l))))

mutual
  unfolding satisfies

  pub same_within : (processes : List Locality) (P : Tree) (s t : ℕ → Bool) → Agree processes s t → satisfies processes P s ≡ satisfies processes P t
  same_within processes one s t same = same_any s t 0 (length processes) (λ q l. same q (omega (arith, l)))
  same_within processes (across n key P) s t same =
      ap (λ test. nat_le n (length (filter test (values_of processes key)))) (λ j v. same_within processes P (group processes key v s) (group processes key v t) (λ q l. ap (λ b. b && has_value processes key v q) (same q l)) j)
  same_within processes (every Ps) s t same = all_within processes Ps s t same

  all_within : (processes : List Locality) (Ps : Parts) (s t : ℕ → Bool) → Agree processes s t → all_satisfy processes Ps s ≡ all_satisfy processes Ps t
  all_within processes none s t same = refl
  all_within processes (part P Ps) s t same = ap₂ (λ x y. x && y) (same_within processes P s t same) (all_within processes Ps s t same)

-- a set without those that are no processes
pub known_satisfy : (processes : List Locality) (P : Tree) (known s : ℕ → Bool) → ((q : ℕ) → known q ≡ (nat_lt q (length processes) && s q)) → satisfies processes P known ≡ satisfies processes P s
known_satisfy processes P known s is = same_within processes P known s (λ q l. is q ∙ there q l)
  where
    there : (q : ℕ) → q < length processes → (nat_lt q (length processes) && s q) ≡ s q
    there q l = grind (arith, nat_tests)

-- the processes of a map that is the same
pub met : (ps qs : List Locality) (need : Tree) (known s : ℕ → Bool) → ps ≡ qs → ((q : ℕ) → known q ≡ (nat_lt q (length ps) && s q)) → satisfies ps need known ≡ satisfies qs need s
met ps qs need known s same is = known_satisfy ps need known s is ∙ ap (λ (rs : List Locality). satisfies rs need s) same

turned : (a b : Bool) → (a || b) ≡ (b || a)
turned true true = refl
turned true false = refl
turned false true = refl
turned false false = refl

-- a process that is there is put in
pub known_put : (s : sets.FinSet nat_cmp) (p q n : ℕ) → p < n → sets.contains (sets.insert s p) q ≡ (sets.contains s q || nat_lt q n && p == q)
known_put s p q n l =
    sets.contains-insert nat_cmp_total s p q ∙ ap (λ b. b || sets.contains s q) (unsigned_tied q p) ∙ turned (q == p) (sets.contains s q)
    ∙ ap (λ b. sets.contains s q || b) same
  where
    same : (q == p) ≡ (nat_lt q n && p == q)
    same = grind (arith, nat_tests)
