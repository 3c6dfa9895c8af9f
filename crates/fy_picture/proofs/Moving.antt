-- sets that are moved one process after another
use Rattle.std.proofs.Common.{zero, suc, ◌≡◌, ◌∙◌, ℕ, ◌-◌, ◌<◌, ◌==◌, ◌&&◌, ◌||◌, Bool, true, false, true≢false, not, cond, refl, sym, ap, arith}
use Rattle.std.specs.Ordering.{nat_cmp}
use Rattle.std.specs.FinSet as sets
use Rattle.std.specs.Cmp.{nat_cmp_total, unsigned_tied}
use Rattle.std.specs.Prelude.{Option, Some, None, IfNone}
use Rattle.std.proofs.lemmas.Bool.Decides.{nat_tests}
use Rattle.fy_locality.specs.declared.ProcId.{ProcId}

-- a set with one process more
pub insert_has : (s : sets.FinSet nat_cmp) (p q : ℕ) → sets.contains (sets.insert s p) q ≡ (q == p || sets.contains s q)
insert_has s p q = sets.contains-insert nat_cmp_total s p q ∙ ap (λ b. b || sets.contains s q) (unsigned_tied q p)

-- a set with one process less
pub remove_has : (s : sets.FinSet nat_cmp) (p q : ℕ) → sets.contains (sets.remove s p) q ≡ (not (q == p) && sets.contains s q)
remove_has s p q = sets.contains-remove nat_cmp_total s p q ∙ ap (λ b. not b && sets.contains s q) (unsigned_tied q p)

equal : (a b : ℕ) → (a == b) ≡ true → a ≡ b
equal a b e = grind (arith, nat_tests)

-- sets of the same processes
pub same_set : (s t : sets.FinSet nat_cmp) → ((q : ℕ) → sets.contains s q ≡ sets.contains t q) → s ≡ t
same_set s t each = sets.same_set nat_cmp_total sets.nat_cmp-IsAntisymmetric s t each

-- ---- the rest of those that are moved

pub len-smaller : (s : sets.FinSet nat_cmp) (p : ℕ) → sets.contains s p ≡ true → sets.len (sets.remove s p) < sets.len s
len-smaller s p there = less _ _ (sets.len-remove nat_cmp_total s p ∙ ap (λ b. cond b (sets.len s - 1) (sets.len s)) there) (λ none. true≢false (sym there ∙ ap (λ t. sets.contains t p) (sets.empty_of_len s none) ∙ sets.contains-empty nat_cmp p))
  where
    less : (m n : ℕ) → m ≡ n - 1 → (n ≡ 0 → ⊥) → m < n
    less m zero e ne = absurd (ne refl)
    less m (suc n) e ne = omega arith

pub no_least : (o : Option ProcId) (s : sets.FinSet nat_cmp) → IfNone o (s ≡ sets.empty) → ((p : ProcId) → o ≡ Some p → ⊥) → s ≡ sets.empty
no_least None s none not = none
no_least (Some p) s none not = absurd (not p refl)

-- outside these processes a set is the one that it is moved to
abbrev pub IsMovedBut : (rest now to : sets.FinSet nat_cmp) → Type 0
IsMovedBut rest now to = (q : ℕ) → sets.contains rest q ≡ false → sets.contains now q ≡ sets.contains to q

came : (e r n t : Bool) → (e ≡ true → t ≡ true) → (r ≡ false → n ≡ t) → (not e && r) ≡ false → (e || n) ≡ t
came true r n t there moved out = sym (there refl)
came false r n t there moved out = moved out

went : (e r n t : Bool) → (e ≡ true → t ≡ false) → (r ≡ false → n ≡ t) → (not e && r) ≡ false → (not e && n) ≡ t
went true r n t there moved out = sym (there refl)
went false r n t there moved out = moved out

-- one of them came
pub put_next : (rest now to : sets.FinSet nat_cmp) (p : ℕ) → sets.contains to p ≡ true → IsMovedBut rest now to → IsMovedBut (sets.remove rest p) (sets.insert now p) to
put_next rest now to p there moved q out =
    insert_has now p q
    ∙ came (q == p) (sets.contains rest q) (sets.contains now q) (sets.contains to q) (λ e. ap (sets.contains to) (equal q p e) ∙ there) (moved q) (sym (remove_has rest p q) ∙ out)

-- one of them went
pub drop_next : (rest now to : sets.FinSet nat_cmp) (p : ℕ) → sets.contains to p ≡ false → IsMovedBut rest now to → IsMovedBut (sets.remove rest p) (sets.remove now p) to
drop_next rest now to p there moved q out =
    remove_has now p q
    ∙ went (q == p) (sets.contains rest q) (sets.contains now q) (sets.contains to q) (λ e. ap (sets.contains to) (equal q p e) ∙ there) (moved q) (sym (remove_has rest p q) ∙ out)

-- all of them are moved
pub moved_all : (rest now to : sets.FinSet nat_cmp) → rest ≡ sets.empty → IsMovedBut rest now to → now ≡ to
moved_all rest now to none moved = same_set now to (λ q. moved q (ap (λ s. sets.contains s q) none ∙ sets.contains-empty nat_cmp q))

-- ---- which have to be moved

outside : (a b : Bool) → ((a && not b) || (b && not a)) ≡ false → a ≡ b
outside true true e = refl
outside true false e = absurd (true≢false e)
outside false true e = absurd (true≢false e)
outside false false e = refl

-- those in one of two sets alone
pub moved_but : (those now to : sets.FinSet nat_cmp) → those ≡ sets.union (sets.difference now to) (sets.difference to now) → IsMovedBut those now to
moved_but those now to is q out =
    outside (sets.contains now q) (sets.contains to q)
    ((λ i. sym (sets.contains-difference nat_cmp_total now to q) i || sym (sets.contains-difference nat_cmp_total to now q) i)
    ∙ sym (sets.contains-union nat_cmp_total (sets.difference now to) (sets.difference to now) q)
    ∙ ap (λ s. sets.contains s q) (sym is) ∙ out)
