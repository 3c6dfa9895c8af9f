-- how many members haven't marked a record once one member stands for another
use Rattle.std.proofs.Common.{◌≡◌, ℕ, suc, ◌+◌, ◌<◌, Bool, true, false, cond, ◌||◌, not, eqb, ltb, List, [], ◌∷◌, ◌++◌, filter, refl, sym, ap, ◌∙◌, arith}
use Rattle.std.specs.List.{AllPairs}
use Rattle.std.specs.Ordering.{nat_cmp}
use Rattle.std.specs.FinSet as sets
use Rattle.std.proofs.lemmas.Bool.Decides.{nat_tests}
use Rattle.fy_locality.specs.declared.ProcId.{ProcId}
use Rattle.fy_team.specs.Teams.{is_among, swapped}
use Rattle.fy_team.specs.Counts.{missing_among}
use Rattle.fy_team.proofs.Counting.{missing_more, below_is_apart}
use Rattle.fy_team.proofs.Swapping.{stays_apart}

-- one process, if it has no mark
abbrev pub lacks : sets.FinSet nat_cmp → ProcId → ℕ
lacks marks p = cond (sets.contains marks p.0) 0 1

-- of two lists one behind the other
missing_both : (marks : sets.FinSet nat_cmp) (ps qs : List ProcId) → missing_among marks (ps ++ qs) ≡ missing_among marks ps + missing_among marks qs
missing_both marks [] qs = let e : missing_among marks qs ≡ 0 + missing_among marks qs = omega arith in e
missing_both marks (p ∷ ps) qs = omega (arith, missing_more marks p (ps ++ qs) (sets.contains marks p.0) refl, missing_more marks p ps (sets.contains marks p.0) refl, missing_both marks ps qs)

-- of those below a process, and of those above it
missing_sides : (marks : sets.FinSet nat_cmp) (into : ProcId) (ps : List ProcId) → is_among ps into.0 ≡ false
    → missing_among marks (filter (λ p. ltb p.0 into.0) ps) + missing_among marks (filter (λ p. ltb into.0 p.0) ps) ≡ missing_among marks ps
missing_sides marks into [] apart = refl
missing_sides marks into (p ∷ ps) apart = first (eqb p.0 into.0) refl (λ later. missing_sides marks into ps later) apart
  where
    low : List ProcId
    low = filter (λ p. ltb p.0 into.0) ps

    high : List ProcId
    high = filter (λ p. ltb into.0 p.0) ps

    go : missing_among marks (filter (λ p. ltb p.0 into.0) ps) + missing_among marks (filter (λ p. ltb into.0 p.0) ps) ≡ missing_among marks ps → (a b : Bool) → not a ≡ b
        → missing_among marks (cond a (p ∷ filter (λ p. ltb p.0 into.0) ps) (filter (λ p. ltb p.0 into.0) ps)) + missing_among marks (cond b (p ∷ filter (λ p. ltb into.0 p.0) ps) (filter (λ p. ltb into.0 p.0) ps)) ≡ missing_among marks (p ∷ ps)
    go later true true e = absurd (let x : ⊥ = cc in x)
    go later true false e = omega (arith, later, missing_more marks p ps (sets.contains marks p.0) refl, missing_more marks p (filter (λ p. ltb p.0 into.0) ps) (sets.contains marks p.0) refl)
    go later false true e = omega (arith, later, missing_more marks p ps (sets.contains marks p.0) refl, missing_more marks p (filter (λ p. ltb into.0 p.0) ps) (sets.contains marks p.0) refl)
    go later false false e = absurd (let x : ⊥ = cc in x)

    other_side : (a : Bool) → ltb p.0 into.0 ≡ a → eqb p.0 into.0 ≡ false → not a ≡ ltb into.0 p.0
    other_side true e f = grind (arith, nat_tests)
    other_side false e f = grind (arith, nat_tests)

    first : (b : Bool) → eqb p.0 into.0 ≡ b
        → (is_among ps into.0 ≡ false → missing_among marks (filter (λ p. ltb p.0 into.0) ps) + missing_among marks (filter (λ p. ltb into.0 p.0) ps) ≡ missing_among marks ps)
        → (b || is_among ps into.0) ≡ false
        → missing_among marks (filter (λ p. ltb p.0 into.0) (p ∷ ps)) + missing_among marks (filter (λ p. ltb into.0 p.0) (p ∷ ps)) ≡ missing_among marks (p ∷ ps)
    first true e later none = absurd (let x : ⊥ = cc in x)
    first false e later none = go (later none) (ltb p.0 into.0) (ltb into.0 p.0) (other_side (ltb p.0 into.0) refl e)

-- who isn't among them isn't taken out
missing_all_stay : (marks : sets.FinSet nat_cmp) (out : ProcId) (ps : List ProcId) → is_among ps out.0 ≡ false → missing_among marks (filter (λ p. not (eqb p.0 out.0)) ps) ≡ missing_among marks ps
missing_all_stay marks out [] apart = refl
missing_all_stay marks out (p ∷ ps) apart = go (eqb p.0 out.0) (λ later. missing_all_stay marks out ps later) apart
  where
    go : (b : Bool) → (is_among ps out.0 ≡ false → missing_among marks (filter (λ p. not (eqb p.0 out.0)) ps) ≡ missing_among marks ps) → (b || is_among ps out.0) ≡ false
        → missing_among marks (cond (not b) (p ∷ filter (λ p. not (eqb p.0 out.0)) ps) (filter (λ p. not (eqb p.0 out.0)) ps)) ≡ missing_among marks (p ∷ ps)
    go true later none = absurd (let x : ⊥ = cc in x)
    go false later none = omega (arith, later none, missing_more marks p ps (sets.contains marks p.0) refl, missing_more marks p (filter (λ p. not (eqb p.0 out.0)) ps) (sets.contains marks p.0) refl)

-- and a member is
missing_one_leaves : (marks : sets.FinSet nat_cmp) (out : ProcId) (ps : List ProcId) → AllPairs (λ p q. p.0 < q.0) ps → is_among ps out.0 ≡ true
    → missing_among marks (filter (λ p. not (eqb p.0 out.0)) ps) + lacks marks out ≡ missing_among marks ps
missing_one_leaves marks out [] rising member = absurd (let x : ⊥ = cc in x)
missing_one_leaves marks out (p ∷ ps) rising member = go (eqb p.0 out.0) refl (λ later. missing_one_leaves marks out ps (λ i j d lt within. rising (suc i) (suc j) d (omega arith) (omega arith)) later) member
  where
    go : (b : Bool) → eqb p.0 out.0 ≡ b → (is_among ps out.0 ≡ true → missing_among marks (filter (λ p. not (eqb p.0 out.0)) ps) + lacks marks out ≡ missing_among marks ps) → (b || is_among ps out.0) ≡ true
        → missing_among marks (cond (not b) (p ∷ filter (λ p. not (eqb p.0 out.0)) ps) (filter (λ p. not (eqb p.0 out.0)) ps)) + lacks marks out ≡ missing_among marks (p ∷ ps)
    go true e later is =
        let same : p.0 ≡ out.0 = grind (arith, nat_tests) in
        let apart : is_among ps out.0 ≡ false = ap (is_among ps) (sym same) ∙ below_is_apart p.0 ps (λ k d within. rising 0 (suc k) d (omega arith) (omega arith)) in
        let lacking : lacks marks out ≡ lacks marks p = ap (λ n. cond (sets.contains marks n) 0 1) (sym same) in
        omega (arith, missing_all_stay marks out ps apart, missing_more marks p ps (sets.contains marks p.0) refl, lacking)
    go false e later is = omega (arith, later is, missing_more marks p ps (sets.contains marks p.0) refl, missing_more marks p (filter (λ p. not (eqb p.0 out.0)) ps) (sets.contains marks p.0) refl)

-- the one that comes counts in the place of the one that leaves
pub missing_swapped : (marks : sets.FinSet nat_cmp) (out into : ProcId) (ps : List ProcId) → AllPairs (λ p q. p.0 < q.0) ps → is_among ps out.0 ≡ true → is_among ps into.0 ≡ false
    → missing_among marks (swapped out into ps) + lacks marks out ≡ missing_among marks ps + lacks marks into
missing_swapped marks out into ps rising member apart =
    omega (
      arith,
      missing_both marks (filter (λ p. ltb p.0 into.0) (filter (λ p. not (eqb p.0 out.0)) ps)) (into ∷ filter (λ p. ltb into.0 p.0) (filter (λ p. not (eqb p.0 out.0)) ps)),
      missing_more marks into (filter (λ p. ltb into.0 p.0) (filter (λ p. not (eqb p.0 out.0)) ps)) (sets.contains marks into.0) refl,
      missing_sides marks into (filter (λ p. not (eqb p.0 out.0)) ps) (stays_apart out into ps apart),
      missing_one_leaves marks out ps rising member,
    )
