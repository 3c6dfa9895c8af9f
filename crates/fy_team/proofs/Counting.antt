-- how many members haven't marked a record, and who is a member
use Rattle.std.proofs.Common.{◌≡◌, ℕ, zero, suc, ◌+◌, ◌<◌, ◌≤◌, Bool, true, false, cond, ◌&&◌, ◌||◌, not, eqb, ltb, List, [], ◌∷◌, length, filter, get_or, refl, sym, ap, ◌∙◌, arith}
use Rattle.std.specs.Prelude.{slice_get}
use Rattle.std.specs.List.{All, AllPairs}
use Rattle.std.specs.List.Sorted.{IsPartitionPoint}
use Rattle.std.specs.Option.{option_map_or}
use Rattle.std.specs.Ordering.{nat_cmp}
use Rattle.std.specs.FinSet as sets
use Rattle.std.specs.Cmp.{nat_cmp_total, unsigned_tied}
use Rattle.std.proofs.lemmas.Bool.Decides.{nat_tests}
use Rattle.fy_locality.specs.declared.ProcId.{ProcId}
use Rattle.fy_team.specs.Teams.{is_among, all_marked}
use Rattle.fy_team.specs.Counts.{missing_among}
use Rattle.fy_team.proofs.Marking.{same_number}
use mir.Val.{bool_byte}

-- ---- members without a mark

-- a flag as a number
pub flag_number : (b : Bool) → cond b 1 0 ≡ bool_byte b
flag_number true = refl
flag_number false = refl

-- with one more member before the others
pub missing_more : (marks : sets.FinSet nat_cmp) (q : ProcId) (ps : List ProcId) (b : Bool) → sets.contains marks q.0 ≡ b
    → missing_among marks (q ∷ ps) ≡ cond b 0 1 + missing_among marks ps
missing_more marks q ps b is =
    ap (λ c. length (cond (not c) (q ∷ rest) rest)) is ∙ go b
  where
    rest : List ProcId
    rest = filter (λ p. not (sets.contains marks p.0)) ps

    go : (c : Bool) → length (cond (not c) (q ∷ rest) rest) ≡ cond c 0 1 + length rest
    go true = omega arith
    go false = omega arith

pub has_inserted : (marks : sets.FinSet nat_cmp) (p q : ℕ) → sets.contains (sets.insert marks p) q ≡ (eqb q p || sets.contains marks q)
has_inserted marks p q =
    sets.contains-insert nat_cmp_total marks p q ∙ ap (λ b. b || sets.contains marks q) (unsigned_tied q p)

pub has_removed : (marks : sets.FinSet nat_cmp) (p q : ℕ) → sets.contains (sets.remove marks p) q ≡ (not (eqb q p) && sets.contains marks q)
has_removed marks p q =
    sets.contains-remove nat_cmp_total marks p q ∙ ap (λ b. not b && sets.contains marks q) (unsigned_tied q p)

-- a mark of one who isn't a member changes nothing
stranger_counts_not : (marks : sets.FinSet nat_cmp) (p : ℕ) (ps : List ProcId) → is_among ps p ≡ false
    → missing_among (sets.insert marks p) ps ≡ missing_among marks ps
stranger_counts_not marks p [] apart = refl
stranger_counts_not marks p (q ∷ ps) apart = go (λ later. stranger_counts_not marks p ps later) (eqb q.0 p) refl apart
  where
    go : (is_among ps p ≡ false → missing_among (sets.insert marks p) ps ≡ missing_among marks ps) → (b : Bool) → eqb q.0 p ≡ b → (b || is_among ps p) ≡ false
        → missing_among (sets.insert marks p) (q ∷ ps) ≡ missing_among marks (q ∷ ps)
    go later true e none = absurd (let x : ⊥ = cc in x)
    go later false e none =
        missing_more (sets.insert marks p) q ps (sets.contains marks q.0) (has_inserted marks p q.0 ∙ ap (λ b. b || sets.contains marks q.0) e)
        ∙ ap (λ n. cond (sets.contains marks q.0) 0 1 + n) (later none)
        ∙ sym (missing_more marks q ps (sets.contains marks q.0) refl)

-- who is below all of these isn't among them
pub below_is_apart : (p : ℕ) (ps : List ProcId) → All (λ q. p < q.0) ps → is_among ps p ≡ false
below_is_apart p [] above = refl
below_is_apart p (q ∷ ps) above =
    let here : p < q.0 = above 0 q (omega arith) in
    ap (λ b. b || is_among ps p) (let e : eqb q.0 p ≡ false = grind (arith, nat_tests) in e)
    ∙ below_is_apart p ps (λ k d within. above (suc k) d (omega arith))

-- a mark takes one off where it is new and a member's
pub one_fewer : (marks : sets.FinSet nat_cmp) (p : ℕ) (ps : List ProcId) → AllPairs (λ p q. p.0 < q.0) ps
    → missing_among marks ps ≡ cond (not (sets.contains marks p) && is_among ps p) 1 0 + missing_among (sets.insert marks p) ps
one_fewer marks p [] rising = no_teams (not (sets.contains marks p))
  where
    no_teams : (b : Bool) → 0 ≡ cond (b && false) 1 0 + 0
    no_teams true = refl
    no_teams false = refl
one_fewer marks p (q ∷ ps) rising = go (one_fewer marks p ps (λ i j d lt within. rising (suc i) (suc j) d (omega arith) (omega arith))) (eqb q.0 p) refl
  where
    others : is_among ps q.0 ≡ false
    others = below_is_apart q.0 ps (λ k d within. rising 0 (suc k) d (omega arith) (omega arith))

    first : (m n : ℕ) → m ≡ n → (c : Bool) → cond c 0 1 + n ≡ cond (not c && true) 1 0 + (0 + m)
    first m n same true = omega arith
    first m n same false = omega arith

    rest : (m n k : ℕ) → n ≡ k + m → (c : Bool) → cond c 0 1 + n ≡ k + (cond c 0 1 + m)
    rest m n k same true = omega arith
    rest m n k same false = omega arith

    go : missing_among marks ps ≡ cond (not (sets.contains marks p) && is_among ps p) 1 0 + missing_among (sets.insert marks p) ps → (b : Bool) → eqb q.0 p ≡ b
        → missing_among marks (q ∷ ps) ≡ cond (not (sets.contains marks p) && (b || is_among ps p)) 1 0 + missing_among (sets.insert marks p) (q ∷ ps)
    go later true e =
        let same : q.0 ≡ p = same_number q.0 p e in
        let apart : is_among ps p ≡ false = ap (is_among ps) (sym same) ∙ others in
        missing_more marks q ps (sets.contains marks p) (ap (sets.contains marks) same)
        ∙ first (missing_among (sets.insert marks p) ps) (missing_among marks ps) (stranger_counts_not marks p ps apart) (sets.contains marks p)
        ∙ ap (λ n. cond (not (sets.contains marks p) && true) 1 0 + n) (sym (missing_more (sets.insert marks p) q ps true (has_inserted marks p q.0 ∙ ap (λ b. b || sets.contains marks q.0) e)))
    go later false e =
        missing_more marks q ps (sets.contains marks q.0) refl
        ∙ rest (missing_among (sets.insert marks p) ps) (missing_among marks ps) (cond (not (sets.contains marks p) && is_among ps p) 1 0) later (sets.contains marks q.0)
        ∙ ap (λ n. cond (not (sets.contains marks p) && is_among ps p) 1 0 + n) (sym (missing_more (sets.insert marks p) q ps (sets.contains marks q.0) (has_inserted marks p q.0 ∙ ap (λ b. b || sets.contains marks q.0) e)))

-- a mark that is taken off and put on again is as it was
put_back : (marks : sets.FinSet nat_cmp) (p : ℕ) → sets.contains marks p ≡ true → sets.insert (sets.remove marks p) p ≡ marks
put_back marks p there = sets.same_set nat_cmp_total sets.nat_cmp-IsAntisymmetric _ _ (λ q. has_inserted (sets.remove marks p) p q ∙ ap (λ b. eqb q p || b) (has_removed marks p q) ∙ go q (eqb q p) refl)
  where
    go : (q : ℕ) (b : Bool) → eqb q p ≡ b → (b || (not b && sets.contains marks q)) ≡ sets.contains marks q
    go q true e = sym (ap (sets.contains marks) (same_number q p e) ∙ there)
    go q false e = refl

-- a mark that is taken off is one more where it was a member's
pub one_more : (marks : sets.FinSet nat_cmp) (p : ℕ) (ps : List ProcId) → AllPairs (λ p q. p.0 < q.0) ps → sets.contains marks p ≡ true
    → missing_among (sets.remove marks p) ps ≡ missing_among marks ps + cond (is_among ps p) 1 0
one_more marks p ps rising there =
    let gone : sets.contains (sets.remove marks p) p ≡ false =
    has_removed marks p p ∙ ap (λ b. not b && sets.contains marks p) (let e : eqb p p ≡ true = grind (arith, nat_tests) in e) in
    let before = one_fewer (sets.remove marks p) p ps rising in
    let taken : missing_among (sets.remove marks p) ps ≡ cond (is_among ps p) 1 0 + missing_among marks ps =
    before
    ∙ ap (λ b. cond (not b && is_among ps p) 1 0 + missing_among (sets.insert (sets.remove marks p) p) ps) gone
    ∙ ap (λ after. cond (is_among ps p) 1 0 + missing_among after ps) (put_back marks p there) in
    omega arith

-- no more than there are members
pub missing_few : (marks : sets.FinSet nat_cmp) (ps : List ProcId) → missing_among marks ps ≤ length ps
missing_few marks [] = omega arith
missing_few marks (q ∷ ps) = go (missing_few marks ps) (sets.contains marks q.0) refl
  where
    go : missing_among marks ps ≤ length ps → (b : Bool) → sets.contains marks q.0 ≡ b → missing_among marks (q ∷ ps) ≤ suc (length ps)
    go later true e = omega (arith, missing_more marks q ps true e)
    go later false e = omega (arith, missing_more marks q ps false e)

-- all have marked where none is missing
pub none_missing : (marks : sets.FinSet nat_cmp) (ps : List ProcId) → eqb (missing_among marks ps) 0 ≡ all_marked marks ps
none_missing marks [] = refl
none_missing marks (q ∷ ps) = go (none_missing marks ps) (sets.contains marks q.0) refl
  where
    some : (n : ℕ) → eqb (1 + n) 0 ≡ false
    some n = grind (arith, nat_tests)

    go : eqb (missing_among marks ps) 0 ≡ all_marked marks ps → (b : Bool) → sets.contains marks q.0 ≡ b → eqb (missing_among marks (q ∷ ps)) 0 ≡ (sets.contains marks q.0 && all_marked marks ps)
    go later true e =
        ap (λ n. eqb n 0) (missing_more marks q ps true e ∙ (let z : 0 + missing_among marks ps ≡ missing_among marks ps = omega arith in z))
        ∙ later
        ∙ ap (λ b. b && all_marked marks ps) (sym e)
    go later false e =
        ap (λ n. eqb n 0) (missing_more marks q ps false e)
        ∙ some (missing_among marks ps)
        ∙ ap (λ b. b && all_marked marks ps) (sym e)

-- at first each is missing
pub all_missing : (ps : List ProcId) → missing_among sets.empty ps ≡ length ps
all_missing [] = refl
all_missing (q ∷ ps) =
    missing_more sets.empty q ps false (sets.contains-empty nat_cmp q.0)
    ∙ (let e : 1 + missing_among sets.empty ps ≡ suc (length ps) = omega (arith, all_missing ps) in e)

-- who isn't in a set isn't taken out
pub remove_absent : (marks : sets.FinSet nat_cmp) (p : ℕ) → sets.contains marks p ≡ false → marks ≡ sets.remove marks p
remove_absent marks p isnt = sets.same_set nat_cmp_total sets.nat_cmp-IsAntisymmetric _ _ (λ q. sym (has_removed marks p q ∙ go q (eqb q p) refl))
  where
    go : (q : ℕ) (b : Bool) → eqb q p ≡ b → (not b && sets.contains marks q) ≡ sets.contains marks q
    go q true e = sym (ap (sets.contains marks) (same_number q p e) ∙ isnt)
    go q false e = refl

-- ---- who is a member

-- members that rise hold a process where those below it end, or not at all
pub found_at : (p place : ℕ) (ps : List ProcId) → AllPairs (λ p q. p.0 < q.0) ps → IsPartitionPoint (λ q. ltb q.0 p ≡ true) (λ q. ltb q.0 p ≡ false) ps place
    → is_among ps p ≡ option_map_or (λ q. eqb q.0 p) (slice_get ps place) false
found_at p zero [] rising parted = refl
found_at p zero (q ∷ ps) rising parted = go (eqb q.0 p) refl
  where
    none_later : eqb q.0 p ≡ false → is_among ps p ≡ false
    none_later other =
        let high : ltb q.0 p ≡ false = parted.1 0 q (omega arith) (omega arith) in
        let above : p < q.0 = grind (arith, nat_tests) in
        below_is_apart p ps (λ k d within. let next : q.0 < (get_or ps k d).0 = rising 0 (suc k) d (omega arith) (omega arith) in omega arith)

    go : (b : Bool) → eqb q.0 p ≡ b → (b || is_among ps p) ≡ b
    go true e = refl
    go false e = none_later e
found_at p (suc place) [] rising parted = refl
found_at p (suc place) (q ∷ ps) rising parted =
    let low : ltb q.0 p ≡ true = parted.0 0 q (omega arith) (omega arith) in
    let other : eqb q.0 p ≡ false = grind (arith, nat_tests) in
    ap (λ b. b || is_among ps p) other
    ∙ found_at p place ps (λ i j d lt within. rising (suc i) (suc j) d (omega arith) (omega arith)) (λ k d low high. parted.0 (suc k) d (omega arith) (omega arith), λ k d low high. parted.1 (suc k) d (omega arith) (omega arith))
