-- members that rise, and teams that satisfy their policies
use Rattle.std.proofs.Common.{◌≡◌, ◌↔◌, ℕ, zero, suc, ◌+◌, ◌<◌, ◌≤◌, Bool, true, false, cond, ◌&&◌, ◌||◌, eqb, leb, List, [], ◌∷◌, ◌++◌, length, get_or, drop, refl, ap, ◌∙◌, arith}
use Rattle.std.specs.Prelude.{Option, Some, None, slice_get}
use Rattle.std.specs.List.{All, AllPairs, list_any}
use Rattle.std.specs.Ordering.{nat_cmp}
use Rattle.std.specs.FinSet as sets
use Rattle.std.proofs.lemmas.Bool.Decides.{nat_tests}
use Rattle.std.proofs.lemmas.List.Elements.{All-cons}
use Rattle.std.proofs.Math.Seq.{drop-cons}
use Rattle.fy_locality.specs.declared.ProcId.{ProcId}
use Rattle.fy_locality.specs.declared.locality.Locality.{Locality}
use Rattle.fy_policy.specs.Tree.{Tree}
use Rattle.fy_policy.specs.Sat.{Sat, satisfies}
use Rattle.fy_team.specs.Members.{rises_from}
use Rattle.fy_team.specs.Standing.{MembersTested}
use Rattle.fy_team.specs.Teams.{Team, is_among, IsFormed, AreFormed, unfit}
use Rattle.fy_team.specs.declared.limits.TheConstants.{MOST_MEMBERS}
use Rattle.fy_team.specs.declared.fault.TeamFault.TheVariants.{NoProcess, Gone, TeamShort}

-- ---- rising numbers

pub both : (a b : Bool) → (a && b) ≡ true → (a ≡ true) × (b ≡ true)
both true b e = (refl, e)
both false b e = absurd (let x : ⊥ = cc in x)

no_less : (low q : ℕ) → leb low q ≡ true → low ≤ q
no_less low q e = grind (arith, nat_tests)

-- what is left of the test from a place on
pub rises-at : (low : ℕ) (ps : List ProcId) (k : ℕ) (d : ProcId) → k < length ps → rises_from low (drop k ps) ≡ (leb low (get_or ps k d).0 && rises_from ((get_or ps k d).0 + 1) (drop (suc k) ps))
rises-at low ps k d within = ap (rises_from low) (drop-cons ps k d within)

least_at : (low : ℕ) (ps : List ProcId) (k : ℕ) (d : ProcId) → rises_from low ps ≡ true → k < length ps → low ≤ (get_or ps k d).0
least_at low [] k d rising within = absurd (omega arith)
least_at low (p ∷ ps) zero d rising within = no_less low p.0 (both (leb low p.0) (rises_from (p.0 + 1) ps) rising).0
least_at low (p ∷ ps) (suc k) d rising within =
    let first : (leb low p.0 ≡ true) × (rises_from (p.0 + 1) ps ≡ true) = both (leb low p.0) (rises_from (p.0 + 1) ps) rising in
    let within' : k < length ps = omega arith in
    let here : low ≤ p.0 = no_less low p.0 first.0 in
    let there : p.0 + 1 ≤ (get_or ps k d).0 = least_at (p.0 + 1) ps k d first.1 within' in
    omega arith

rises-between : (low : ℕ) (ps : List ProcId) → rises_from low ps ≡ true → (i j : ℕ) (d : ProcId) → i < j → j < length ps → (get_or ps i d).0 < (get_or ps j d).0
rises-between low [] rising i j d lt within = absurd (omega arith)
rises-between low (p ∷ ps) rising i zero d lt within = absurd (omega arith)
rises-between low (p ∷ ps) rising zero (suc j) d lt within =
    let first : (leb low p.0 ≡ true) × (rises_from (p.0 + 1) ps ≡ true) = both (leb low p.0) (rises_from (p.0 + 1) ps) rising in
    let within' : j < length ps = omega arith in
    let there : p.0 + 1 ≤ (get_or ps j d).0 = least_at (p.0 + 1) ps j d first.1 within' in
    omega arith
rises-between low (p ∷ ps) rising (suc i) (suc j) d lt within = rises-between (p.0 + 1) ps (both _ _ rising).1 i j d (omega arith) (omega arith)

tested : (low q : ℕ) → low ≤ q → leb low q ≡ true
tested low q le = grind (arith, nat_tests)

pub untested : (low q : ℕ) → q < low → leb low q ≡ false
untested low q lt = grind (arith, nat_tests)

from_pairs : (low : ℕ) (ps : List ProcId) → ((d : ProcId) → 0 < length ps → low ≤ (get_or ps 0 d).0) → AllPairs (λ p q. p.0 < q.0) ps → rises_from low ps ≡ true
from_pairs low [] first rising = refl
from_pairs low (p ∷ ps) first rising =
    ap (λ b. b && rises_from (p.0 + 1) ps) (tested low p.0 (first p (omega arith)))
    ∙ from_pairs (p.0 + 1) ps (λ d within. let next : p.0 < (get_or ps 0 d).0 = rising 0 1 d (omega arith) (omega arith) in omega arith) (λ i j d lt within. rising (suc i) (suc j) d (omega arith) (omega arith))

-- the test is the relation
pub rises-AllPairs : (ps : List ProcId) → (rises_from 0 ps ≡ true) ↔ AllPairs (λ p q. p.0 < q.0) ps
rises-AllPairs ps = (rises-between 0 ps, from_pairs 0 ps (λ d within. omega arith))

-- so is that of members
pub members_tested : MembersTested
members_tested ps = (
  λ e.
      let few : (leb (length ps) MOST_MEMBERS ≡ true) × (rises_from 0 ps ≡ true) = both (leb (length ps) MOST_MEMBERS) (rises_from 0 ps) e in
      record { few = no_less (length ps) MOST_MEMBERS few.0; rising = (rises-AllPairs ps).0 few.1 },
  λ are. rw (tested (length ps) MOST_MEMBERS are.few, (rises-AllPairs ps).1 are.rising) refl,
)

-- ---- teams

none_found : {X : Type 0} (test : X → Bool) (xs : List X) → list_any test xs ≡ false → All (λ x. test x ≡ false) xs
none_found test [] e = λ k d h. absurd (omega arith)
none_found test (x ∷ xs) e = go (λ none. none_found test xs none) (test x) refl e
  where
    go : (list_any test xs ≡ false → All (λ x. test x ≡ false) xs) → (b : Bool) → test x ≡ b → (b || list_any test xs) ≡ false → All (λ x. test x ≡ false) (x ∷ xs)
    go later true is none = absurd (let y : ⊥ = cc in y)
    go later false is none = All-cons (λ x. test x ≡ false) x xs is (later none)

below : (n q : ℕ) → leb n q ≡ false → q < n
below n q e = grind (arith, nat_tests)

-- where nobody is n or more, each is below n
pub all_below : (n : ℕ) (ps : List ProcId) → list_any (λ p. leb n p.0) ps ≡ false → All (λ p. p.0 < n) ps
all_below n ps none = λ k d h. below n _ (none_found (λ p. leb n p.0) ps none k d h)

not_below : (n m q : ℕ) → n ≤ m → leb n q ≡ false → leb m q ≡ false
not_below n m q le e = grind (arith, nat_tests)

-- and then nobody is more than that
pub none_above : (n m : ℕ) (ps : List ProcId) → n ≤ m → list_any (λ p. leb n p.0) ps ≡ false → list_any (λ p. leb m p.0) ps ≡ false
none_above n m [] le none = refl
none_above n m (p ∷ ps) le none = go (λ rest. none_above n m ps le rest) (leb n p.0) refl none
  where
    go : (list_any (λ p. leb n p.0) ps ≡ false → list_any (λ p. leb m p.0) ps ≡ false) → (b : Bool) → leb n p.0 ≡ b → (b || list_any (λ p. leb n p.0) ps) ≡ false → (leb m p.0 || list_any (λ p. leb m p.0) ps) ≡ false
    go later true is none = absurd (let y : ⊥ = cc in y)
    go later false is none = ap (λ b. b || list_any (λ p. leb m p.0) ps) (not_below n m p.0 le is) ∙ later none

-- members against whom nothing speaks
pub fit-IsFormed : ((processes : List Locality) (policy : Tree) (s : ℕ → Bool) → (satisfies processes policy s ≡ true) ↔ Sat processes policy s)
    → (processes : List Locality) (policies : List Tree) (gone : sets.FinSet nat_cmp) (members : List ProcId) (policy : ℕ)
    → unfit processes (slice_get policies policy) gone members policy ≡ None → IsFormed processes policies (record { members = members; policy = policy })
fit-IsFormed law processes policies gone members policy = go (slice_get policies policy) refl
  where
    go : (found : Option Tree) → slice_get policies policy ≡ found → unfit processes found gone members policy ≡ None → IsFormed processes policies (record { members = members; policy = policy })
    go None is fit = absurd (let x : ⊥ = cc in x)
    go (Some need) is fit = strangers (list_any (λ p. leb (length processes) p.0) members) refl fit
      where
        short : list_any (λ p. leb (length processes) p.0) members ≡ false → (c : Bool) → satisfies processes need (is_among members) ≡ c → cond c None (Some (TeamShort policy)) ≡ None → IsFormed processes policies (record { members = members; policy = policy })
        short none true sat e = record { need = need; named = is; known = all_below (length processes) members none; satisfied = (law processes need (is_among members)).0 sat }
        short none false sat e = absurd (let x : ⊥ = cc in x)

        lost : list_any (λ p. leb (length processes) p.0) members ≡ false → (b : Bool) → cond b (Some Gone) (cond (satisfies processes need (is_among members)) None (Some (TeamShort policy))) ≡ None → IsFormed processes policies (record { members = members; policy = policy })
        lost none true e = absurd (let x : ⊥ = cc in x)
        lost none false e = short none (satisfies processes need (is_among members)) refl e

        strangers : (a : Bool) → list_any (λ p. leb (length processes) p.0) members ≡ a → cond a (Some NoProcess) (cond (list_any (λ p. sets.contains gone p.0) members) (Some Gone) (cond (satisfies processes need (is_among members)) None (Some (TeamShort policy)))) ≡ None → IsFormed processes policies (record { members = members; policy = policy })
        strangers true none e = absurd (let x : ⊥ = cc in x)
        strangers false none e = lost none (list_any (λ p. sets.contains gone p.0) members) e

pub AreFormed-push : (processes : List Locality) (policies : List Tree) (teams : List Team) (team : Team) → IsFormed processes policies team → AreFormed processes policies teams → AreFormed processes policies (teams ++ team ∷ [])
AreFormed-push processes policies [] team here formed = (here, tt)
AreFormed-push processes policies (t ∷ ts) team here formed = (formed.0, AreFormed-push processes policies ts team here formed.1)

-- ---- members as a set

turned : (b c : Bool) → (b || c) ≡ (c || b)
turned true true = refl
turned true false = refl
turned false true = refl
turned false false = refl

same_either_way : (p q : ℕ) → eqb q p ≡ eqb p q
same_either_way p q = grind (arith, nat_tests)

pub either_way : (q p : ℕ) (b : Bool) → (eqb q p || b) ≡ (b || eqb p q)
either_way q p b = turned (eqb q p) b ∙ ap (λ c. b || c) (same_either_way p q)
