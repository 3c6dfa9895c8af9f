-- the set of those who may be clogged, and who of them is
use Rattle.std.proofs.Common.{◌≡◌, ◌==◌, ◌<◌, ◌≤◌, ℕ, Bool, true, false, not, ◌&&◌, ◌||◌, List, length, nat_lt, slice_index, slice_set, refl, sym, ◌∙◌, ap, arith, eqb-true}
use Rattle.std.proofs.lemmas.List.{get_or-set_same, get_or-set_other}
use Rattle.std.proofs.lemmas.Bool.{true≢false, false≢true}
use Rattle.std.proofs.lemmas.Bool.Decides.{nat_tests}
use Rattle.std.specs.Ordering.{nat_cmp}
use Rattle.std.specs.Cmp.{nat_cmp_total, unsigned_tied}
use Rattle.std.specs.FinSet as sets
use Rattle.fy_locality.specs.Members.{IsLeast}

abbrev pub Set : Type 0
Set = sets.FinSet nat_cmp

-- no clog of who isn't in the set lasts
abbrev pub Holds : Set → ℕ → List ℕ → Type 0
Holds set clock until = (p : ℕ) → sets.contains set p ≡ false → nat_lt clock (slice_index until p) ≡ false

put_has : (set : Set) (p q : ℕ) → sets.contains (sets.insert set p) q ≡ ((q == p) || sets.contains set q)
put_has set p q = sets.contains-insert nat_cmp_total set p q ∙ ap (λ b. b || sets.contains set q) (unsigned_tied q p)

dropped_has : (set : Set) (p q : ℕ) → sets.contains (sets.remove set p) q ≡ (not (q == p) && sets.contains set q)
dropped_has set p q = sets.contains-remove nat_cmp_total set p q ∙ ap (λ b. not b && sets.contains set q) (unsigned_tied q p)

or_false : (a b : Bool) → (a || b) ≡ false → (a ≡ false) × (b ≡ false)
or_false false false e = (refl, refl)
or_false true b e = absurd (true≢false e)
or_false false true e = absurd (true≢false e)

apart : (q p : ℕ) → (q == p) ≡ false → q ≡ p → ⊥
apart q p e same = let s : (q == p) ≡ true = grind (arith, nat_tests) in true≢false (sym s ∙ e)

-- whoever is clogged is put in
pub holds_put : (set : Set) (clock : ℕ) (until : List ℕ) (p end : ℕ) → Holds set clock until → Holds (sets.insert set p) clock (slice_set until p end)
holds_put set clock until p end kept q out =
    let parts = or_false (q == p) (sets.contains set q) (sym (put_has set p q) ∙ out) in
    ap (nat_lt clock) (get_or-set_other until p q end 0 (apart q p parts.0)) ∙ kept q parts.1

-- whoever is unclogged is taken out
pub holds_dropped : (set : Set) (clock : ℕ) (until : List ℕ) (p end : ℕ) → end ≤ clock → p < length until → Holds set clock until → Holds (sets.remove set p) clock (slice_set until p end)
holds_dropped set clock until p end over there kept q out = at (q == p) refl
  where
    at : (b : Bool) → (q == p) ≡ b → nat_lt clock (slice_index (slice_set until p end) q) ≡ false
    at true e =
        let same : q ≡ p = eqb-true q p e in
        ap (λ i. nat_lt clock (slice_index (slice_set until p end) i)) same
        ∙ ap (nat_lt clock) (get_or-set_same until p end 0 there)
        ∙ (let f : nat_lt clock end ≡ false = grind (arith, nat_tests) in f)
    at false e =
        ap (nat_lt clock) (get_or-set_other until p q end 0 (apart q p e))
        ∙ kept q (sym (ap (λ b. not b && sets.contains set q) e) ∙ sym (dropped_has set p q) ∙ out)

-- ---- who of them is clogged, one after another

-- the rest is of the set, and of those visited the ones of whom it holds are found
pub record Finds (set rest found : Set) (holds : ℕ → Bool) : Type 0 where
  pub within : (q : ℕ) → sets.contains rest q ≡ true → sets.contains set q ≡ true
  pub has : (q : ℕ) → sets.contains found q ≡ (sets.contains set q && not (sets.contains rest q) && holds q)

pub finds_none : (set found : Set) (holds : ℕ → Bool) → found ≡ sets.empty → Finds set set found holds
finds_none set found holds none = record {
  within = λ q there. there;
  has = λ q. ap (λ s. sets.contains s q) none ∙ sets.contains-empty nat_cmp q ∙ nothing (sets.contains set q) (holds q);
}
  where
    nothing : (b h : Bool) → false ≡ (b && not b && h)
    nothing true h = refl
    nothing false h = refl

-- one more, who is found where it holds
pub finds_more : {set rest next found later : Set} {holds : ℕ → Bool} (p : ℕ) → IsLeast rest p → next ≡ sets.remove rest p
    → ((q : ℕ) → sets.contains later q ≡ ((q == p) && holds p || sets.contains found q)) → Finds set rest found holds → Finds set next later holds
finds_more {set} {rest} {next} {found} {later} {holds} p least without is k = record {
  within = λ q there. k.within q (left_of (q == p) (sets.contains rest q) (sym (left q) ∙ there));
  has = λ q. is q ∙ ap (λ b. (q == p) && holds p || b) (k.has q) ∙ at q (q == p) refl;
}
  where
    left : (q : ℕ) → sets.contains next q ≡ (not (q == p) && sets.contains rest q)
    left q = ap (λ s. sets.contains s q) without ∙ dropped_has rest p q

    left_of : (b r : Bool) → (not b && r) ≡ true → r ≡ true
    left_of true r e = absurd (false≢true e)
    left_of false r e = e

    here : (s r h : Bool) → s ≡ true → r ≡ true → (h || (s && not r && h)) ≡ (s && true && h)
    here true true true e f = refl
    here true true false e f = refl
    here false r h e f = absurd (false≢true e)
    here true false h e f = absurd (false≢true f)

    at : (q : ℕ) → (b : Bool) → (q == p) ≡ b → ((q == p) && holds p || (sets.contains set q && not (sets.contains rest q) && holds q)) ≡ (sets.contains set q && not (sets.contains next q) && holds q)
    at q true e =
        let same : q ≡ p = eqb-true q p e in
        let inside : sets.contains rest q ≡ true = ap (sets.contains rest) same ∙ least.present in
        ap (λ b. b && holds p || (sets.contains set q && not (sets.contains rest q) && holds q)) e
        ∙ ap (λ i. holds i || (sets.contains set q && not (sets.contains rest q) && holds q)) (sym same)
        ∙ here (sets.contains set q) (sets.contains rest q) (holds q) (k.within q inside) inside
        ∙ sym (ap (λ b. sets.contains set q && not b && holds q) (left q ∙ ap (λ b. not b && sets.contains rest q) e))
    at q false e =
        ap (λ b. b && holds p || (sets.contains set q && not (sets.contains rest q) && holds q)) e
        ∙ sym (ap (λ b. sets.contains set q && not b && holds q) (left q ∙ ap (λ b. not b && sets.contains rest q) e))

-- after the last it is everyone of whom it holds, where it holds of none outside the set
pub finds_all : {set rest found : Set} {holds : ℕ → Bool} → rest ≡ sets.empty → ((q : ℕ) → sets.contains set q ≡ false → holds q ≡ false) → Finds set rest found holds
    → (q : ℕ) → sets.contains found q ≡ holds q
finds_all {set} {rest} {found} {holds} none out k q =
    k.has q
    ∙ ap (λ b. sets.contains set q && not b && holds q) (ap (λ s. sets.contains s q) none ∙ sets.contains-empty nat_cmp q)
    ∙ at (sets.contains set q) refl
  where
    at : (b : Bool) → sets.contains set q ≡ b → (b && true && holds q) ≡ holds q
    at true e = refl
    at false e = sym (out q e)

pub found_put : (found : Set) {later : Set} (p : ℕ) (h : Bool) → h ≡ true → later ≡ sets.insert found p → (q : ℕ) → sets.contains later q ≡ ((q == p) && h || sets.contains found q)
found_put found p h e is q = ap (λ s. sets.contains s q) is ∙ put_has found p q ∙ at (q == p) h e
  where
    at : (b h : Bool) → h ≡ true → (b || sets.contains found q) ≡ (b && h || sets.contains found q)
    at true true e = refl
    at true false e = absurd (false≢true e)
    at false h e = refl

pub found_same : (found : Set) (p : ℕ) (h : Bool) → h ≡ false → (q : ℕ) → sets.contains found q ≡ ((q == p) && h || sets.contains found q)
found_same found p h e q = at (q == p) h e
  where
    at : (b h : Bool) → h ≡ false → sets.contains found q ≡ (b && h || sets.contains found q)
    at true true e = absurd (true≢false e)
    at true false e = refl
    at false h e = refl
