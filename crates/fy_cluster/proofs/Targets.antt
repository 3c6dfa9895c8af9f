-- the members of a set are visited one after another, and what is at their numbers is changed
use Rattle.std.proofs.Common.{◌==◌, ◌≡◌, ℕ, ◌<◌, Bool, true, false, ◌&&◌, ◌||◌, not, List, length, get_or, slice_set, slice_index, refl, sym, ◌∙◌, ap, ap₂, arith, if◌then◌else◌, length-set, eqb-true}
use Rattle.std.proofs.lemmas.List.{get_or-set_same, get_or-set_other}
use Rattle.std.proofs.lemmas.Bool.{true≢false}
use Rattle.std.proofs.lemmas.Bool.Decides.{nat_tests}
use Rattle.std.specs.Ordering.{nat_cmp}
use Rattle.std.specs.Cmp.{nat_cmp_total, unsigned_tied}
use Rattle.std.specs.FinSet as sets
use Rattle.fy_locality.specs.Members.{IsLeast}
use Rattle.fy_net.specs.Net.{NetState}
use Rattle.fy_cluster.specs.Standing.{ChangesAt, ClogsChange}

abbrev Set : Type 0
Set = sets.FinSet nat_cmp

-- whether a number is of the set and no more in the rest
abbrev pub visited : Set → Set → ℕ → Bool
visited set rest p = sets.contains set p && not (sets.contains rest p)

-- the rest is of the set, and the elements at the numbers that were visited are changed
pub record Visits {X : Type 0} (set rest : Set) (change : X → X) (empty_disk : X) (old new : List X) : Type 0 where
  pub within : (p : ℕ) → sets.contains rest p ≡ true → sets.contains set p ≡ true
  pub done : ChangesAt (visited set rest) change empty_disk old new

-- a number that is in the rest is one of the list's
pub visits_below : {X : Type 0} {set rest : Set} {change : X → X} {empty_disk : X} {old new : List X} {p : ℕ} → ((q : ℕ) → sets.contains set q ≡ true → q < length old)
    → IsLeast rest p → Visits set rest change empty_disk old new → p < length new
visits_below {p} small least k = let n = k.done.count in let s = small p (k.within p least.present) in omega arith

-- one more
pub visits_more : {X : Type 0} {set rest next : Set} {change : X → X} {empty_disk : X} {old new later : List X} {p : ℕ} → ((q : ℕ) → sets.contains set q ≡ true → q < length old)
    → IsLeast rest p → next ≡ sets.remove rest p → later ≡ slice_set new p (change (get_or new p empty_disk)) → Visits set rest change empty_disk old new → Visits set next change empty_disk old later
visits_more {X} {set} {rest} {next} {change} {empty_disk} {old} {new} {later} {p} small least without is k = record {
  within = λ q there. at_rest q (q == p) (sym (left q) ∙ there);
  done = record { count = ap length is ∙ length-set new p _ ∙ k.done.count; each = λ q l. ap (λ xs. get_or xs q empty_disk) is ∙ at q l (q == p) refl };
}
  where
    left : (q : ℕ) → sets.contains next q ≡ (not (q == p) && sets.contains rest q)
    left q = ap (λ s. sets.contains s q) without ∙ sets.contains-remove nat_cmp_total rest p q ∙ ap (λ b. not b && sets.contains rest q) (unsigned_tied q p)

    at_rest : (q : ℕ) (b : Bool) → (not b && sets.contains rest q) ≡ true → sets.contains set q ≡ true
    at_rest q true there = absurd (true≢false (sym there))
    at_rest q false there = k.within q there

    -- what is at a number, by whether it is in the set and in the rest
    was : ℕ → X
    was q = get_or old q empty_disk

    becomes : ℕ → Bool → Bool → X
    becomes q member remains = if member && not remains then change (was q) else was q

    at : (q : ℕ) → q < length old → (b : Bool) → (q == p) ≡ b → get_or (slice_set new p (change (get_or new p empty_disk))) q empty_disk ≡ becomes q (sets.contains set q) (sets.contains next q)
    at q l true e =
        let same : q ≡ p = eqb-true q p e in
        let here : sets.contains rest q ≡ true = ap (sets.contains rest) same ∙ least.present in
        let changed : get_or (slice_set new p (change (get_or new p empty_disk))) p empty_disk ≡ change (get_or new p empty_disk) = get_or-set_same new p _ empty_disk (visits_below small least k) in
        ap (λ i. get_or (slice_set new p (change (get_or new p empty_disk))) i empty_disk) same
        ∙ changed
        ∙ ap (λ i. change (get_or new i empty_disk)) (sym same)
        ∙ ap change (k.done.each q l ∙ ap₂ (becomes q) (k.within q here) here)
        ∙ sym (ap₂ (becomes q) (k.within q here) (left q ∙ ap (λ b. not b && sets.contains rest q) e))
    at q l false e =
        get_or-set_other new p q (change (get_or new p empty_disk)) empty_disk (λ w. (let s : (q == p) ≡ true = grind (arith, nat_tests) in true≢false (sym s ∙ e)))
        ∙ k.done.each q l
        ∙ ap (becomes q (sets.contains set q)) (sym (left q ∙ ap (λ b. not b && sets.contains rest q) e))

and_true : {X : Type 0} (b : Bool) (x y : X) → (if b && true then x else y) ≡ (if b then x else y)
and_true true x y = refl
and_true false x y = refl

-- after the last
pub visits_all : {X : Type 0} {set rest : Set} {change : X → X} {empty_disk : X} {old new : List X} → rest ≡ sets.empty → Visits set rest change empty_disk old new → ChangesAt (sets.contains set) change empty_disk old new
visits_all {set} {change} {empty_disk} {old} none k = record {
  count = k.done.count;
  each = λ p l.
      k.done.each p l
      ∙ ap (λ b. if sets.contains set p && not b then change (get_or old p empty_disk) else get_or old p empty_disk) (ap (λ s. sets.contains s p) none ∙ sets.contains-empty nat_cmp p)
      ∙ and_true (sets.contains set p) (change (get_or old p empty_disk)) (get_or old p empty_disk);
}

-- a set of one number: what is there is changed
pub lone_changed : {X : Type 0} {change : X → X} {empty_disk : X} {old new : List X} (set : Set) (p : ℕ) → set ≡ sets.insert sets.empty p → p < length old
    → new ≡ slice_set old p (change (get_or old p empty_disk)) → ChangesAt (sets.contains set) change empty_disk old new
lone_changed {X} {change} {empty_disk} {old} {new} set p alone small is = record {
  count = ap length is ∙ length-set old p _;
  each = λ q l. ap (λ xs. get_or xs q empty_disk) is ∙ at q (q == p) refl ∙ ap (λ b. if b then change (get_or old q empty_disk) else get_or old q empty_disk) (sym (member q));
}
  where
    member : (q : ℕ) → sets.contains set q ≡ (q == p)
    member q = ap (λ s. sets.contains s q) alone ∙ sets.contains-insert nat_cmp_total sets.empty p q ∙ (λ i. unsigned_tied q p i || sets.contains-empty nat_cmp q i) ∙ itself (q == p)
      where
        itself : (b : Bool) → (b || false) ≡ b
        itself true = refl
        itself false = refl

    at : (q : ℕ) → (b : Bool) → (q == p) ≡ b → get_or (slice_set old p (change (get_or old p empty_disk))) q empty_disk ≡ (if q == p then change (get_or old q empty_disk) else get_or old q empty_disk)
    at q true e =
        let same : q ≡ p = eqb-true q p e in
        ap (λ i. get_or (slice_set old p (change (get_or old p empty_disk))) i empty_disk) same
        ∙ get_or-set_same old p _ empty_disk small
        ∙ ap (λ i. change (get_or old i empty_disk)) (sym same)
        ∙ ap (λ b. if b then change (get_or old q empty_disk) else get_or old q empty_disk) (sym e)
    at q false e =
        get_or-set_other old p q (change (get_or old p empty_disk)) empty_disk (λ w. (let s : (q == p) ≡ true = grind (arith, nat_tests) in true≢false (sym s ∙ e)))
        ∙ ap (λ b. if b then change (get_or old q empty_disk) else get_or old q empty_disk) (sym e)

-- the one of a lone set is in it
pub lone_member : (set : Set) (p : ℕ) → set ≡ sets.insert sets.empty p → sets.contains set p ≡ true
lone_member set p alone = ap (λ s. sets.contains s p) alone ∙ sets.contains-insert nat_cmp_total sets.empty p p ∙ (λ i. unsigned_tied p p i || sets.contains-empty nat_cmp p i) ∙ itself
  where
    itself : ((p == p) || false) ≡ true
    itself = let e : (p == p) ≡ true = grind (arith, nat_tests) in rw e refl

-- those of a set that are passed over would have stayed as they were
pub passed_over : {X : Type 0} {set part : ℕ → Bool} {change : X → X} {empty_disk : X} {old new : List X} → ((p : ℕ) → part p ≡ true → set p ≡ true)
    → ((p : ℕ) → set p ≡ true → part p ≡ false → change (get_or old p empty_disk) ≡ get_or old p empty_disk) → ChangesAt part change empty_disk old new → ChangesAt set change empty_disk old new
passed_over {X} {set} {part} {change} {empty_disk} {old} {new} within same k = record { count = k.count; each = λ p l. k.each p l ∙ either p (part p) refl (set p) refl }
  where
    either : (p : ℕ) (b : Bool) → part p ≡ b → (s : Bool) → set p ≡ s → (if b then change (get_or old p empty_disk) else get_or old p empty_disk) ≡ (if s then change (get_or old p empty_disk) else get_or old p empty_disk)
    either p true e true f = refl
    either p false e false f = refl
    either p true e false f = absurd (true≢false (sym (within p e) ∙ f))
    either p false e true f = sym (same p f e)

-- what changes nothing changes nothing at a set
pub unchanged : {X : Type 0} {set : ℕ → Bool} {change : X → X} {empty_disk : X} {old : List X} → ((x : X) → change x ≡ x) → ChangesAt set change empty_disk old old
unchanged {X} {set} {change} {empty_disk} {old} same = record {
  count = refl;
  each = λ p l. either (set p) (get_or old p empty_disk);
}
  where
    either : (b : Bool) (x : X) → x ≡ (if b then change x else x)
    either true x = sym (same x)
    either false x = refl

-- ---- clogs

-- the same of the ends of clogs, while nothing else of the network is changed
pub record VisitsClogs (set rest : Set) (change : ℕ → ℕ → ℕ) (old new : NetState) : Type 0 where
  pub others : new ≡ record old { until = new.until }
  pub ends : Visits set rest (change old.clock) 0 old.until new.until

pub clogs_more : {set rest next : Set} {change : ℕ → ℕ → ℕ} {old new later : NetState} {p : ℕ} → ((q : ℕ) → sets.contains set q ≡ true → q < length old.until) → IsLeast rest p → next ≡ sets.remove rest p
    → later ≡ record new { until = slice_set new.until p (change new.clock (slice_index new.until p)) } → VisitsClogs set rest change old new → VisitsClogs set next change old later
clogs_more {change} {old} {new} {p} small least without is k = record {
  others = is ∙ ap (λ (net : NetState). record net { until = slice_set new.until p (change new.clock (slice_index new.until p)) }) k.others ∙ sym (ap (λ (net : NetState). record old { until = net.until }) is);
  ends = visits_more small least without (ap (λ (net : NetState). net.until) is ∙ ap (λ (net : NetState). slice_set new.until p (change net.clock (slice_index new.until p))) k.others) k.ends;
}

pub clogs_all : {set rest : Set} {change : ℕ → ℕ → ℕ} {old new : NetState} → rest ≡ sets.empty → VisitsClogs set rest change old new → ClogsChange (sets.contains set) change old new
clogs_all none k = record { rest = k.others; ends = visits_all none k.ends }
