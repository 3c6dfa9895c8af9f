-- a book of one policy, and a set that is lost in it
use Rattle.std.proofs.Common.{◌≡◌, ℕ, ◌<◌, Bool, true, false, ◌&&◌, ◌||◌, Some, List, [], ◌∷◌, length, refl, sym, ap, subst, ◌∙◌, arith}
use Rattle.std.specs.Prelude.{nat_lt, slice_get}
use Rattle.std.specs.Ordering.{nat_cmp}
use Rattle.std.specs.Cmp.{nat_cmp_total}
use Rattle.std.specs.FinSet as sets
use Rattle.std.proofs.lemmas.Bool.{false≢true, both_ways}
use Rattle.std.proofs.lemmas.Bool.Decides.{nat_tests}
use Rattle.fy_locality.specs.declared.locality.Locality.{Locality}
use Rattle.fy_policy.specs.Counted.{number_of}
use Rattle.fy_policy.specs.Laws.{TestIsSatisfaction}
use Rattle.fy_policy.specs.Sat.{Sat, satisfies}
use Rattle.fy_policy.specs.Tree.{Tree}
use Rattle.fy_policy.proofs.Tallied.{same_below}
use Rattle.fy_policy.proofs.Toggling.{number-len}
use Rattle.fy_decide.specs.declared.dead_book.Loss.TheVariants.{Emptied}
use Rattle.fy_decide.specs.DeadBook.{Losses, IsFresh, MayLose, struck}
use Rattle.fy_decide.specs.Safety.{AreShort, everyone, with_set}
use Rattle.fy_tolerance.specs.declared.tolerance.Tolerance.{Tolerance}
use Rattle.fy_votes.specs.Forgetting.{Takes}

-- nobody is destroyed in a new book
with_nobody : (begun set : sets.FinSet nat_cmp) → begun ≡ sets.empty → with_set (sets.contains begun) (sets.contains set) ≡ sets.contains set
with_nobody begun set none = λ i p. joined p i
  where
    joined : (p : ℕ) → (sets.contains begun p || sets.contains set p) ≡ sets.contains set p
    joined p = ap (λ b. b || sets.contains set p) (ap (λ (t : sets.FinSet nat_cmp). sets.contains t p) none ∙ sets.contains-empty nat_cmp p)

-- a set that a new book of one policy doesn't bear satisfies it
pub unborne : TestIsSatisfaction → (processes : List Locality) (policy : Tree) (policies : List Tree) (dead : Losses) (set : sets.FinSet nat_cmp) → IsFresh processes policies dead → policies ≡ policy ∷ [] → (MayLose dead (sets.contains set) Emptied → ⊥) → Sat processes policy (sets.contains set)
unborne tested processes policy policies dead set fresh one barred = go (satisfies processes policy (sets.contains set)) refl
  where
    short : (Sat processes policy (sets.contains set) → ⊥) → MayLose dead (sets.contains set) Emptied
    short never =
        let alone : AreShort processes (policy ∷ []) (sets.contains set) = (never, tt) in
        subst (λ ps. AreShort ps dead.policies (with_set (sets.contains dead.destroyed) (sets.contains set))) (sym fresh.processes_are)
        (subst (λ qs. AreShort processes qs (with_set (sets.contains dead.destroyed) (sets.contains set))) (sym (fresh.policies_are ∙ one))
        (subst (AreShort processes (policy ∷ [])) (sym (with_nobody dead.destroyed set fresh.none_destroyed)) alone))

    go : (b : Bool) → satisfies processes policy (sets.contains set) ≡ b → Sat processes policy (sets.contains set)
    go true is = (tested processes policy (sets.contains set)).0 is
    go false is = absurd (barred (short (λ sat. both_ways _ is ((tested processes policy (sets.contains set)).1 sat))))

-- what it takes beside the destroyed of the book is what it takes beside the set
pub taken_beside_lost : (processes : List Locality) (policy : Tree) (policies : List Tree) (begun dead : Losses) (set : sets.FinSet nat_cmp) (found : Tolerance) → IsFresh processes policies begun → policies ≡ policy ∷ [] → dead ≡ struck begun set Emptied
    → ((q : Tree) → slice_get dead.policies 0 ≡ Some q → Takes dead.processes q (sets.contains dead.destroyed) found) → Takes processes policy (sets.contains set) found
taken_beside_lost processes policy policies begun dead set found fresh one lost each =
    let policies_are : dead.policies ≡ policy ∷ [] = ap (λ (d : Losses). d.policies) lost ∙ fresh.policies_are ∙ one in
    let processes_are : dead.processes ≡ processes = ap (λ (d : Losses). d.processes) lost ∙ fresh.processes_are in
    let destroyed_are : sets.contains dead.destroyed ≡ sets.contains set = ap (λ (d : Losses). sets.contains d.destroyed) lost ∙ union_is ∙ with_nobody begun.destroyed set fresh.none_destroyed in
    let here : Takes dead.processes policy (sets.contains dead.destroyed) found = each policy (ap (λ qs. slice_get qs 0) policies_are) in
    subst (λ ps. Takes ps policy (sets.contains set) found) processes_are
    (subst (λ s. Takes dead.processes policy s found) destroyed_are here)
  where
    union_is : sets.contains (sets.union begun.destroyed set) ≡ with_set (sets.contains begun.destroyed) (sets.contains set)
    union_is = λ i p. sets.contains-union nat_cmp_total begun.destroyed set p i

-- how many of a set are processes of the map
pub known_are : (set all both : sets.FinSet nat_cmp) (n : ℕ) → both ≡ sets.intersection set all → ((q : ℕ) → sets.contains all q ≡ nat_lt q n) → sets.len both ≡ number_of (sets.contains set) n
known_are set all both n is everyone = sym (number-len both n low) ∙ same_below (sets.contains both) (sets.contains set) n (λ q below. in_both q ∙ ap (λ b. sets.contains set q && b) (everyone q ∙ is_below q n below) ∙ whole (sets.contains set q))
  where
    in_both : (q : ℕ) → sets.contains both q ≡ (sets.contains set q && sets.contains all q)
    in_both q = ap (λ (t : sets.FinSet nat_cmp). sets.contains t q) is ∙ sets.contains-intersection nat_cmp_total set all q

    is_below : (q n : ℕ) → q < n → nat_lt q n ≡ true
    is_below q n h = grind (arith, nat_tests)

    below_is : (q n : ℕ) → nat_lt q n ≡ true → q < n
    below_is q n h = grind (arith, nat_tests)

    second : (a b : Bool) → (a && b) ≡ true → b ≡ true
    second true b e = e
    second false b e = absurd (false≢true e)

    whole : (a : Bool) → (a && true) ≡ a
    whole true = refl
    whole false = refl

    low : (q : ℕ) → sets.contains both q ≡ true → q < n
    low q h = below_is q n (sym (everyone q) ∙ second (sets.contains set q) _ (sym (in_both q) ∙ h))

-- everyone, as a set and as a test
pub everyone_is : (processes : List Locality) (all : sets.FinSet nat_cmp) → ((q : ℕ) → sets.contains all q ≡ nat_lt q (length processes)) → sets.contains all ≡ everyone processes
everyone_is processes all same = λ i q. same q i

-- what not even everyone satisfies
pub unmet : (known processes : List Locality) (policy : Tree) (all : sets.FinSet nat_cmp) → known ≡ processes → ((q : ℕ) → sets.contains all q ≡ nat_lt q (length known)) → (Sat known policy (sets.contains all) → ⊥) → Sat processes policy (everyone processes) → ⊥
unmet known processes policy all same each never sat =
    never (subst (Sat known policy) (sym (everyone_is known all each)) (subst (λ ps. Sat ps policy (everyone ps)) (sym same) sat))
