-- sets by what is put together
use Rattle.std.proofs.Common.{◌≡◌, ◌∙◌, ap, ap₂, refl, ℕ, Bool, true, false, ◌&&◌, not, nat_lt, length}
use Rattle.std.specs.FinSet as sets
use Rattle.std.specs.Ordering.{nat_cmp}
use Rattle.std.specs.Cmp.{nat_cmp_total}
use Rattle.fy_locality.specs.Locality.{has_value}
use Rattle.fy_kinds.specs.declared.order.Target.{Target}
use Rattle.fy_cluster.specs.Execution.{Execution, history_of}
use Rattle.fy_cluster.specs.History.{gone}
use Rattle.fy_c.specs.Sets.{left_in, gone_in, targets_in}

not_left : (there gone : Bool) → (there && not (there && not gone)) ≡ (there && gone)
not_left true true = refl
not_left true false = refl
not_left false gone = refl

-- those that are there and not left are gone
pub gone_is : (execution : Execution) (everyone left out : sets.FinSet nat_cmp) →
    ((q : ℕ) → sets.contains everyone q ≡ nat_lt q (length execution.setup.processes)) →
    ((q : ℕ) → sets.contains left q ≡ left_in execution q) → out ≡ sets.difference everyone left →
    (p : ℕ) → sets.contains out p ≡ gone_in execution p
gone_is execution everyone left out all some is p =
    ap (λ s. sets.contains s p) is
    ∙ sets.contains-difference nat_cmp_total everyone left p
    ∙ ap₂ (λ a b. a && not b) (all p) (some p)
    ∙ not_left (nat_lt p (length execution.setup.processes)) (gone (history_of execution) p)

turned : (a b : Bool) → (a && b) ≡ (b && a)
turned true true = refl
turned true false = refl
turned false true = refl
turned false false = refl

-- those that have the value and are left are meant by the target
pub targets_are : (execution : Execution) (target : Target) (having left out : sets.FinSet nat_cmp) →
    ((q : ℕ) → sets.contains having q
    ≡ has_value execution.setup.processes target.key target.value q) →
    ((q : ℕ) → sets.contains left q ≡ left_in execution q) → out ≡ sets.intersection having left →
    (p : ℕ) → sets.contains out p ≡ targets_in execution target p
targets_are execution target having left out all some is p =
    ap (λ s. sets.contains s p) is
    ∙ sets.contains-intersection nat_cmp_total having left p
    ∙ ap₂ (λ a b. a && b) (all p) (some p)
    ∙ turned (has_value execution.setup.processes target.key target.value p) (left_in execution p)
