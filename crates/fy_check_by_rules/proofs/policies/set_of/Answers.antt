use Rattle.std.proofs.Common.{◌≡◌, Bool, true, false, ◌&&◌, length, refl, ap, ◌∙◌}
use Rattle.std.specs.Prelude.{nat_lt}
use Rattle.std.specs.FinSet as sets
use Rattle.std.specs.Ordering.{nat_cmp}
use Rattle.fy_check_by_rules.proofs.policies.set_of.Goals as goal

and_false : (b : Bool) → false ≡ (b && false)
and_false true = refl
and_false false = refl

pub loop-p-init : goal.loop-p-init
loop-p-init c = λ q. ap (λ s. sets.contains s q) c.empty-set.ensures ∙ sets.contains-empty nat_cmp q ∙ and_false (nat_lt q (length c.args.map.now))
