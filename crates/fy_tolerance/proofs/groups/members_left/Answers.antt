use Rattle.std.proofs.Common.{◌&&◌, ap, ◌∙◌}
use Rattle.std.specs.FinSet as sets
use Rattle.std.specs.Cmp.{nat_cmp_total}
use Rattle.fy_locality.specs.Locality.{has_value}
use Rattle.fy_tolerance.proofs.groups.members_left.Goals as goal

pub returns : goal.returns
returns c = λ i p.
    (ap (λ s. sets.contains s p) c.intersection.ensures
    ∙ sets.contains-intersection nat_cmp_total c.left.result c.members.result p
    ∙ ap (λ s. sets.contains s p && sets.contains c.members.result p) c.left.ensures.left
    ∙ ap (λ b. sets.contains c.args.dead.now.left p && b) (c.members.ensures p ∙ ap (λ processes. has_value processes c.args.key c.args.value.now p) c.requires.map)) i
