use Rattle.std.proofs.Common.{ap, ◌∙◌}
use Rattle.std.specs.FinSet as sets
use Rattle.fy_picture.proofs.Moving.{moved_but}
use Rattle.fy_picture.proofs.tallied_set.TalliedSet.move_to.Goals as goal

pub move_those-requires : goal.move_those-requires
move_those-requires c = λ p out.
    ap (λ s. sets.contains s p) c.self.invariant
    ∙ moved_but c.symmetric_difference-those.result c.self.inside.set c.args.set.now c.symmetric_difference-those.ensures p out
