use Rattle.std.proofs.Common.{ap, ◌∙◌, ◌&&◌}
use Rattle.std.specs.FinSet as sets
use Rattle.std.specs.Cmp.{nat_cmp_total}
use Rattle.fy_locality.specs.Locality.{has_value}
use Rattle.fy_decide.proofs.Judging.{swapped}
use Rattle.fy_decide.proofs.dead_book.DeadBook.targets.Goals as goal

pub returns : goal.returns
returns c = λ p.
    ap (λ s. sets.contains s p) c.intersection.ensures
    ∙ sets.contains-intersection nat_cmp_total c.members.result c.self.inside.left p
    ∙ swapped (sets.contains c.members.result p) (sets.contains c.self.inside.left p)
    ∙ ap (λ b. sets.contains c.self.inside.left p && b) (c.members.ensures p)
    ∙ ap (λ ps. sets.contains c.self.inside.left p && has_value ps c.args.target.now.key c.args.target.now.value p) c.requires
    ∙ ap (λ dead. sets.contains dead.left p && has_value c.args.self.now.processes c.args.target.now.key c.args.target.now.value p) c.self.view_is
