use Rattle.std.proofs.Common.{ap, sym, ◌∙◌}
use Rattle.std.specs.Prelude.{slice_get}
use Rattle.fy_locality.specs.Locality.{values_of}
use Rattle.fy_decide.specs.DeadBook.{may_lose}
use Rattle.fy_tolerance.specs.Bears.{left_with_value}
use Rattle.fy_tolerance.proofs.BorneLosses.{map_more}
use Rattle.fy_tolerance.proofs.groups.borne_alone.Goals as goal

pub loop-i-preserved : goal.loop-i-preserved
loop-i-preserved c =
    map_more (λ value. may_lose c.args.dead.now (left_with_value c.args.dead.now c.args.key value) c.args.loss) (values_of c.args.dead.now.processes c.args.key) c.loop-i.i c.in-Some.value c.loop-i.borne.items c.push.new.self.items c.may_destroy.result
    (ap (λ processes. slice_get (values_of processes c.args.key) c.loop-i.i) (sym c.requires.map) ∙ sym c.in-Some.ensures)
    c.loop-i.invariant c.in_ok-push.ensures.items
    (c.may_destroy.ensures.test ∙ ap (λ s. may_lose c.args.dead.now s c.args.loss) c.members_left.ensures)
