use Rattle.std.proofs.Common.{ap, sym, ◌∙◌}
use Rattle.std.specs.FinSet as sets
use Rattle.std.specs.Prelude.{map, slice_get}
use Rattle.fy_locality.specs.Locality.{values_of}
use Rattle.fy_tolerance.specs.Bears.{left_with_value}
use Rattle.fy_tolerance.proofs.BorneLosses.{map_more, map_pushed}
use Rattle.fy_tolerance.proofs.groups.left_of_each.Goals as goal

pub loop-i-preserved : goal.loop-i-preserved
loop-i-preserved c =
    map_more (left_with_value c.args.dead.now c.args.key) (values_of c.args.dead.now.processes c.args.key) c.loop-i.i c.in-Some.value
    (map (λ set. sets.contains set) c.loop-i.groups.items) (map (λ set. sets.contains set) c.push.new.self.items) (sets.contains c.members_left.result)
    (ap (λ processes. slice_get (values_of processes c.args.key) c.loop-i.i) (sym c.requires.map) ∙ sym c.in-Some.ensures)
    c.loop-i.invariant
    (ap (λ sets'. map (λ set. sets.contains set) sets') c.in_ok-push.ensures.items ∙ map_pushed (λ set. sets.contains set) c.loop-i.groups.items c.members_left.result)
    c.members_left.ensures
