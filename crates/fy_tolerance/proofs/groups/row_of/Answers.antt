use Rattle.std.proofs.Common.{◌≡◌, ◌+◌, drop, map, ap, ◌∙◌, arith}
use Rattle.std.specs.FinSet as sets
use Rattle.std.proofs.lemmas.Option.{get_or_from_slice_get}
use Rattle.fy_decide.specs.DeadBook.{may_lose}
use Rattle.fy_decide.specs.Safety.{with_set}
use Rattle.fy_tolerance.proofs.BorneLosses.{with-is}
use Rattle.fy_tolerance.proofs.Tolerating.{maps_on, maps_end}
use Rattle.fy_tolerance.proofs.groups.row_of.Goals as goal

pub loop-j-preserved : goal.loop-j-preserved
loop-j-preserved c =
    maps_on (λ other. may_lose c.args.dead.now (with_set (sets.contains c.index-groups-i.result) (sets.contains other)) c.args.loss) c.args.groups.now c.loop-j.j c.index-groups-j.result c.loop-j.row.items c.push.new.self.items c.may_destroy.result _
    (omega arith) c.index-groups-j.is c.in_ok-push.ensures.items
    (c.may_destroy.ensures.test ∙ ap (λ s. may_lose c.args.dead.now s c.args.loss) (with-is c.index-groups-i.result c.index-groups-j.result c.union.result c.union.ensures))
    c.loop-j.invariant

pub returns : goal.returns
returns c = λ one at.
    let same : c.index-groups-i.result ≡ one = c.index-groups-i.is ∙ get_or_from_slice_get c.args.groups.now c.args.i one c.index-groups-i.result at in
    maps_end (λ other. may_lose c.args.dead.now (with_set (sets.contains c.index-groups-i.result) (sets.contains other)) c.args.loss) c.args.groups.now c.loop-j.j c.loop-j.row.items _ (omega arith) c.loop-j.invariant
    ∙ ap (λ first. map (λ other. may_lose c.args.dead.now (with_set (sets.contains first) (sets.contains other)) c.args.loss) (drop (c.args.i + 1) c.args.groups.now)) same
