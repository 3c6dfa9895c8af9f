use Rattle.std.proofs.Common.{◌≡◌, ◌<◌, length, Some, option_map, sym, arith}
use Rattle.serde_json.specs.View.{view}
use Rattle.fy_kinds.specs.Kinds.{only}
use Rattle.fy_spelling.specs.Candidate.{deed_from}
use Rattle.fy_spelling.proofs.Found.{kinds_kept}
use Rattle.fy_spelling.proofs.parts.deeds_of.Goals as goal

pub loop-value-preserved : goal.loop-value-preserved
loop-value-preserved c =
    let within : c.loop-value.value-index < length c.args.values.now = omega arith in
    let has : option_map only (deed_from (view c.value-item.result)) ≡ Some c.in_ok-deed_of.field-0 =
    sym c.in_ok-deed_of.ensures in
    rw c.insert.ensures
    (kinds_kept c.loop-value.kinds c.in_ok-deed_of.field-0 c.args.values.now
    c.loop-value.value-index c.value-item.result _ within c.value-item.is has c.loop-value.invariant)
