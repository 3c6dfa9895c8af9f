use Rattle.std.proofs.Common.{◌≡◌, ◌<◌, length, Some, sym, arith}
use Rattle.toml.specs.View.{view}
use Rattle.fy_config.specs.Tables.{kind_set_of}
use Rattle.fy_config.proofs.Unions.{kinds_kept}
use Rattle.fy_config.proofs.tables.kinds_of.Goals as goal

pub loop-value-preserved : goal.loop-value-preserved
loop-value-preserved c =
    let within : c.loop-value.value-index < length c.args.values.now = omega arith in
    let has : kind_set_of (view c.value-item.result) ≡ Some c.in_ok-kind_set_of.field-0 =
    sym c.in_ok-kind_set_of.ensures in
    rw c.insert.ensures
    (kinds_kept c.loop-value.kinds c.in_ok-kind_set_of.field-0 c.args.values.now
    c.loop-value.value-index c.value-item.result _ within c.value-item.is has c.loop-value.invariant)
