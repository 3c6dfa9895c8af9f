use Rattle.std.proofs.Common.{◌≡◌, ◌<◌, ◌+◌, ◌++◌, ◌∷◌, ◌∙◌, [], List, length, drop, map, Option, Some, option_map, sym, ap, arith}
use Rattle.toml.specs.View.{view, items_view}
use Rattle.fy_locality.specs.declared.locality.Locality.{Locality}
use Rattle.fy_config.specs.Given.{process_given}
use Rattle.fy_config.specs.Tables.{all_of, process_of}
use Rattle.fy_config.proofs.Lists.{one_more_kept}
use Rattle.fy_config.proofs.fields.processes_of.Goals as goal

pub loop-value-preserved : goal.loop-value-preserved
loop-value-preserved c =
    let i = c.loop-value.value-index in
    let within : c.loop-value.value-index < length c.args.values.now = omega arith in
    let has : option_map process_given (process_of (view c.value-item.result)) ≡ Some c.in-Some.process =
    sym c.in-Some.ensures in
    let grown
    : c.push_process.new.processes.items ≡ c.loop-value.processes.items ++ c.in-Some.process ∷ [] =
    c.in_ok-push_process.ensures in
    ap (λ (items : List (Option Locality)). option_map (λ more. items ++ map process_given more)
    (all_of process_of (items_view (drop (i + 1) c.args.values.now)))) grown
    ∙ one_more_kept process_of process_given c.loop-value.processes.items c.in-Some.process
    c.args.values.now i c.value-item.result _ within c.value-item.is has c.loop-value.invariant
