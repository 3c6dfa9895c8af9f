use Rattle.std.proofs.Common.{◌≡◌, ◌++◌, drop, map, option_map}
use Rattle.toml.specs.View.{items_view}
use Rattle.fy_config.specs.Given.{process_given}
use Rattle.fy_config.specs.Tables.{all_of, process_of}
use Rattle.fy_config.proofs.fields.processes_of.Given as goal

-- what is kept so far with what the values that are left spell
abbrev pub invariant-loop-value : goal.invariant-loop-value
invariant-loop-value l =
    option_map (λ more. l.processes.items ++ map process_given more)
    (all_of process_of (items_view (drop l.value-index l.values)))
    ≡ option_map (map process_given) (all_of process_of (items_view l.values))
