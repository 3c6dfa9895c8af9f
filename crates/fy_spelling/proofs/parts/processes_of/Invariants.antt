use Rattle.std.proofs.Common.{◌≡◌, ◌++◌, drop, option_map}
use Rattle.serde_json.specs.View.{items_view}
use Rattle.fy_spelling.specs.Candidate.{processes_from}
use Rattle.fy_spelling.proofs.parts.processes_of.Given as goal

-- the processes so far with those of the values that are left
abbrev pub invariant-loop-value : goal.invariant-loop-value
invariant-loop-value l =
    option_map (λ rest. l.found.items ++ rest)
    (processes_from (items_view (drop l.value-index l.values)))
    ≡ processes_from (items_view l.values)
