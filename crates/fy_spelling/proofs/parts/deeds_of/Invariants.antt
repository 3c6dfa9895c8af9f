use Rattle.std.proofs.Common.{◌≡◌, drop, option_map}
use Rattle.serde_json.specs.View.{items_view}
use Rattle.fy_kinds.specs.Kinds.{in_either}
use Rattle.fy_spelling.specs.Candidate.{deeds_from}
use Rattle.fy_spelling.specs.Command.{gathered}
use Rattle.fy_spelling.proofs.parts.deeds_of.Given as goal

-- the kinds so far with those of the words that are left
abbrev pub invariant-loop-value : goal.invariant-loop-value
invariant-loop-value l =
    option_map (λ rest. in_either l.kinds (gathered rest))
    (deeds_from (items_view (drop l.value-index l.values)))
    ≡ option_map gathered (deeds_from (items_view l.values))
