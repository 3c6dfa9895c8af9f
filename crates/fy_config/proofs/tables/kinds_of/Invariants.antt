use Rattle.std.proofs.Common.{◌≡◌, drop, option_map}
use Rattle.toml.specs.View.{items_view}
use Rattle.fy_kinds.specs.Kinds.{in_either}
use Rattle.fy_config.specs.Tables.{all_of, kind_set_of, union_of}
use Rattle.fy_config.proofs.tables.kinds_of.Given as goal

-- the kinds so far with those of the words that are left
abbrev pub invariant-loop-value : goal.invariant-loop-value
invariant-loop-value l =
    option_map (λ rest. in_either l.kinds (union_of rest))
    (all_of kind_set_of (items_view (drop l.value-index l.values)))
    ≡ option_map union_of (all_of kind_set_of (items_view l.values))
