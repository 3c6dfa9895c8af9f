use Rattle.std.proofs.Common.{◌≡◌, ◌++◌, drop, map, option_map}
use Rattle.toml.specs.Data.{as_str}
use Rattle.toml.specs.View.{items_view}
use Rattle.fy_config.specs.Tables.{all_of}
use Rattle.fy_config.proofs.fields.texts_of.Given as goal

-- the texts so far with those of the values that are left
abbrev pub invariant-loop-value : goal.invariant-loop-value
invariant-loop-value l =
    option_map (λ more. map (λ text. text.now) l.texts.items ++ more)
    (all_of as_str (items_view (drop l.value-index l.values)))
    ≡ all_of as_str (items_view l.values)
