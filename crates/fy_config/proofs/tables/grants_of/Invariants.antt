use Rattle.std.proofs.Common.{◌≡◌, ◌++◌, drop, map, option_map}
use Rattle.toml.specs.View.{items_view}
use Rattle.fy_config.specs.Given.{grant_given}
use Rattle.fy_config.specs.Tables.{all_of, grant_of}
use Rattle.fy_config.proofs.tables.grants_of.Given as goal

-- the grants so far with those of the values that are left
abbrev pub invariant-loop-value : goal.invariant-loop-value
invariant-loop-value l =
    option_map (λ more. l.given.items ++ map grant_given more)
    (all_of grant_of (items_view (drop l.value-index l.values)))
    ≡ option_map (map grant_given) (all_of grant_of (items_view l.values))
