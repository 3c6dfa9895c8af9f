use Rattle.std.proofs.Common.{◌≡◌, ◌++◌, drop, map, option_map}
use Rattle.toml.specs.View.{items_view}
use Rattle.fy_config.specs.Given.{protection_given}
use Rattle.fy_config.specs.Tables.{all_of, protection_of}
use Rattle.fy_config.proofs.fields.protections_of.Given as goal

-- what is kept so far with what the values that are left spell
abbrev pub invariant-loop-value : goal.invariant-loop-value
invariant-loop-value l =
    option_map (λ more. l.protections.items ++ map protection_given more)
    (all_of protection_of (items_view (drop l.value-index l.values)))
    ≡ option_map (map protection_given) (all_of protection_of (items_view l.values))
