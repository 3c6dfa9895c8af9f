use Rattle.std.proofs.Common.{◌≡◌, ◌++◌, drop, map, option_map}
use Rattle.toml.specs.View.{items_view}
use Rattle.fy_config.specs.Given.{actor_given, actor_kept}
use Rattle.fy_config.specs.Tables.{all_of, actor_of}
use Rattle.fy_config.proofs.fields.actors_of.Given as goal

-- the actors so far with those of the values that are left
abbrev pub invariant-loop-value : goal.invariant-loop-value
invariant-loop-value l =
    option_map (λ more. map actor_kept l.actors.items ++ map actor_given more)
    (all_of actor_of (items_view (drop l.value-index l.values)))
    ≡ option_map (map actor_given) (all_of actor_of (items_view l.values))
