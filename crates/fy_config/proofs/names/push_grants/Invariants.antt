use Rattle.std.proofs.Common.{◌≡◌, ◌++◌, drop}
use Rattle.std.specs.List.{filter_map}
use Rattle.fy_config.specs.Named.{grant_by, have_scopes}
use Rattle.fy_config.proofs.names.push_grants.Given as goal

-- the grants so far with those that are left
abbrev pub invariant-loop-given : goal.invariant-loop-given
invariant-loop-given l =
    record {
      put : l.grants.items ++ filter_map (grant_by l.number) (drop l.given-index l.actor.grants.items)
          ≡ l.initial.grants.items ++ filter_map (grant_by l.number) l.actor.grants.items;
      known : have_scopes (drop l.given-index l.actor.grants.items) ≡ have_scopes l.actor.grants.items;
    }
