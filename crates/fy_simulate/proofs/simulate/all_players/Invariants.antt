use Rattle.std.proofs.Common.{◌≡◌, ◌++◌, drop}
use Rattle.fy_simulate.specs.Simulate.{players_from}
use Rattle.fy_simulate.proofs.simulate.all_players.Given as goal

abbrev pub invariant-loop-actor : goal.invariant-loop-actor
invariant-loop-actor l =
    l.players.items ++ players_from l.seed l.plan l.actor (drop l.actor l.config.roles)
    ≡ players_from l.seed l.plan 0 l.config.roles
