use Rattle.std.proofs.Common.{◌≡◌, ◌≤◌, length}
use Rattle.fy_simulate.specs.Simulate.{lots_from, opening, stage_of, Turns}
use Rattle.fy_simulate.proofs.simulate.play.Given as goal

abbrev pub invariant-loop : goal.invariant-loop
invariant-loop l = record {
  within : l.counter ≤ l.count;
  lots : l.simulation.lots.items ≡ lots_from 0 l.config.roles;
  players : length l.simulation.players.items ≡ length l.config.roles;
  setup : l.simulation.cluster.setup ≡ l.config;
  turns :
      Turns (lots_from 0 l.config.roles) (opening l.config l.seed l.fn.plan) l.counter
      (stage_of l.simulation);
}
