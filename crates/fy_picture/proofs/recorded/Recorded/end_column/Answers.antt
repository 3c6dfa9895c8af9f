use Rattle.std.proofs.Common.{refl, subst}
use Rattle.fy_cluster.specs.Execution.{Execution, history_of}
use Rattle.fy_picture.specs.Columns.{AreStates}
use Rattle.fy_picture.proofs.recorded.Recorded.end_column.Goals as goal

pub returns : goal.returns
returns c = record {
  same = record { state = c.forget_ended.ensures; plan = refl; entries = refl; acked = refl };
  column = record { end = c.args.self.now.entries; states = c.states_of-states.result; counts = c.new.result };
  more = c.in_ok-push.ensures.items;
  end = refl;
  states = subst (λ (x : Execution). AreStates x.setup (history_of x) c.states_of-states.result) c.forget_ended.ensures c.states_of-states.ensures;
}
