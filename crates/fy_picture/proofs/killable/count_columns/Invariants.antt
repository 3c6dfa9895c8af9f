use Rattle.std.specs.Prelude.{◌≡◌}
use Rattle.fy_picture.specs.Counters.{AreCounters}
use Rattle.fy_picture.specs.Killable.{AreCounted, states_in}
use Rattle.fy_picture.specs.Layouts.{ends_of}
use Rattle.fy_picture.proofs.killable.count_columns.Given as goal

-- the columns so far are counted
abbrev pub invariant-loop-k : goal.invariant-loop-k
invariant-loop-k l = record {
  counters : AreCounters l.config l.counters.items;
  ends : ends_of l.columns.items ≡ ends_of l.fn.columns.items;
  states : states_in l.columns.items ≡ states_in l.fn.columns.items;
  counted : AreCounted l.config l.k l.columns.items;
}
