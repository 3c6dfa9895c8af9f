use Rattle.std.proofs.Common.{subst}
use Rattle.fy_cluster.specs.Replies.{Legal}
use Rattle.fy_cluster.proofs.laws.journals_survive.Goals as goal

pub returns : goal.returns
returns c = λ setup journal met legal. record {
  legal = legal;
  safe = λ before later is.
      let front = c.one_entry_more.ensures.fronts setup before later (subst (Legal setup) is legal) in
      record {
        short = c.destroyed_short.ensures setup before met front;
        satisfied = c.left_satisfy.ensures setup before met front;
        kept = c.records_kept.ensures setup before met front;
      };
  judged = c.kills_judged.ensures setup journal legal;
  named = c.rules_named.ensures setup journal legal;
  told = c.clients_told.ensures setup journal legal;
}
