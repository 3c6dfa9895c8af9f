use Rattle.std.proofs.lemmas.Result.{IfOk-weaker}
use Rattle.fy_votes.proofs.Taking.{takes}
use Rattle.fy_votes.proofs.forgetting.taken_beside.Goals as goal

pub returns : goal.returns
returns c = IfOk-weaker c.tolerance_of.result _ _ (λ found is policy at. takes c.test_is_satisfaction.ensures c.args.dead.now policy found (is policy at)) c.tolerance_of.ensures
