use Rattle.std.proofs.Common.{◌∙◌, subst}
use Rattle.std.proofs.lemmas.Result.{IfOk-weaker}
use Rattle.fy_cluster.specs.Execution.{Execution, history_of}
use Rattle.fy_bears.specs.BearsTexts.{IsToldAfter}
use Rattle.fy_bears.proofs.told.told_after.Goals as goal

pub returns-clause-told : goal.returns-clause-told
returns-clause-told c =
    IfOk-weaker c.told_of.result _ _ (λ told those setup bytes is none. record {
      audit = is.audit;
      read = is.read;
      those = subst (λ (x : Execution). IsToldAfter x.setup c.args.elections.now (history_of x) told) (c.cluster.ensures ∙ is.those.execution none) those;
    }) c.told_of.ensures.told
