use Rattle.std.proofs.Common.{◌≡◌, sym, subst}
use Rattle.fy_decide.specs.Verdicts.{NamesProcess}
use Rattle.fy_acts.specs.declared.act.Act.TheVariants.{Kill}
use Rattle.fy_acts.specs.declared.reply.Reply.TheVariants.{No, Verdict}
use Rattle.fy_acts.specs.declared.reply.Refusal.TheVariants.{Stranger}
use Rattle.fy_cluster.specs.Execution.{Execution, replied}
use Rattle.fy_cluster.specs.History.{history}
use Rattle.fy_cluster.proofs.Shown.{judged_now, judged_stranger}
use Rattle.fy_cluster.proofs.cluster_state.ClusterState.judge_process.Goals as goal

pub returns-clause-some : goal.returns-clause-some
returns-clause-some c order kind_is floor_is named =
    let x = c.self.inside in
    subst (λ (it : Execution). Verdict c.judge_process-verdict.result ≡ replied it c.args.by (Kill order)) c.self.view_is
    (judged_now x.config (history x.config x.trail) x.machine c.self.invariant.stands c.args.by order c.in-Some.field-0 c.judge_process-verdict.result (sym c.in-Some.ensures)
    (c.judge_process-verdict.ensures order kind_is floor_is (subst (λ processes. NamesProcess processes c.args.process.0 order) (sym c.self.invariant.stands.dead.processes) (subst (λ (it : Execution). NamesProcess it.setup.processes c.args.process.0 order) (sym c.self.view_is) named))))

pub returns-in_default-clause-some : goal.returns-in_default-clause-some
returns-in_default-clause-some c order kind_is floor_is named =
    let x = c.self.inside in
    subst (λ (it : Execution). No Stranger ≡ replied it c.args.by (Kill order)) c.self.view_is
    (judged_stranger x.config (history x.config x.trail) c.args.by order (sym c.in_default.ensures))
