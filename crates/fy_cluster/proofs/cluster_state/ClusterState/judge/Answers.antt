use Rattle.std.proofs.Common.{◌≡◌, sym, subst}
use Rattle.fy_acts.specs.declared.act.Act.TheVariants.{Kill}
use Rattle.fy_acts.specs.declared.reply.Reply.TheVariants.{No, Verdict}
use Rattle.fy_acts.specs.declared.reply.Refusal.TheVariants.{Stranger}
use Rattle.fy_cluster.specs.Execution.{Execution, replied}
use Rattle.fy_cluster.specs.History.{history}
use Rattle.fy_cluster.proofs.Shown.{judged_now, judged_stranger}
use Rattle.fy_cluster.proofs.cluster_state.ClusterState.judge.Goals as goal

pub returns : goal.returns
returns c =
    let x = c.self.inside in
    subst (λ (it : Execution). Verdict c.judge-verdict.result ≡ replied it c.args.by (Kill c.args.order.now)) c.self.view_is
    (judged_now x.config (history x.config x.trail) x.machine c.self.invariant.stands c.args.by c.args.order.now c.in-Some.field-0 c.judge-verdict.result (sym c.in-Some.ensures) c.judge-verdict.ensures)

pub returns-in_default : goal.returns-in_default
returns-in_default c =
    let x = c.self.inside in
    subst (λ (it : Execution). No Stranger ≡ replied it c.args.by (Kill c.args.order.now)) c.self.view_is
    (judged_stranger x.config (history x.config x.trail) c.args.by c.args.order.now (sym c.in_default.ensures))
