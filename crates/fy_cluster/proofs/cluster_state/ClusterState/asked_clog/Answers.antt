use Rattle.std.proofs.Common.{◌≡◌, sym, subst}
use Rattle.fy_acts.specs.declared.act.Act.TheVariants.{Clog}
use Rattle.fy_acts.specs.declared.reply.Reply.TheVariants.{No, Ruled}
use Rattle.fy_acts.specs.declared.reply.Refusal.TheVariants.{Stranger}
use Rattle.fy_cluster.specs.Execution.{Execution, replied}
use Rattle.fy_cluster.specs.History.{history}
use Rattle.fy_cluster.proofs.AskedNow.{clog_now, clog_stranger}
use Rattle.fy_cluster.proofs.cluster_state.ClusterState.asked_clog.Goals as goal

pub returns : goal.returns
returns c ticks =
    let x = c.self.inside in
    subst (λ (it : Execution). Ruled c.judge_clog-rule.result ≡ replied it c.args.by (Clog c.args.target.now ticks)) c.self.view_is
    (clog_now x.config (history x.config x.trail) x.machine c.self.invariant.stands c.args.by c.args.target.now ticks c.in-Some.field-0 c.judge_clog-rule.result (sym c.in-Some.ensures) c.judge_clog-rule.ensures)

pub returns-in_default : goal.returns-in_default
returns-in_default c ticks =
    let x = c.self.inside in
    subst (λ (it : Execution). No Stranger ≡ replied it c.args.by (Clog c.args.target.now ticks)) c.self.view_is
    (clog_stranger x.config (history x.config x.trail) c.args.by c.args.target.now ticks (sym c.in_default.ensures))
