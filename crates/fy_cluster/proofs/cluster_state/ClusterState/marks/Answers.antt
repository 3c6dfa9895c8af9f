use Rattle.std.proofs.Common.{◌≡◌, ◌∙◌, sym, ap, subst, option_map}
use Rattle.std.specs.Prelude.{option_and_then}
use Rattle.fy_cluster.specs.Execution.{Execution, history_of}
use Rattle.fy_cluster.specs.History.{ack_of, record_marked}
use Rattle.fy_cluster.specs.Standing.{RefinesJournal}
use Rattle.fy_cluster.proofs.Acknowledging.{marks_none, marked_now, unmarked_entered}
use Rattle.fy_cluster.proofs.cluster_state.ClusterState.marks.Goals as goal

pub returns-in_err-body-in-Deliver-clause-marked : goal.returns-in_err-body-in-Deliver-clause-marked
returns-in_err-body-in-Deliver-clause-marked c =
    c.from_residual.ensures
    ∙ ap (λ o. option_map (λ w. w.0) (option_and_then ack_of o)) (sym c.in_err-body-in-Deliver.was ∙ c.body.ensures.body)
    ∙ marked_now c.args.self.now c.self.inside.machine (subst (λ (it : Execution). RefinesJournal it.setup it.journal c.self.inside.machine) c.self.view_is c.self.invariant) c.args.act.now c.in-Deliver.message c.in-Deliver.is

pub returns-in_err-body-in-Deliver-clause-others : goal.returns-in_err-body-in-Deliver-clause-others
returns-in_err-body-in-Deliver-clause-others c by r other =
    let marked : c.from_residual.result ≡ record_marked (history_of c.args.self.now) c.args.act.now =
    c.from_residual.ensures
    ∙ ap (λ o. option_map (λ w. w.0) (option_and_then ack_of o)) (sym c.in_err-body-in-Deliver.was ∙ c.body.ensures.body)
    ∙ marked_now c.args.self.now c.self.inside.machine (subst (λ (it : Execution). RefinesJournal it.setup it.journal c.self.inside.machine) c.self.view_is c.self.invariant) c.args.act.now c.in-Deliver.message c.in-Deliver.is in
    unmarked_entered c.args.self.now by c.args.act.now r (λ is. other (marked ∙ is))

pub returns-in_ok-body-in-Deliver-clause-marked : goal.returns-in_ok-body-in-Deliver-clause-marked
returns-in_ok-body-in-Deliver-clause-marked c =
    c.acknowledged_by.ensures
    ∙ ap (λ o. option_map (λ w. w.0) (option_and_then ack_of o)) (sym c.in_ok-body-in-Deliver.was ∙ c.body.ensures.body)
    ∙ marked_now c.args.self.now c.self.inside.machine (subst (λ (it : Execution). RefinesJournal it.setup it.journal c.self.inside.machine) c.self.view_is c.self.invariant) c.args.act.now c.in-Deliver.message c.in-Deliver.is

pub returns-in_ok-body-in-Deliver-clause-others : goal.returns-in_ok-body-in-Deliver-clause-others
returns-in_ok-body-in-Deliver-clause-others c by r other =
    let marked : c.acknowledged_by.result ≡ record_marked (history_of c.args.self.now) c.args.act.now =
    c.acknowledged_by.ensures
    ∙ ap (λ o. option_map (λ w. w.0) (option_and_then ack_of o)) (sym c.in_ok-body-in-Deliver.was ∙ c.body.ensures.body)
    ∙ marked_now c.args.self.now c.self.inside.machine (subst (λ (it : Execution). RefinesJournal it.setup it.journal c.self.inside.machine) c.self.view_is c.self.invariant) c.args.act.now c.in-Deliver.message c.in-Deliver.is in
    unmarked_entered c.args.self.now by c.args.act.now r (λ is. other (marked ∙ is))

pub returns-in_default : goal.returns-in_default
returns-in_default c =
    record {
      marked = marks_none (history_of c.args.self.now) c.args.act.now c.in_default.not-Deliver;
      others = λ by r other. unmarked_entered c.args.self.now by c.args.act.now r (λ is. other (marks_none (history_of c.args.self.now) c.args.act.now c.in_default.not-Deliver ∙ is));
    }
