use Rattle.std.proofs.Common.{refl, subst}
use Rattle.fy_kinds.specs.declared.kind.Kind.TheVariants.{RebootProcess}
use Rattle.fy_c.specs.KillingProcess.{JudgesProcess}
use Rattle.fy_c.specs.Numbers.{kind_number}
use Rattle.fy_c.proofs.Orders.{outcome}
use Rattle.fy_c.proofs.killable.hardest_on.Goals as goal

pub returns : goal.returns
returns c =
    let answer = c.judge_process in
    let status = c.outcome_of-status.result.0 in
    let told = c.outcome_of-status.result.1 in record {
      status = status;
      told = told;
      judged = subst
          (λ kind. JudgesProcess c.args.cluster.now c.args.actor (record {
            process = c.args.process;
            kind = kind;
            floor = kind_number RebootProcess;
            tear = 0;
          }) told status)
          c.kind_number-kind.ensures
          (subst
          (λ floor. JudgesProcess c.args.cluster.now c.args.actor (record {
            process = c.args.process;
            kind = c.kind_number-kind.result;
            floor = floor;
            tear = 0;
          }) told status)
          c.kind_number-floor.ensures
          (outcome
          (JudgesProcess c.args.cluster.now c.args.actor (record {
            process = c.args.process;
            kind = c.kind_number-kind.result;
            floor = c.kind_number-floor.result;
            tear = 0;
          }))
          answer.result c.outcome_of-status.result (answer.ensures.replied, answer.ensures.none)
          c.outcome_of-status.ensures.status c.outcome_of-status.ensures.told
          c.outcome_of-status.ensures.none));
      kind_is = refl;
    }
