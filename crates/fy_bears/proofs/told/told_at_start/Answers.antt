use Rattle.std.proofs.Common.{refl, subst}
use Rattle.fy_decide.specs.DeadBook.{IsFresh}
use Rattle.fy_bears.proofs.told.told_at_start.Goals as goal

pub returns-clause-told : goal.returns-clause-told
returns-clause-told c = record {
  none = refl;
  dead = c.in-Ok.dead;
  book =
      subst (λ qs. IsFresh c.args.config.now.processes qs c.in-Ok.dead) c.policies-policies.ensures
      (subst (λ ps. IsFresh ps c.policies-policies.result.now c.in-Ok.dead) c.map-map.ensures c.in-Ok.ensures.made);
  found = c.in_ok-findings.ensures;
  forgetting = c.in_ok-forgetting.ensures;
}
