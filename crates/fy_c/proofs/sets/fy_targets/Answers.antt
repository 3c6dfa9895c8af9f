use Rattle.std.proofs.Common.{subst}
use Rattle.fy_c.specs.Sets.{Targets}
use Rattle.fy_c.specs.Statuses.{ending}
use Rattle.fy_c.proofs.sets.fy_targets.Goals as goal

pub returns-clause-told : goal.returns-clause-told
returns-clause-told c = (
  ending c.write_targets.result,
  c.number_of.ensures,
  subst
      (λ execution. Targets execution c.args.key c.args.value.now c.args.set.now
      c.write_targets.new.set (ending c.write_targets.result))
      c.cluster.ensures.value c.write_targets.ensures,
)
