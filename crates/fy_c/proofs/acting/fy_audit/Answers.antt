use Rattle.std.proofs.Common.{◌∙◌, ap, subst}
use Rattle.fy_cluster.specs.Execution.{Execution}
use Rattle.fy_c.specs.Acting.{Reads}
use Rattle.fy_c.specs.Statuses.{ending}
use Rattle.fy_c.proofs.acting.fy_audit.Goals as goal

pub returns-clause-read : goal.returns-clause-read
returns-clause-read c = (
  ending c.audit_into.result,
  c.number_of.ensures,
  subst
      (λ entries. Reads entries c.args.at c.args.buffer.now c.audit_into.new.buffer c.args.told.now
      c.audit_into.new.told (ending c.audit_into.result))
      (c.journal-journal.ensures.journal
      ∙ ap (λ (it : Execution). it.journal) c.cluster.ensures.value)
      c.audit_into.ensures,
)
