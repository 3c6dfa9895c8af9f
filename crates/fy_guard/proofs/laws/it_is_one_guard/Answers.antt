use Rattle.fy_guard.proofs.Behind.{one_audit, one_guard}
use Rattle.fy_guard.proofs.laws.it_is_one_guard.Goals as goal

pub returns-clause-audit : goal.returns-clause-audit
returns-clause-audit c = one_audit

pub returns-clause-guard : goal.returns-clause-guard
returns-clause-guard c = one_guard
