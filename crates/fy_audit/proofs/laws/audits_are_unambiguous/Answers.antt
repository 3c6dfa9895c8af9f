use Rattle.fy_audit.proofs.OneAudit.{answer_once}
use Rattle.fy_audit.proofs.laws.audits_are_unambiguous.Goals as goal

pub returns : goal.returns
returns c = answer_once c.a_text_is_of_one_entry.ensures c.a_text_is_a_line.ensures
