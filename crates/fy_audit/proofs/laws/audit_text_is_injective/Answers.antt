use Rattle.fy_audit.proofs.Ones.{audit_once}
use Rattle.fy_audit.proofs.laws.audit_text_is_injective.Goals as goal

pub returns : goal.returns
returns c = audit_once c.a_held_text_is_of_one_entry.ensures.one c.a_held_text_is_of_one_entry.ensures.lines
