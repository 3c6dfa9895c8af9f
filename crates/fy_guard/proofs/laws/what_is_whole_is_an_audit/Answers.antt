use Rattle.fy_guard.proofs.Whole.{whole_is_audit}
use Rattle.fy_guard.proofs.laws.what_is_whole_is_an_audit.Goals as goal

pub returns : goal.returns
returns c = whole_is_audit c.a_text_is_a_line.ensures
