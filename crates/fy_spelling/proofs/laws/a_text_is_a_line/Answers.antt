use Rattle.fy_spelling.proofs.Feedless.{text_feedless}
use Rattle.fy_spelling.proofs.laws.a_text_is_a_line.Goals as goal

pub returns : goal.returns
returns c = text_feedless
