use Rattle.fy_spelling.proofs.Round.{one_entry}
use Rattle.fy_spelling.proofs.laws.a_text_is_of_one_entry.Goals as goal

pub returns : goal.returns
returns c = one_entry
