use Rattle.fy_spelling.proofs.Plain.{plain_spells}
use Rattle.fy_spelling.proofs.laws.plain_text_parses.Goals as goal

pub returns : goal.returns
returns c = plain_spells
