use Rattle.fy_spelling.proofs.Feedless.{held_feedless}
use Rattle.fy_spelling.proofs.HeldOnce.{one_held_entry}
use Rattle.fy_spelling.proofs.laws.a_held_text_is_of_one_entry.Goals as goal

pub returns-clause-one : goal.returns-clause-one
returns-clause-one c = one_held_entry

pub returns-clause-lines : goal.returns-clause-lines
returns-clause-lines c = held_feedless
