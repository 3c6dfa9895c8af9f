use Rattle.fy_c.proofs.Checked.{what_was_read_is_found}
use Rattle.fy_c.proofs.laws.what_was_read_is_found.Goals as goal

pub returns : goal.returns
returns c = what_was_read_is_found
