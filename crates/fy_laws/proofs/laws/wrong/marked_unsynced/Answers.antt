use Rattle.fy_laws.proofs.Illegal.{marked_unsynced}
use Rattle.fy_laws.proofs.laws.wrong.marked_unsynced.Goals as goal

pub returns : goal.returns
returns c = marked_unsynced
