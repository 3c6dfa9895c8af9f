use Rattle.fy_laws.proofs.Illegal.{protection_named_first}
use Rattle.fy_laws.proofs.laws.wrong.protection_named_first.Goals as goal

pub returns : goal.returns
returns c = protection_named_first
