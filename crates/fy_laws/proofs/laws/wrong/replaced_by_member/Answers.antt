use Rattle.fy_laws.proofs.Illegal.{replaced_by_member}
use Rattle.fy_laws.proofs.laws.wrong.replaced_by_member.Goals as goal

pub returns : goal.returns
returns c = replaced_by_member
