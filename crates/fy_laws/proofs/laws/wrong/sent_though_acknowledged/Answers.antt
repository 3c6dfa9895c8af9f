use Rattle.fy_laws.proofs.Illegal.{sent_though_acknowledged}
use Rattle.fy_laws.proofs.laws.wrong.sent_though_acknowledged.Goals as goal

pub returns : goal.returns
returns c = sent_though_acknowledged
