use Rattle.fy_policy.proofs.Tallied.{passing-keyless'}
use Rattle.fy_policy.proofs.laws.keyless_pass_nothing.Goals as goal

pub returns : goal.returns
returns c = λ processes key policy p s t keyless same. passing-keyless' processes key policy s t p keyless same
