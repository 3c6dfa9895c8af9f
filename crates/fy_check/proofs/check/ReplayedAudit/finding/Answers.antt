use Rattle.std.proofs.Common.{refl}
use Rattle.fy_check.proofs.Checking.{found_of_replayed}
use Rattle.fy_check.proofs.check.ReplayedAudit.finding.Goals as goal

pub returns-clause-found : goal.returns-clause-found
returns-clause-found c = λ setup known is.
    found_of_replayed setup known c.args.self.now _ refl c.first_bad.ensures is
