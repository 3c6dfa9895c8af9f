use Rattle.fy_c.proofs.Missing.{missing}
use Rattle.fy_c.proofs.entering.fy_heal.Goals as goal

pub returns-clause-missing : goal.returns-clause-missing
returns-clause-missing c = λ is.
    missing c.args.guard.now.value c.enter.new.guard.value c.args.actor c.args.process _ _
    c.enter.ensures.entered is
