use Rattle.fy_audit.proofs.Steps.{no_header}
use Rattle.fy_audit.proofs.reader.after_header.Goals as goal

pub returns-in-None-clause-none : goal.returns-in-None-clause-none
returns-in-None-clause-none c =
    no_header c.args.bytes.now c.in-None.ensures.none c.in_default.ensures.none
