use Rattle.fy_records.specs.Found.{some_of}
use Rattle.fy_records.specs.Verdicts.{shows_missing}
use Rattle.fy_records.proofs.Finding.{found_or_not}
use Rattle.fy_records.proofs.judge.missing_from.Goals as goal

pub returns-clause-whether : goal.returns-clause-whether
returns-clause-whether c =
    found_or_not (shows_missing (some_of c.args.reads.now) c.args.case) c.args.reads.now c.lacking_to_end.result c.lacking_to_end.ensures
