use Rattle.std.proofs.Common.{◌≡◌, ◌&&◌, not, ap}
use Rattle.std.specs.Prelude.{nat_lt}
use Rattle.fy_records.specs.declared.seen.Seen.{Seen}
use Rattle.fy_records.specs.Found.{some_of}
use Rattle.fy_records.specs.Verdicts.{lacks_to_end, shows_process_loss}
use Rattle.fy_records.proofs.Finding.{finds_alike}
use Rattle.fy_records.proofs.judge.last_untold.Goals as goal

pub returns : goal.returns
returns c =
    let reads = c.args.reads.now in
    let case = c.args.case in
    let test = λ (seen : Seen).
    lacks_to_end (some_of reads) case.written seen && not (nat_lt seen.read.began.line c.latest-told.result) in
    let same : (seen : Seen) → test seen ≡ shows_process_loss (some_of reads) case seen =
    λ seen. ap (λ b. lacks_to_end (some_of reads) case.written seen && not b) (c.latest-told.ensures seen.read.began.line) in
    finds_alike (shows_process_loss (some_of reads) case) test reads c.lacking_to_end.result same c.lacking_to_end.ensures
