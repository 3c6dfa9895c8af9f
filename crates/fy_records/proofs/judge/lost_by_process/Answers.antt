use Rattle.std.proofs.Common.{◌∙◌, ◌&&◌, not, sym, ap}
use Rattle.fy_records.specs.Found.{some_of}
use Rattle.fy_records.specs.Verdicts.{shows_process_loss}
use Rattle.fy_records.proofs.Finding.{found_or_not}
use Rattle.fy_records.proofs.judge.lost_by_process.Goals as goal

pub returns-clause-whether : goal.returns-clause-whether
returns-clause-whether c =
    let reads = c.args.reads.now in
    let shows = shows_process_loss (some_of reads) c.args.case in
    found_or_not shows reads c.last_untold.result c.last_untold.ensures
    ∙ ap (λ b. not b && some_of reads shows) (sym c.if-is_read_by_store.false ∙ c.is_read_by_store.ensures)
