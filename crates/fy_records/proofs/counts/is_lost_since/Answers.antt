use Rattle.std.proofs.Common.{◌∙◌, ◌||◌, Option, ap}
use Rattle.fy_history.specs.declared.history.Place.{Place}
use Rattle.fy_records.specs.Lines.{some_read}
use Rattle.fy_records.specs.Reads.{Reads}
use Rattle.fy_records.specs.Verdicts.{is_lost_by_store, is_lost_by_process}
use Rattle.fy_records.proofs.JudgedLemmas.{case_of}
use Rattle.fy_records.proofs.counts.is_lost_since.Goals as goal

pub returns : goal.returns
returns c h is =
    let write = c.args.write in
    c.is_lost_by_reads.ensures
    ∙ ap (λ (some : Reads). is_lost_by_store some (case_of write c.args.since c.written.result) || is_lost_by_process some (case_of write c.args.since c.written.result)) (c.reads_of.ensures.same h is)
    ∙ ap (λ (w : Option Place). is_lost_by_store (some_read h write.key) (case_of write c.args.since w) || is_lost_by_process (some_read h write.key) (case_of write c.args.since w)) (c.written.ensures ∙ is.written)
