use Rattle.std.proofs.Common.{◌∙◌, Option, ap}
use Rattle.fy_history.specs.declared.history.Place.{Place}
use Rattle.fy_records.specs.Lines.{some_read}
use Rattle.fy_records.specs.Reads.{Reads}
use Rattle.fy_records.specs.Verdicts.{is_told_at_end}
use Rattle.fy_records.proofs.JudgedLemmas.{case_of}
use Rattle.fy_records.proofs.counts.is_recovered.Goals as goal

pub returns : goal.returns
returns c h is =
    let write = c.args.write in
    c.is_told_at_end.ensures
    ∙ ap (λ (some : Reads). is_told_at_end some (case_of write write.began c.written.result)) (c.reads_of.ensures.same h is)
    ∙ ap (λ (w : Option Place). is_told_at_end (some_read h write.key) (case_of write write.began w)) (c.written.ensures ∙ is.written)
