use Rattle.std.proofs.Common.{◌∙◌, Option, ap}
use Rattle.fy_history.specs.declared.history.Place.{Place}
use Rattle.fy_records.specs.Evidence.{is_told_by}
use Rattle.fy_records.specs.Lines.{some_read}
use Rattle.fy_records.specs.Reads.{Reads}
use Rattle.fy_records.proofs.evidence.tellers.Goals as goal

pub returns : goal.returns
returns c h is process =
    let write = c.args.write.now in
    c.in_ok-nodes.ensures process
    ∙ ap (λ (some : Reads). some (is_told_by c.written.result write.value process)) (c.reads_of-reads.ensures.same h is)
    ∙ ap (λ (w : Option Place). some_read h write.key (is_told_by w write.value process)) (c.written.ensures ∙ is.written)
