use Rattle.std.proofs.Common.{◌∙◌, ◌&&◌, ◌||◌, sym, ap}
use Rattle.fy_records.specs.Founds.{is_found}
use Rattle.fy_records.specs.Lines.{some_read}
use Rattle.fy_records.specs.Reads.{Reads, tells}
use Rattle.fy_records.specs.Traces.{is_on_disk}
use Rattle.fy_records.proofs.counts.is_refused_and_there.Goals as goal

pub returns-then-is_refused : goal.returns-then-is_refused
returns-then-is_refused c h is =
    let write = c.args.write in
    c.is_there.ensures
    ∙ ap (λ (some : Reads). some (tells write.value) || is_found c.founds_of.result.now write.value) (c.reads_of.ensures.same h is)
    ∙ ap (λ b. some_read h write.key (tells write.value) || b) (c.founds_of.ensures.same h write.value is)
    ∙ ap (λ b. b && (some_read h write.key (tells write.value) || is_on_disk h.disks write.key write.value)) (sym c.if-is_refused.true ∙ c.is_refused.ensures)
