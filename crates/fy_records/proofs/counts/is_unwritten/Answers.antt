use Rattle.std.proofs.Common.{◌∙◌, ◌&&◌, not, sym, ap}
use Rattle.fy_records.specs.Lines.{some_read}
use Rattle.fy_records.specs.Reads.{Reads}
use Rattle.fy_records.proofs.counts.is_unwritten.Goals as goal

pub returns-then-not-is_acknowledged : goal.returns-then-not-is_acknowledged
returns-then-not-is_acknowledged c h is =
    c.is_told_wrongly.ensures
    ∙ ap (λ (some : Reads). some (λ seen. seen.wrong)) (c.reads_of.ensures.same h is)
    ∙ ap (λ b. not b && some_read h c.args.key (λ seen. seen.wrong)) (sym c.if-not-is_acknowledged.true ∙ c.is_acknowledged.ensures h is)
