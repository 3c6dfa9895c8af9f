use Rattle.std.proofs.Common.{◌∙◌, Option, subst}
use Rattle.fy_history.specs.declared.history.Place.{Place}
use Rattle.fy_records.specs.Evidence.{AreLackers}
use Rattle.fy_records.specs.Lines.{some_read}
use Rattle.fy_records.specs.Reads.{Reads}
use Rattle.fy_records.proofs.evidence.lackers.Goals as goal

pub returns : goal.returns
returns c h is =
    let write = c.args.write.now in
    subst (λ (w : Option Place). AreLackers (some_read h write.key) w c.in_ok-lackers.lackers.items) (c.written.ensures ∙ is.written)
    (subst (λ (some : Reads). AreLackers some c.written.result c.in_ok-lackers.lackers.items) (c.reads_of.ensures.same h is) c.in_ok-lackers.ensures)
