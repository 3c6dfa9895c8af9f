use Rattle.std.proofs.Common.{◌∙◌, ap}
use Rattle.std.specs.Prelude.{◌==◌}
use Rattle.fy_history.specs.declared.history.Write.{Write}
use Rattle.fy_records.specs.Lines.{only}
use Rattle.fy_records.proofs.Same.{same_record}
use Rattle.fy_records.proofs.judge.record_of.Goals as goal

pub returns : goal.returns
returns c h is =
    c.only_write.ensures ∙ ap only c.writes_of.ensures
    ∙ same_record (λ (write : Write). write.key == c.args.key) h.writes c.args.index.now.writes.items is.writes
