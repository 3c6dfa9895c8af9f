use Rattle.std.proofs.Common.{◌∙◌, length, ap}
use Rattle.std.specs.Prelude.{nat_lt, ◌==◌}
use Rattle.fy_history.specs.declared.history.Write.{Write}
use Rattle.fy_records.proofs.Same.{same_long}
use Rattle.fy_records.proofs.counts.is_register.Goals as goal

pub returns : goal.returns
returns c h is =
    ap (λ n. nat_lt 1 n) (ap length c.writes_of.ensures
    ∙ same_long (λ (write : Write). write.key == c.args.key) h.writes c.args.index.now.writes.items is.writes)
