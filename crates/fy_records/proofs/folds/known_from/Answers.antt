use Rattle.std.proofs.Common.{◌||◌, ◌∙◌, ap}
use Rattle.std.specs.Prelude.{nat_lt}
use Rattle.fy_records.proofs.Steps.{or_none}
use Rattle.fy_records.proofs.folds.known_from.Goals as goal

pub returns-in-None-clause-before : goal.returns-in-None-clause-before
returns-in-None-clause-before c line =
    or_none (nat_lt c.args.acked.line line)
    ∙ ap (λ b. nat_lt c.args.acked.line line || b) (c.in-None.ensures.before line)
