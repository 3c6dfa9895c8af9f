use Rattle.std.proofs.Common.{subst}
use Rattle.fy_c.specs.Checking.{ReadsLine}
use Rattle.fy_c.specs.declared.checking.Check.{Check}
use Rattle.fy_c.specs.Statuses.{ending}
use Rattle.fy_c.proofs.Lined.{reads_line}
use Rattle.fy_c.proofs.check_calls.fy_read_line.Goals as goal

pub returns-clause-read : goal.returns-clause-read
returns-clause-read c =
    let line = c.args.line.now in
    let new = c.read_line-outcome.new.check in
    let outcome = c.read_line-outcome.result in (
      ending outcome,
      c.number_of.ensures,
      subst (λ (old : Check). ReadsLine old new line c.bad_of.result (ending outcome))
          c.held-held.ensures.value
          (reads_line c.held-held.result.now new line c.bad_of.result outcome
          c.read_line-outcome.ensures.read c.read_line-outcome.ensures.refused
          c.read_line-outcome.ensures.same c.bad_of.ensures),
    )
