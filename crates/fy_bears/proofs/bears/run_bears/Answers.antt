use Rattle.std.proofs.Common.{rules}
use Rattle.fy_bears.proofs.bears.run_bears.Goals as goal

pub returns-in_err-write_told-clause-short : goal.returns-in_err-write_told-clause-short
returns-in_err-write_told-clause-short g c is = (c.in_ok-told.told, c.in_ok-told.ensures.told, c.in_err-write_told.ensures.short (search rules))
