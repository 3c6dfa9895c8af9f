-- what a check of an audit is once it was lent
use Rattle.std.specs.Borrow.{Fml, MutBor, follows}
use Rattle.fy_c.specs.declared.checking.Check.{Check}
use Rattle.fy_c.specs.contracts.checking.Check as held
use Rattle.fy_c.specs.declared.check_handle.FyCheck.{FyCheck}
use Rattle.fy_c.specs.contracts.check_handle.FyCheck.{the_row}

-- the handle with another check
abbrev pub with_check : FyCheck → Check → FyCheck
with_check handle check = record { at = handle.at; alloc = handle.alloc; value = check }

-- once the borrow ends, the handle holds what was last written through it
abbrev pub check_follows : MutBor FyCheck → MutBor held.the_row.Denot → Fml
check_follows handle borrow =
    follows the_row held.the_row handle.ghost_name borrow.ghost_name (with_check handle.now)
