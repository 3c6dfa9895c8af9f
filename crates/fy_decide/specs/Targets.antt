-- what targets are seen as
use Rattle.std.specs.Prelude.{Option, Some, None}
use Rattle.std.specs.Ordering.{nat_cmp}
use Rattle.std.specs.FinSet as sets
use Rattle.fy_locality.specs.declared.ProcId.{ProcId}
use Rattle.fy_decide.specs.declared.targets.Kept.{Kept}
use Rattle.fy_decide.specs.declared.targets.Kept.TheVariants.{One, Set}
use Rattle.fy_decide.specs.declared.targets.Targets.{Targets}

-- the set of one process, or of many
abbrev pub set_of : Kept → sets.FinSet nat_cmp
set_of (One p) = sets.insert sets.empty p.0
set_of (Set set) = set

-- the set of the processes that are targets
abbrev pub targeted : Targets → sets.FinSet nat_cmp
targeted targets = set_of targets.kept

-- the process of targets that are kept as one alone
abbrev pub sole_of : Kept → Option ProcId
sole_of (One p) = Some p
sole_of (Set set) = None

-- the process that is known to be alone among the targets
abbrev pub lone : Targets → Option ProcId
lone targets = sole_of targets.kept
