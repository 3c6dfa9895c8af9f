-- what a guard is once its cluster was lent
use Rattle.std.specs.Borrow.{Fml, MutBor, follows}
use Rattle.fy_cluster.specs.Execution.{Execution}
use Rattle.fy_cluster.specs.contracts.cluster.Cluster as held
use Rattle.fy_c.specs.declared.handle.FyGuard.{FyGuard}
use Rattle.fy_c.specs.contracts.handle.FyGuard.{the_row}

-- the guard with another cluster
abbrev pub with_cluster : FyGuard → Execution → FyGuard
with_cluster guard execution = record { at = guard.at; alloc = guard.alloc; value = execution }

-- once the borrow ends, the guard holds what was last written through it
abbrev pub guard_follows : MutBor FyGuard → MutBor held.the_row.Denot → Fml
guard_follows guard borrow =
    follows the_row held.the_row guard.ghost_name borrow.ghost_name (with_cluster guard.now)
