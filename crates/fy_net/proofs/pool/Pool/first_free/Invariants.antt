use Rattle.std.proofs.Common.{◌<◌}
use Rattle.std.specs.FinSet as sets
use Rattle.std.specs.Prelude.{length}
use Rattle.fy_net.specs.Pool.{IsFirst}
use Rattle.fy_net.proofs.Busy.{Walked}
use Rattle.fy_net.proofs.Candidates.{FreeAmong}
use Rattle.fy_net.proofs.pool.Pool.first_free.Given as goal

-- the first among the messages of the processes that aren't left in the set
abbrev pub invariant-loop-p : goal.invariant-loop-p
invariant-loop-p l = Walked l.self l.until l.now (sets.contains l.up) l.p-iterator l.first

-- and then of those below one beyond
abbrev pub invariant-loop-beyond : goal.invariant-loop-beyond
invariant-loop-beyond l = IsFirst (FreeAmong l.until l.now (sets.contains l.up) l.self.slots.items (λ q. q < l.beyond)) 0 (length l.self.slots.items) l.first
