use Rattle.std.proofs.Common.{◌≡◌, ℕ}
use Rattle.std.specs.Vec.{vec_capacity}
use Rattle.fy_net.specs.Pool.{IsChained, BusyIsRight}
use Rattle.fy_net.proofs.pool.Pool.clear_away.Given as goal

-- so many slots are in their chains, whose processes are noted, and nothing else has changed
abbrev pub invariant-loop-place : goal.invariant-loop-place
invariant-loop-place l =
    IsChained l._place l.self × (l.self.slots ≡ l.initial.self.slots) × (l.self.there ≡ l.initial.self.there) × (l.self.sent ≡ l.initial.self.sent) × (l.self.processes ≡ l.initial.self.processes) × (vec_capacity l.self.links ≡ vec_capacity l.initial.self.links) × ((p : ℕ) → BusyIsRight l.self p)
