use Rattle.std.proofs.Common.{◌≡◌, not, filter}
use Rattle.fy_net.specs.Net.{is_ack_from}
use Rattle.fy_net.specs.Pool.{IsPool, KeepsRoom}
use Rattle.fy_net.specs.Slots.{there_of}
use Rattle.fy_net.proofs.pool.Pool.void.Given as goal

-- what stays is there yet
abbrev pub invariant-loop-place : goal.invariant-loop-place
invariant-loop-place l =
    IsPool l.self × KeepsRoom l.fn.self l.self × (filter (λ m. not (is_ack_from l.fn.p.0 m.body)) (there_of l.self.slots.items) ≡ filter (λ m. not (is_ack_from l.fn.p.0 m.body)) (there_of l.fn.self.slots.items))

abbrev pub decreases-loop-place : goal.decreases-loop-place
decreases-loop-place l = l.self.there
