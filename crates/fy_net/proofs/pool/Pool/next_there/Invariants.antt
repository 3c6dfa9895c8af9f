use Rattle.std.specs.Prelude.{vec_len}
use Rattle.fy_net.specs.Pool.{chain_at, is_there}
use Rattle.fy_net.proofs.Chaining.{Passed, ahead}
use Rattle.fy_net.proofs.pool.Pool.next_there.Given as goal

-- the next slot to look at is of the chain, and no message of the chain in between is there
abbrev pub invariant-loop-at : goal.invariant-loop-at
invariant-loop-at l = Passed (chain_at l.self.processes l.self.slots.items) (is_there l.self.slots.items) (vec_len l.self.slots) l.place l.at

abbrev pub decreases-loop-at : goal.decreases-loop-at
decreases-loop-at l = ahead (vec_len l.self.slots) l.at
