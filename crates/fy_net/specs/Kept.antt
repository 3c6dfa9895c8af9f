-- a network as its fields keep it
use Rattle.std.specs.Prelude.{◌≡◌, ◌≤◌, ℕ, false, nat_lt, slice_index, vec_len}
use Rattle.std.specs.FinSet as sets
use Rattle.fy_locality.specs.declared.TheConstants.{MOST_PROCESSES}
use Rattle.fy_net.specs.declared.net.Net.TheInside.{Inside}
use Rattle.fy_net.specs.Net.{NetState, IsNetState}
use Rattle.fy_net.specs.Pool.{IsPool, HasRoom}
use Rattle.fy_net.specs.Slots.{there_of}

-- the network that the fields stand for
abbrev pub net_state : Inside → NetState
net_state net = record {
  in_flight = there_of net.pool.slots.items;
  sent = net.pool.sent;
  clock = net.clock;
  until = net.until.items;
  room = net.room;
}

-- what always holds of the fields: they stand for a network, the pool is one for its processes, at
-- most 1,024, the room is memory that is there, and only who may be clogged is
pub record NetInvariant (net : Inside) : Type 0 where
  pub sound : IsNetState (net_state net)
  pub pool : IsPool net.pool
  pub processes : vec_len net.until ≡ net.pool.processes
  pub few : net.pool.processes ≤ MOST_PROCESSES
  pub spare : HasRoom net.room net.pool
  pub clogs : (p : ℕ) → sets.contains net.may_be_clogged p ≡ false
      → nat_lt net.clock (slice_index net.until.items p) ≡ false
