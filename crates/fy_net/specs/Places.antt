-- where a message stands in a list, and whether it may be taken
use Rattle.std.specs.Prelude.{◌≡◌, ℕ, ◌<◌, Bool, not, ◌&&◌, nat_lt, List, length, slice_index, slice_index_or, Some}
use Rattle.std.specs.List.{remove}
use Rattle.fy_net.specs.declared.message.Message.{Message}
use Rattle.fy_net.specs.Net.{body_of, without, process_of, receiver_is_up}

-- the message with a number stands at place i, and no other has that number
pub record IsAt (messages : List Message) (number i : ℕ) : Type 0 where
  pub within : i < length messages
  pub says : (other : Message) →
      body_of messages number ≡ Some (slice_index_or messages i other).body
  pub others : remove messages i ≡ without number messages

-- whether a message may be taken at a time: it isn't clogged, `until` saying when each process's
-- clog ends, and a store goes to a process that is up
abbrev pub may_be_taken : List ℕ → ℕ → (ℕ → Bool) → Message → Bool
may_be_taken until now up message =
    not (nat_lt now (slice_index until (process_of message.body))) && receiver_is_up up message.body
