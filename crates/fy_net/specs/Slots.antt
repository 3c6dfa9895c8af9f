-- slots of messages in order of number, of which some are vacated
use Rattle.std.specs.Prelude.{◌≡◌, ℕ, ◌<◌, true, false, List, length, map, filter, slice_index_or, slice_set, Some}
use Rattle.fy_net.specs.declared.message.Message.{Message}
use Rattle.fy_net.specs.declared.slot.Slot.{Slot}
use Rattle.fy_net.specs.Net.{body_of, without}

-- the messages of all slots
abbrev pub messages_of : List Slot → List Message
messages_of slots = map (λ slot. slot.message) slots

-- the messages that are in flight
abbrev pub there_of : List Slot → List Message
there_of slots = messages_of (filter (λ slot. slot.there) slots)

-- a slot whose message has left
abbrev pub vacated : Slot → Slot
vacated slot = record slot { there = false }

-- the message with a number is in flight, at place i, and no other has that number
pub record IsThereAt (slots : List Slot) (number i : ℕ) : Type 0 where
  pub within : i < length slots
  pub there : (other : Slot) → (slice_index_or slots i other).there ≡ true
  pub says : (other : Slot) →
      body_of (there_of slots) number ≡ Some (slice_index_or slots i other).message.body
  pub others : (other : Slot) →
      there_of (slice_set slots i (vacated (slice_index_or slots i other)))
      ≡ without number (there_of slots)
