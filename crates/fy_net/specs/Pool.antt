-- the pool of messages, and the chains that link its slots
use Rattle.std.specs.Prelude.{◌≡◌, ℕ, ◌+◌, ◌<◌, ◌≤◌, min, Bool, true, false, ◌&&◌, ◌||◌, nat_lt, List, length, map, slice_index, slice_index_or, slice_set, Option, Some, None, is_some, vec_len, ◌⊎◌}
use Rattle.std.specs.List.{All}
use Rattle.std.specs.Vec.{vec_capacity}
use Rattle.std.specs.FinSet as sets
use Rattle.fy_locality.specs.declared.TheConstants.{MOST_PROCESSES}
use Rattle.fy_net.specs.declared.message.Body.{Body}
use Rattle.fy_net.specs.declared.message.Body.TheVariants.{Store, Synced}
use Rattle.fy_net.specs.declared.pool.Ends.{Ends}
use Rattle.fy_net.specs.declared.pool.Pool.{Pool}
use Rattle.fy_net.specs.declared.slot.Slot.{Slot}
use Rattle.fy_net.specs.Net.{Rises, process_of}
use Rattle.fy_net.specs.Slots.{messages_of, there_of}

-- the number of a message's chain: a chain of stores for each process, and behind all these a chain
-- of acknowledgements for each
abbrev pub chain_of : ℕ → Body → ℕ
chain_of processes (Store rec to) = to.0
chain_of processes (Synced rec from) = processes + from.0

-- the chain of the slot at a place
abbrev pub chain_at : ℕ → List Slot → ℕ → ℕ
chain_at processes slots place =
    slice_index (map (λ slot. chain_of processes slot.message.body) slots) place

-- whether the message of the slot at a place is in flight
abbrev pub is_there : List Slot → ℕ → Bool
is_there slots place = slice_index_or (map (λ slot. slot.there) slots) place false

-- the first place from low on and below high of which something holds, or None if of none it does
abbrev pub IsFirst : (ℕ → Type 0) → ℕ → ℕ → Option ℕ → Type 0
IsFirst Holds low high None = (k : ℕ) → low ≤ k → k < high → Holds k → ⊥
IsFirst Holds low high (Some i) =
    (low ≤ i) × (i < high) × Holds i × ((k : ℕ) → low ≤ k → k < i → Holds k → ⊥)

-- the last place below high of which something holds, or None if of none it does
abbrev pub IsLast : (ℕ → Type 0) → ℕ → Option ℕ → Type 0
IsLast Holds high None = (k : ℕ) → k < high → Holds k → ⊥
IsLast Holds high (Some i) =
    (i < high) × Holds i × ((k : ℕ) → i < k → k < high → Holds k → ⊥)

-- the ends of a chain with no slot
abbrev pub no_ends : Ends
no_ends = record { first = None; last = None }

-- the links once the last slot of a chain, if it has one, is linked to a place
abbrev pub with_link : Option ℕ → ℕ → List (Option ℕ) → List (Option ℕ)
with_link None place links = links
with_link (Some last) place links = slice_set links last (Some place)

-- the lower of two places
abbrev pub lower_of : Option ℕ → Option ℕ → Option ℕ
lower_of None other = other
lower_of (Some one) None = Some one
lower_of (Some one) (Some other) = Some (min one other)

-- slot k is of a chain
abbrev pub IsOnChain : ℕ → List Slot → ℕ → ℕ → Type 0
IsOnChain processes slots chain k = chain_at processes slots k ≡ chain

-- slot k is of a chain, and its message is in flight
abbrev pub IsThereOnChain : ℕ → List Slot → ℕ → ℕ → Type 0
IsThereOnChain processes slots chain k =
    (chain_at processes slots k ≡ chain) × (is_there slots k ≡ true)

-- slot k of a pool has an acknowledgement by process p, or a store to it while it is up
abbrev pub IsReachedOf : Pool → ℕ → Bool → ℕ → Type 0
IsReachedOf pool p up k =
    IsThereOnChain pool.processes pool.slots.items (pool.processes + p) k
    ⊎ (IsThereOnChain pool.processes pool.slots.items p k × (up ≡ true))

-- process p isn't clogged, and slot k of a pool has such a message of it
abbrev pub IsFreeOf : Pool → List ℕ → ℕ → (ℕ → Bool) → ℕ → ℕ → Type 0
IsFreeOf pool until now up p k =
    (nat_lt now (slice_index until p) ≡ false) × IsReachedOf pool p (up p) k

-- among the first n slots each link names the next slot of the same chain
abbrev pub AreLinked : ℕ → ℕ → List Slot → List (Option ℕ) → Type 0
AreLinked n processes slots links = (i : ℕ) → i < n →
    IsFirst (IsOnChain processes slots (chain_at processes slots i)) (i + 1) n
    (slice_index_or links i None)

-- the first n slots are chained: they are linked, and the ends of a chain are its first slot whose
-- message is in flight, and its last slot
pub record AreChained (n processes : ℕ) (slots : List Slot) (links : List (Option ℕ))
    (ends : List Ends) : Type 0 where
  pub many : length links ≡ n
  pub wide : length ends ≡ processes + processes
  pub linked : AreLinked n processes slots links
  pub first : (c : ℕ) → c < length ends →
      IsFirst (IsThereOnChain processes slots c) 0 n (slice_index_or ends c no_ends).first
  pub last : (c : ℕ) → c < length ends →
      IsLast (IsOnChain processes slots c) n (slice_index_or ends c no_ends).last

-- the first n slots of a pool are chained
abbrev pub IsChained : ℕ → Pool → Type 0
IsChained n pool =
    AreChained n pool.processes pool.slots.items pool.links.items pool.ends.items

-- whether a chain has a message in flight
abbrev pub has_first : List Ends → ℕ → Bool
has_first ends c = is_some (slice_index_or ends c no_ends).first

-- whether one of the two chains of process p has a message in flight, p being a process that exists
-- and that a set can have
abbrev pub is_busy : ℕ → List Ends → ℕ → Bool
is_busy processes ends p =
    nat_lt p MOST_PROCESSES && nat_lt p processes
    && (has_first ends p || has_first ends (processes + p))

-- process p is in the busy set exactly if it has a message in flight
abbrev pub BusyIsRight : Pool → ℕ → Type 0
BusyIsRight pool p = sets.contains pool.busy p ≡ is_busy pool.processes pool.ends.items p

-- numbers rise below the next one, messages are of existing processes, those in flight are counted,
-- every slot is in its chain, and the busy set is right
pub record IsPool (pool : Pool) : Type 0 where
  pub rising : Rises 0 (messages_of pool.slots.items)
  pub past : All (λ slot. slot.message.number < pool.sent) pool.slots.items
  pub known : All (λ slot. process_of slot.message.body < pool.processes) pool.slots.items
  pub counted : pool.there ≡ length (there_of pool.slots.items)
  pub chained : IsChained (length pool.slots.items) pool
  pub noted : (p : ℕ) → BusyIsRight pool p

-- no more slots than twice the messages in flight and the chains, and one
abbrev pub IsTidy : Pool → Type 0
IsTidy pool = let n = length (there_of pool.slots.items) + vec_len pool.ends in
    vec_len pool.slots ≤ n + n + 1

-- there is memory for n more messages
abbrev pub HasRoom : ℕ → Pool → Type 0
HasRoom n pool =
    (vec_len pool.slots + n ≤ vec_capacity pool.slots)
    × (vec_len pool.links + n ≤ vec_capacity pool.links)

-- a pool of the same processes and with the same next number, which has room where the old one had
pub record KeepsRoom (old new : Pool) : Type 0 where
  pub sent : new.sent ≡ old.sent
  pub processes : new.processes ≡ old.processes
  pub room : (n : ℕ) → HasRoom n old → HasRoom n new
