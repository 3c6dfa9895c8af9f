-- the turns of a process: the positions at which it was destroyed and healed, one after the other
use Rattle.std.specs.Prelude.{◌≡◌, ℕ, zero, suc, ◌<◌, ◌≤◌, nat_le, Bool, true, false, not, ◌&&◌, List, [], ◌∷◌, ◌++◌, length, Option, Some, None, option_map, slice_get, if◌then◌else◌}
use Rattle.std.specs.List.{AllByRecursion}
use Rattle.std.specs.FinSet as sets
use Rattle.std.specs.Ordering.{nat_cmp}
use Rattle.std.proofs.Common.{Global, Vec}
use Rattle.fy_acts.specs.declared.entry.Entry.{Entry}
use Rattle.fy_cluster.specs.Setup.{Setup}
use Rattle.fy_holders.specs.Destroyed.{destroyed_at}

-- the number is odd
abbrev pub is_odd : ℕ → Bool
is_odd zero = false
is_odd (suc n) = not (is_odd n)

-- whether a process with these turns is destroyed at a position: each that has come undoes those
-- before
abbrev pub turned : List ℕ → (position : ℕ) → Bool
turned [] k = false
turned (t ∷ later) k = nat_le t k && not (turned later k)

-- turns above a position rise
abbrev pub Rise : (above : ℕ) → List ℕ → Type 0
Rise above [] = Unit {0}
Rise above (t ∷ later) = (above < t) × Rise t later

-- the turns rise, and are no later than a position
pub record AreTurns (end : ℕ) (turns : List ℕ) : Type 0 where
  pub rise : Rise 0 turns
  pub within : AllByRecursion (λ t. t ≤ end) turns

-- by these turns a process is destroyed last at a position, if at any up to the end
pub data IsLast (end : ℕ) (turns : List ℕ) : Option ℕ → Type 0 where
  at : (last : ℕ) → last ≤ end → turned turns last ≡ true
      → ((k : ℕ) → last < k → k ≤ end → turned turns k ≡ false) → IsLast end turns (Some last)
  never : ((k : ℕ) → turned turns k ≡ false) → IsLast end turns None

-- they are the turns of a process of a journal
pub record AreTurnsOf (c : Setup) (journal : List Entry) (p : ℕ) (turns : List ℕ) : Type 0 where
  pub are : AreTurns (length journal) turns
  pub each : (k : ℕ) → k ≤ length journal → destroyed_at c journal k p ≡ turned turns k

-- so are those of each process
pub record AreTurnsOfEach (c : Setup) (journal : List Entry) (turns : List (Vec ℕ Global)) :
    Type 0 where
  pub count : length turns ≡ length c.processes
  pub each : (p : ℕ) (list : Vec ℕ Global) → slice_get turns p ≡ Some list
      → AreTurnsOf c journal p list.items

-- so many processes without turns
pub record AreEmpty (count : ℕ) (turns : List (Vec ℕ Global)) : Type 0 where
  pub count_is : length turns ≡ count
  pub each : (p : ℕ) (list : Vec ℕ Global) → slice_get turns p ≡ Some list → list.items ≡ []

-- the turns of a process with one more at a position, where it turns there
abbrev pub with_turn : (turns_here : Bool) → (position : ℕ) → List ℕ → List ℕ
with_turn turns_here position list = if turns_here then list ++ position ∷ [] else list

-- the turns of each process with one more at a position for those of a set
abbrev pub WithTurns : sets.FinSet nat_cmp → (position : ℕ) → (old new : List (Vec ℕ Global))
    → Type 0
WithTurns set position old new =
    (p : ℕ) → option_map (λ (list : Vec ℕ Global). list.items) (slice_get new p)
    ≡ option_map (λ (list : Vec ℕ Global). with_turn (sets.contains set p) position list.items)
    (slice_get old p)

-- each has turns up to a position
abbrev pub AreTurnsUpTo : (end : ℕ) → List (Vec ℕ Global) → Type 0
AreTurnsUpTo end turns =
    (p : ℕ) (list : Vec ℕ Global) → slice_get turns p ≡ Some list → AreTurns end list.items

-- by its turns a process is destroyed last at a position, if at any from one to the end
abbrev pub IsLastSince : (from end : ℕ) → List (Vec ℕ Global) → (p : ℕ) → Option ℕ → Type 0
IsLastSince from end turns p (Some last) =
    (list : Vec ℕ Global) × (slice_get turns p ≡ Some list) × IsLast end list.items (Some last)
    × (from ≤ last)
IsLastSince from end turns p None =
    (list : Vec ℕ Global) × (slice_get turns p ≡ Some list)
    × ((k : ℕ) → from ≤ k → k ≤ end → turned list.items k ≡ false)
