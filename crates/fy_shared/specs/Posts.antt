-- what a run leaves of a post
use Rattle.std.specs.Prelude.{◌≡◌, ◌≢◌, ◌⊎◌, ℕ, ◌+◌, ◌<◌, ◌≤◌, false, length}
use Rattle.fy_cluster.specs.declared.fault.Fault.TheVariants.{JournalFull}
use Rattle.fy_actors.specs.Parts.{Part, has_next_act}
use Rattle.fy_actors.specs.Parts.Part.{Unspecified}
use Rattle.fy_shared.specs.Yard.{Yard, SeatState, StartsWith, IsSameSeat, SeesMore}
use Rattle.fy_shared.specs.Parts.{KeepsPart}
use Rattle.fy_shared.specs.declared.posts.End.{End}
use Rattle.fy_shared.specs.declared.posts.End.TheVariants.{NotRun, Ended, Limit, Shut, Failed}

-- no turn was taken and the seat is as it was, or it has then seen more
abbrev pub MaySeeMore : Yard → SeatState → SeatState → Type 0
MaySeeMore y s t = (t ≡ s) ⊎ SeesMore y s t

-- the gate may shut the seat's actor out of its turn with this number, from 0, and a known part has
-- made an act in each turn before
pub record ShutAt (shuts : ℕ → ℕ → Type 0) (most : ℕ) (s t : SeatState) (was : Part) : Type 0 where
  pub turn : ℕ
  pub within : turn < most
  pub shut : shuts s.actor turn
  pub acts : was ≢ Unspecified → length t.receipts ≡ length s.receipts + turn

-- what a run of at most so many turns leaves, a case for each end: after `Ended` no act is left
-- that is known of; at `Limit` a known part has made that many acts more; `Shut` is by a gate that
-- may shut there; and a known part fails by a full journal only where it is full
abbrev pub EndsSo : Yard → (ℕ → ℕ → Type 0) → ℕ → (s t : SeatState) → (was now : Part) → End
    → Type 0
EndsSo y shuts most s t was now NotRun = ⊥
EndsSo y shuts most s t was now Ended = SeesMore y s t × (has_next_act now ≡ false)
EndsSo y shuts most s t was now Limit =
    MaySeeMore y s t × (was ≢ Unspecified → length t.receipts ≡ length s.receipts + most)
EndsSo y shuts most s t was now Shut = MaySeeMore y s t × ShutAt shuts most s t was
EndsSo y shuts most s t was now (Failed fault) =
    SeesMore y s t × (fault ≡ JournalFull → was ≢ Unspecified → y.setup.limit ≤ length t.seen)

-- a run of a post: it is the same seat, with further receipts behind those that it had; an actor
-- that kept to a part still does, and a known part stays known; and it ended so
pub record Ran (y : Yard) (shuts : ℕ → ℕ → Type 0) (most : ℕ) (s t : SeatState) (was now : Part)
    (end : End) : Type 0 where
  pub seat : IsSameSeat s t
  pub receipts : StartsWith t.receipts s.receipts
  pub follows : (first : Part) → KeepsPart y first s was → KeepsPart y first t now
  pub known : was ≢ Unspecified → now ≢ Unspecified
  pub ended : EndsSo y shuts most s t was now end
