-- turns that make an act each
use Rattle.std.specs.Prelude.{◌≡◌, ◌↔◌, ◌≤◌, Bool, true, false, length, Option, Some, None, Result, Ok, MatchResult}
use Rattle.fy_acts.specs.declared.act.Act.{Act}
use Rattle.fy_acts.specs.declared.reply.Reply.{Reply}
use Rattle.fy_cluster.specs.declared.fault.Fault.{Fault}
use Rattle.fy_cluster.specs.declared.fault.Fault.TheVariants.{JournalFull}
use Rattle.fy_actors.specs.declared.desk.Turn.{Turn}
use Rattle.fy_actors.specs.declared.desk.Turn.TheVariants.{More, Ended}
use Rattle.fy_actors.specs.Desk.{DeskState, desk_reply, after_act}

-- more turns come where acts are left
abbrev pub more_if : Bool → Turn
more_if true = More
more_if false = Ended

-- nothing was done; the fault is a full journal exactly where it is full
pub record IsHeldUp {A : Type 0} (was now : A × DeskState) (fault : Fault) : Type 0 where
  pub same : now ≡ was
  pub full : (fault ≡ JournalFull) ↔ (was.1.setup.limit ≤ length was.1.journal)

-- this act was made, and the actor went on by its reply; it has ended where it has no act left
pub record IsMade {A : Type 0} (after_reply : A → Reply → A) (has_next : A → Bool) (act : Act)
    (was now : A × DeskState) (took : Turn) : Type 0 where
  pub made : now ≡ (after_reply was.0 (desk_reply was.1 act), after_act was.1 act)
  pub ends : took ≡ more_if (has_next now.0)

-- a turn of an actor at a desk, by the act that comes next: without one nothing is done and it has
-- ended, and else the act is made, or held up
abbrev pub TakesTurn : {A : Type 0} → (A → Reply → A) → (A → Bool) → Option Act → A × DeskState
    → A × DeskState → Result Turn Fault → Type 0
TakesTurn after_reply has_next None was now result = (result ≡ Ok Ended) × (now ≡ was)
TakesTurn after_reply has_next (Some act) was now result =
    MatchResult result (IsMade after_reply has_next act was now) (IsHeldUp was now)
