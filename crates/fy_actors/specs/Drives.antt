-- actors that store payloads and move data
use Rattle.std.specs.Prelude.{ℕ, suc, ◌-◌, Bool, true, false, nat_lt, List, Option, Some, None, slice_get, Result, if◌then◌else◌}
use Rattle.std.specs.Option.{option_map_or}
use Rattle.fy_locality.specs.declared.ProcId.{ProcId}
use Rattle.fy_acts.specs.declared.act.Act.{Act}
use Rattle.fy_acts.specs.declared.act.Act.TheVariants.{Form, Begin, Deliver, Sync, Up, Tick}
use Rattle.fy_acts.specs.declared.reply.Reply.{Reply}
use Rattle.fy_acts.specs.declared.reply.Reply.TheVariants.{Formed as ToldFormed}
use Rattle.fy_cluster.specs.declared.fault.Fault.{Fault}
use Rattle.fy_cluster.specs.declared.sight.Sight.{Sight}
use Rattle.fy_cluster.specs.Execution.{history_of}
use Rattle.fy_cluster.specs.Sights.{Sees}
use Rattle.fy_actors.specs.declared.desk.Turn.{Turn}
use Rattle.fy_actors.specs.declared.driver.Team.{Team}
use Rattle.fy_actors.specs.declared.driver.Team.TheVariants.{Unformed, Formed, Refused}
use Rattle.fy_actors.specs.Desk.{DeskState, execution_of}
use Rattle.fy_actors.specs.Turns.{TakesTurn}

-- the team that is to be formed, the payloads to begin and how many acts there are to make; what
-- became of the team, and how many acts were made
pub record Drive : Type 0 where
  pub members : List ProcId
  pub policy : ℕ
  pub payloads : List (List ℕ)
  pub acts : ℕ
  pub team : Team
  pub made : ℕ

-- the first that is possible: deliver a message, sync a process, start one, let so many ticks pass
abbrev pub next_move : Sight → ℕ → Act
next_move sight ticks =
    option_map_or Deliver sight.deliverable
    (option_map_or Sync sight.unsynced (option_map_or Up sight.sleeping (Tick ticks)))

-- the payload that comes next is begun, or data is moved where none is left: the first act was the
-- team's
abbrev pub begin_or_move : Drive → Sight → ℕ → Act
begin_or_move drive sight team =
    option_map_or (Begin team) (slice_get drive.payloads (drive.made - 1)) (next_move sight 1)

-- the act that comes next while the team stands so
abbrev pub act_while : Drive → Sight → Team → Option Act
act_while drive sight Unformed = Some (Form drive.members drive.policy)
act_while drive sight (Formed team) = Some (begin_or_move drive sight team)
act_while drive sight Refused = None

-- the act that comes next, if one is left
abbrev pub next_act : Drive → Sight → Option Act
next_act drive sight =
    if nat_lt drive.made drive.acts then act_while drive sight drive.team else None

-- the first reply says what becomes of the team
abbrev pub team_after : Team → Reply → Team
team_after Unformed (ToldFormed team) = Formed team
team_after Unformed _ = Refused
team_after (Formed team) reply = Formed team
team_after Refused reply = Refused

-- one more act was made, and this was replied
abbrev pub driven : Drive → Reply → Drive
driven drive reply =
    record drive { team = team_after drive.team reply; made = suc drive.made }

-- whether the team was refused
abbrev pub is_refused : Team → Bool
is_refused Refused = true
is_refused _ = false

-- whether acts are left: a team that was refused ends it
abbrev pub goes_on : Drive → Bool
goes_on drive = if is_refused drive.team then false else nat_lt drive.made drive.acts

-- a turn makes the act that comes next by what the desk shows
pub record Drives (was now : Drive × DeskState) (result : Result Turn Fault) : Type 0 where
  pub sight : Sight
  pub seen : Sees was.1.setup (history_of (execution_of was.1)) sight
  pub turn : TakesTurn driven goes_on (next_act was.0 sight) was now result
