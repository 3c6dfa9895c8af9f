-- what a fault actor does at its turn
use Rattle.std.specs.Prelude.{◌≡◌, ℕ, suc, ◌+◌, ◌/◌, ◌%◌, ◌==◌, nat_lt, max, min, List, [], length, Some, unwrap_or, if◌then◌else◌}
use Rattle.fy_locality.specs.declared.key.Key.TheVariants.{Process}
use Rattle.fy_locality.specs.declared.locality.Locality.{Locality}
use Rattle.fy_locality.specs.Locality.{values_of}
use Rattle.fy_kinds.specs.declared.kind.Kind.{Kind}
use Rattle.fy_kinds.specs.declared.kind.Kind.TheVariants.{RebootProcess, Reboot, RebootAndDelete, KillInstantly}
use Rattle.fy_kinds.specs.declared.order.Target.{Target}
use Rattle.fy_kinds.specs.Orders.{Order}
use Rattle.fy_acts.specs.declared.act.Act.{Act}
use Rattle.fy_acts.specs.declared.act.Act.TheVariants as act
use Rattle.fy_actors.specs.Schedules.{Schedule, begun, next_of, has_next}
use Rattle.fy_players.specs.declared.draws.Words.{Words}
use Rattle.fy_players.specs.declared.faults.Plan.{Plan}
use Rattle.fy_players.specs.declared.faults.Plan.TheVariants as plan
use Rattle.fy_players.specs.declared.faults.Choice.{Choice}
use Rattle.fy_players.specs.declared.faults.Choice.TheVariants as choice
use Rattle.fy_players.specs.Picks.{floor_of, key_of, value_at, target_of, ticks_of, tear_of}
use Rattle.fy_players.specs.Rounds.{swizzle_round, attrition_round}

-- a fault actor: the seed from which its rounds are drawn, its plan, how many turns it took, and
-- the round that is under way
pub record FaultState : Type 0 where
  pub seed : ℕ
  pub plan : Plan
  pub turns : ℕ
  pub round : Schedule

-- before its first turn
abbrev pub fault_of : (seed : ℕ) → Plan → FaultState
fault_of seed it = record { seed = seed; plan = it; turns = 0; round = begun [] }

-- ---- the plan mixed

-- the act is an order to kill of these parts
pub record IsKill (target : Target) (kind floor : Kind) (tear : ℕ) (made : Act) : Type 0 where
  pub order : Order
  pub is : made ≡ act.Kill order
  pub target_is : order.target ≡ target
  pub kind_is : order.kind ≡ kind
  pub floor_is : order.floor ≡ floor
  pub tear_is : order.tear ≡ tear

-- of 64 words 53 kill, six clog, four unclog, and one does what a fault actor may not do
abbrev pub choice_of : ℕ → Choice
choice_of word =
    let k = word % 64 in
    if nat_lt k 53 then choice.Kill
    else (if nat_lt k 59 then choice.Clog
    else (if nat_lt k 63 then choice.Unclog else choice.Stray))

-- of 100 words ten reboot a process, 35 its machine, 54 empty its disk, and one kills it for good
abbrev pub mixed_kind : ℕ → Kind
mixed_kind word =
    let k = word % 100 in
    if nat_lt k 10 then RebootProcess
    else (if nat_lt k 45 then Reboot
    else (if nat_lt k 99 then RebootAndDelete else KillInstantly))

-- the target of a mixed plan
abbrev pub any_target : List Locality → Words → Target
any_target processes words = target_of words.second (key_of words.first) processes

-- any kill or clog
abbrev pub Mixes : List Locality → Words → Choice → Act → Type 0
Mixes processes words choice.Kill made =
    IsKill (any_target processes words) (mixed_kind words.third)
    (floor_of words.fourth (mixed_kind words.third)) (tear_of words.high words.low) made
Mixes processes words choice.Clog made =
    made ≡ act.Clog (any_target processes words) (ticks_of words.third)
Mixes processes words choice.Unclog made = made ≡ act.Unclog (any_target processes words)
Mixes processes words choice.Stray made = made ≡ act.Tick 1

-- ---- the plan rolling

-- the kinds of a rolling plan, one each time around
abbrev pub rolling_kind : ℕ → Kind
rolling_kind around =
    if around % 3 == 0 then RebootProcess
    else (if around % 3 == 1 then Reboot else RebootAndDelete)

-- the processes in turn
abbrev pub rolling_target : List Locality → ℕ → Target
rolling_target processes turns = record {
  key = Process;
  value = value_at processes Process (Some (turns % max 1 (length (values_of processes Process))));
}

-- ---- the plans swizzle and attrition, which go by rounds

-- the acts of a round, drawn from the stream that the last two words name
abbrev pub round_of : List Locality → (seed : ℕ) → Words → Plan → List Act
round_of processes seed words plan.Attrition =
    attrition_round processes seed (tear_of words.high words.low)
round_of processes seed words plan.Swizzle =
    swizzle_round processes seed (tear_of words.high words.low) (ticks_of words.third)
round_of processes seed words plan.Mixed = []
round_of processes seed words plan.Rolling = []

-- a round is drawn where no act of the last one is left
abbrev pub readied : List Locality → Words → FaultState → FaultState
readied processes words fault =
    if has_next fault.round then fault
    else record fault { round = begun (round_of processes fault.seed words fault.plan) }

-- the next act of a round; where the round has none, what a fault actor may not do
abbrev pub round_act : Schedule → Act
round_act round = unwrap_or (next_of round) (act.Tick 1)

-- one more act of a round was made
abbrev pub one_act_less : Schedule → Schedule
one_act_less round = if has_next round then record round { made = suc round.made } else round

-- ---- turns

-- the act of a turn, by the plan; a round that it needs was drawn before
abbrev pub Strikes : List Locality → FaultState → Words → Plan → Act → Type 0
Strikes processes fault words plan.Mixed made =
    Mixes processes words (choice_of words.choice) made
Strikes processes fault words plan.Attrition made = made ≡ round_act fault.round
Strikes processes fault words plan.Swizzle made = made ≡ round_act fault.round
Strikes processes fault words plan.Rolling made =
    IsKill (rolling_target processes fault.turns)
    (rolling_kind (fault.turns / max 1 (length (values_of processes Process)))) RebootProcess 0 made

-- one more turn was taken
abbrev pub one_turn_more : FaultState → FaultState
one_turn_more fault = record fault {
  turns = min (fault.turns + 1) 4294967295;
  round = one_act_less fault.round;
}
