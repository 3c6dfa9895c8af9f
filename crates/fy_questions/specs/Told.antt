-- what is told to each question, by what the entries so far have done
use Rattle.std.specs.Prelude.{◌≡◌, ◌≤◌, ℕ, Bool, true, false, List, length, map, nat_lt, Option, Some, None, option_and_then, is_some, if◌then◌else◌}
use Rattle.std.specs.List.{range_with_len}
use Rattle.std.specs.FinSet as sets
use Rattle.std.proofs.Common.{lit≤}
use Rattle.fy_locality.specs.Locality.{value_of}
use Rattle.fy_locality.specs.declared.key.Key.TheVariants.{Process as ByName}
use Rattle.fy_kinds.specs.declared.kind.Kind.{Kind}
use Rattle.fy_kinds.specs.declared.kind.Kind.TheVariants.{RebootProcess, KillInstantly}
use Rattle.fy_kinds.specs.Orders.{Order}
use Rattle.fy_kinds.specs.declared.order.Target.{Target}
use Rattle.fy_decide.specs.Verdicts.{targets}
use Rattle.fy_acts.specs.declared.act.Act.{Act}
use Rattle.fy_acts.specs.declared.act.Act.TheVariants as act
use Rattle.fy_acts.specs.declared.reply.Reply.{Reply}
use Rattle.fy_acts.specs.declared.reply.Reply.TheVariants as reply
use Rattle.fy_cluster.specs.declared.sight.Sight.{Sight}
use Rattle.fy_cluster.specs.Setup.{Setup}
use Rattle.fy_cluster.specs.History.{acked, clogged, keeper, left}
use Rattle.fy_cluster.specs.Execution.{Execution, history_of, next_entry, replied}
use Rattle.fy_cluster.specs.Sights.{Sees, needed_at, status_at}
use Rattle.fy_cluster.specs.Asked.{clog_end_in, grants_in, holds_in, protected_in, team_in, time_in}
use Rattle.fy_questions.specs.declared.question.Attempt.{Attempt}
use Rattle.fy_questions.specs.declared.question.Attempt.TheVariants as attempt
use Rattle.fy_questions.specs.declared.question.Question.{Question}
use Rattle.fy_questions.specs.declared.question.Question.TheVariants as ask
use Rattle.fy_questions.specs.declared.told.ClusterNow.{ClusterNow}
use Rattle.fy_questions.specs.declared.told.Missing.{Missing}
use Rattle.fy_questions.specs.declared.told.Missing.TheVariants as missing
use Rattle.fy_questions.specs.declared.told.ProcessState.{ProcessState}
use Rattle.fy_questions.specs.declared.told.RecordState.{RecordState}
use Rattle.fy_questions.specs.declared.told.Told.{Told}
use Rattle.fy_questions.specs.declared.told.Told.TheVariants as tell
use Rattle.fy_questions.specs.Bearings.{IsBearing}

-- ---- acts that are judged

-- the act that is judged
abbrev pub act_of : Attempt → Act
act_of (attempt.Kill order) = act.Kill order
act_of (attempt.Clog target ticks) = act.Clog target ticks

-- the order to kill the process with a name by the hardest kind, or where that is barred by the
-- hardest milder one
abbrev pub any_order : List ℕ → Order
any_order name = record {
  target = record { key = ByName; value = name };
  kind = KillInstantly;
  floor = RebootProcess;
  tear = 0;
  ordered = lit≤ tt;
}

-- the kind that struck, by the reply to a kill
abbrev pub struck_in : Reply → Option Kind
struck_in (reply.Verdict verdict) = verdict.struck
struck_in _ = None

-- the kind by which that kill would strike now
abbrev pub struck_now : Execution → ℕ → List ℕ → Option Kind
struck_now execution by name = struck_in (replied execution by (act.Kill (any_order name)))

-- the hardest kind by which a kill of process p alone would strike now
abbrev pub hardest_on : Execution → (by p : ℕ) → Option Kind
hardest_on execution by p =
    option_and_then (struck_now execution by) (value_of execution.setup.processes ByName p)

-- ---- processes

-- whether a process is clogged
abbrev pub is_clogged_in : Execution → ℕ → Bool
is_clogged_in execution p = clogged (history_of execution) p

-- until when a process is clogged, where it is
abbrev pub clogged_until : Execution → ℕ → Option ℕ
clogged_until execution p =
    if is_clogged_in execution p then Some (clog_end_in execution p) else None

-- what has become of a process
abbrev pub state_of : Execution → ℕ → ProcessState
state_of execution p = record {
  status = status_at (history_of execution) p;
  clogged_until = clogged_until execution p;
  protected = protected_in execution p;
}

-- the numbers of the processes
abbrev pub numbers : Execution → List ℕ
numbers execution = range_with_len 0 (length execution.setup.processes)

-- those left that have the target's value of its key
abbrev pub named_now : Execution → Target → ℕ → Bool
named_now execution target =
    targets execution.setup.processes (left execution.setup (history_of execution)) target

-- ---- the cluster and its records

-- what the cluster consists of: its setup, each actor's grants now, and how many entries there are
pub record IsClusterNow (execution : Execution) (told : ClusterNow) : Type 0 where
  pub config : told.config.now ≡ execution.setup
  pub grants : map (λ own. own.now) told.grants.items
      ≡ map (grants_in execution) (range_with_len 0 (length execution.setup.roles))
  pub entries : told.entries ≡ length execution.journal

-- what has become of a record: its team, whether it is acknowledged, who has it synced, its keeper
pub record IsRecordNow (execution : Execution) (rec : ℕ) (told : RecordState) : Type 0 where
  pub team : team_in execution rec ≡ Some told.team
  pub acked : told.acked ≡ acked (history_of execution) rec
  pub synced : (p : ℕ) → sets.contains told.synced p ≡ holds_in execution rec p
  pub keeper : told.keeper ≡ keeper execution.setup (history_of execution) rec

-- ---- what is told, by question

-- of each process the hardest kind
abbrev pub TellsKillable : Execution → ℕ → Told → Type 0
TellsKillable execution by (tell.Killable kinds) =
    kinds.items ≡ map (hardest_on execution by) (numbers execution)
TellsKillable execution by _ = ⊥

-- the time, and the state of each process
abbrev pub TellsStates : Execution → Told → Type 0
TellsStates execution (tell.States now states) =
    (now ≡ time_in execution) × (states.items ≡ map (state_of execution) (numbers execution))
TellsStates execution _ = ⊥

-- the cluster
abbrev pub TellsCluster : Execution → Told → Type 0
TellsCluster execution (tell.Cluster told) = IsClusterNow execution told
TellsCluster execution _ = ⊥

-- whom a target names
abbrev pub TellsTargets : Execution → Target → Told → Type 0
TellsTargets execution target (tell.Targets processes) =
    (p : ℕ) → sets.contains processes p ≡ named_now execution target p
TellsTargets execution target _ = ⊥

-- a record
abbrev pub TellsRecord : Execution → ℕ → Told → Type 0
TellsRecord execution rec (tell.Record told) = IsRecordNow execution rec told
TellsRecord execution rec _ = ⊥

-- the time, and what there is to do next
abbrev pub TellsSight : Execution → Told → Type 0
TellsSight execution (tell.Sight sight) = Sees execution.setup (history_of execution) sight
TellsSight execution _ = ⊥

-- how much may still be lost
abbrev pub TellsBearing : Execution → Told → Type 0
TellsBearing execution (tell.Bears bearing) =
    IsBearing execution.setup (history_of execution) bearing
TellsBearing execution _ = ⊥

-- what is told where something is there; and else that it is missing
abbrev pub IsToldIf : Bool → Missing → (Told → Type 0) → Told → Type 0
IsToldIf true thing tells told = tells told
IsToldIf false thing tells told = told ≡ tell.No thing

-- whether there is an actor with the number
abbrev pub has_actor : Execution → ℕ → Bool
has_actor execution by = nat_lt by (length execution.setup.roles)

-- whether there is a process with the number
abbrev pub has_process : Execution → ℕ → Bool
has_process execution p = nat_lt p (length execution.setup.processes)

-- what is told to a question
abbrev pub IsTold : Execution → Question → Told → Type 0
IsTold execution (ask.Judge by attempt) told =
    told ≡ tell.Judged (replied execution by (act_of attempt))
IsTold execution (ask.Killable by) told =
    IsToldIf (has_actor execution by) missing.Actor (TellsKillable execution by) told
IsTold execution ask.States told = TellsStates execution told
IsTold execution (ask.State process) told =
    IsToldIf (has_process execution process.0) missing.Process
    (λ it. it ≡ tell.State (time_in execution) (state_of execution process.0)) told
IsTold execution ask.Cluster told = TellsCluster execution told
IsTold execution (ask.Targets target) told = TellsTargets execution target told
IsTold execution (ask.Record rec) told =
    IsToldIf (is_some (team_in execution rec)) missing.Record (TellsRecord execution rec) told
IsTold execution (ask.Needed process) told =
    IsToldIf (has_process execution process.0) missing.Process
    (λ it. it ≡ tell.Needed (needed_at (history_of execution) process.0)) told
IsTold execution ask.Sight told = TellsSight execution told
IsTold execution ask.Bears told = TellsBearing execution told

-- ---- what the laws state

-- what is told to `judge` is the reply of the entry that the act would make next
abbrev pub JudgedIsReplied : Type 0
JudgedIsReplied =
    (execution : Execution) (by : ℕ) (attempt : Attempt) (told : Told) →
    IsTold execution (ask.Judge by attempt) told →
    told ≡ tell.Judged (next_entry execution by (act_of attempt)).reply

-- the kind that is told of a process is the one that `judge` is told to strike it
abbrev pub KillableIsJudged : Type 0
KillableIsJudged =
    (execution : Execution) (by p : ℕ) (name : List ℕ) (told : Told) →
    value_of execution.setup.processes ByName p ≡ Some name →
    IsTold execution (ask.Judge by (attempt.Kill (any_order name))) told →
    (judged : Reply) × (told ≡ tell.Judged judged)
    × (hardest_on execution by p ≡ struck_in judged)
