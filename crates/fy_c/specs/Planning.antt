-- words of a seed, and the orders of plans that are drawn from them
use Rattle.std.specs.Prelude.{◌≡◌, ◌≢◌, ◌<◌, ◌≤◌, ◌-◌, ℕ, List, [], ◌++◌, length, map, drop, replicate}
use Rattle.fy_locality.specs.declared.ProcId.{ProcId}
use Rattle.fy_locality.specs.declared.locality.Locality.{Locality}
use Rattle.fy_locality.specs.declared.key.Key.TheVariants.{Machine}
use Rattle.fy_kinds.specs.declared.kind.Kind.{Kind}
use Rattle.fy_kinds.specs.Kinds.{rank}
use Rattle.fy_acts.specs.declared.act.Act.{Act}
use Rattle.fy_acts.specs.declared.act.Act.TheVariants.{Kill, Clog, Unclog}
use Rattle.fy_actors.specs.Words.{stream_outputs}
use Rattle.fy_actors.specs.Plans.{IsSwizzle, machines_to_kill, everyone, plan_words}
use Rattle.fy_actors.specs.Schedules.{process_target, swizzle_acts, attrition_acts}
use Rattle.fy_actors.specs.declared.plans.SwizzlePlan.{SwizzlePlan}
use Rattle.fy_players.specs.declared.faults.Plan.{Plan}
use Rattle.fy_players.specs.declared.faults.Plan.TheVariants.{Mixed, Attrition, Swizzle, Rolling}
use Rattle.fy_players.specs.Orders.{AreOrders}
use Rattle.fy_c.specs.Numbers.{key_number, kind_number}
use Rattle.fy_c.specs.Killing.{AreKinds, NoKindAndFloor}
use Rattle.fy_c.specs.declared.planning.TheConstants.{VALUE_BYTES}
use Rattle.fy_c.specs.declared.planning.Asked.{Asked}
use Rattle.fy_c.specs.declared.planning.FyOrder.{FyOrder}
use Rattle.fy_c.specs.declared.status.Status.{Status}
use Rattle.fy_c.specs.declared.status.Status.TheVariants.{Done, NoMemory, Short, Argument}

-- there are as many words as before, the first of a stream of the seed; or an allocation failed
pub data Draws (seed stream : ℕ) (before after : List ℕ) : Status → Type 0 where
  drawn : after ≡ stream_outputs seed stream (length before) → Draws seed stream before after Done
  no_memory : after ≡ before → Draws seed stream before after NoMemory

-- ---- what C is told of an act

-- a name's bytes with zeros behind them
abbrev pub with_zeros : List ℕ → List ℕ
with_zeros name = name ++ replicate (VALUE_BYTES - length name) 0

-- what is told of an act that orders nothing
abbrev pub no_order : FyOrder
no_order = record {
  ticks = 0;
  tear = 0;
  act = 0;
  key = 0;
  kind = 0;
  floor = 0;
  value = with_zeros [];
}

-- the order of an act: kills are 1, clogs 2 and their ends 3
abbrev pub order_of : Act → FyOrder
order_of (Kill order) = record {
  ticks = 0;
  tear = order.tear;
  act = 1;
  key = key_number order.target.key;
  kind = kind_number order.kind;
  floor = kind_number order.floor;
  value = with_zeros order.target.value;
}
order_of (Clog target ticks) = record {
  ticks = ticks;
  tear = 0;
  act = 2;
  key = key_number target.key;
  kind = 0;
  floor = 0;
  value = with_zeros target.value;
}
order_of (Unclog target) = record {
  ticks = 0;
  tear = 0;
  act = 3;
  key = key_number target.key;
  kind = 0;
  floor = 0;
  value = with_zeros target.value;
}
order_of _ = no_order

-- the orders of acts
abbrev pub orders_of : List Act → List FyOrder
orders_of acts = map order_of acts

-- the order to clog a process for so many ticks
abbrev pub clog_of : List Locality → ℕ → ProcId → FyOrder
clog_of processes ticks p = order_of (Clog (process_target processes p) ticks)

-- the order to end the clogs of a process
abbrev pub unclog_of : List Locality → ProcId → FyOrder
unclog_of processes p = order_of (Unclog (process_target processes p))

-- the order to kill a machine
abbrev pub kill_of : Kind → Kind → ℕ → List ℕ → FyOrder
kill_of kind floor tear machine = record {
  ticks = 0;
  tear = tear;
  act = 1;
  key = key_number Machine;
  kind = kind_number kind;
  floor = kind_number floor;
  value = with_zeros machine;
}

-- ---- plans

-- the orders are those of a swizzle of all processes
pub record IsSwizzleOf (processes : List Locality) (seed stream ticks : ℕ) (orders : List FyOrder)
    : Type 0 where
  pub plan : SwizzlePlan
  pub drawn : IsSwizzle (plan_words processes seed stream) (everyone processes) plan
  pub orders_are : orders ≡ orders_of (swizzle_acts processes plan ticks)

-- the machines of such a plan
abbrev pub machines_of : List Locality → Asked → List (List ℕ)
machines_of processes asked =
    machines_to_kill (plan_words processes asked.seed asked.stream) processes asked.to_kill
    asked.to_leave

-- the orders are those of an attrition
pub record IsAttritionOf (processes : List Locality) (asked : Asked) (kind floor : Kind)
    (ordered : rank floor ≤ rank kind) (orders : List FyOrder) : Type 0 where
  pub orders_are : orders
      ≡ orders_of (attrition_acts kind floor asked.tear ordered (machines_of processes asked))

-- ---- what a call gives of a plan

-- the orders are written to the front of a buffer, whose others stay; or it is too short, and stays
-- as it is. How many there are is told
pub data Gives (orders before after : List FyOrder) (told : ℕ) : Status → Type 0 where
  given : length orders ≤ length before → told ≡ length orders →
      after ≡ orders ++ drop (length orders) before → Gives orders before after told Done
  short : length before < length orders → told ≡ length orders → after ≡ before →
      Gives orders before after told Short

-- a plan is given, or an allocation failed for it
pub data Plans (IsPlan : List FyOrder → Type 0) (before after : List FyOrder) (told : ℕ)
    (status : Status) : Type 0 where
  planned : (orders : List FyOrder) → IsPlan orders → Gives orders before after told status →
      Plans IsPlan before after told status
  no_memory : status ≡ NoMemory → told ≡ 0 → after ≡ before →
      Plans IsPlan before after told status

-- an attrition is given, or an allocation failed; or none is asked for, and why is told
pub data PlansAttrition (processes : List Locality) (asked : Asked) (before after : List FyOrder)
    (told : ℕ) (status : Status) : Type 0 where
  asked_for : (kind floor : Kind) → (are : AreKinds asked.kind asked.floor kind floor) →
      Plans (IsAttritionOf processes asked kind floor are.ordered) before after told status →
      PlansAttrition processes asked before after told status
  not_asked : NoKindAndFloor asked.kind asked.floor status → told ≡ 0 → after ≡ before →
      PlansAttrition processes asked before after told status

-- ---- the plans of a simulation

-- plans, from 1
abbrev pub plan_number : Plan → ℕ
plan_number Mixed = 1
plan_number Attrition = 2
plan_number Swizzle = 3
plan_number Rolling = 4

-- the orders of so many turns of the fault actor with this number, from its first turn on
pub record AreOrdersOf (processes : List Locality) (plan : Plan) (seed actor count : ℕ)
    (orders : List FyOrder) : Type 0 where
  pub acts : List Act
  pub are : AreOrders processes plan seed actor acts
  pub turns : length acts ≡ count
  pub told : orders ≡ orders_of acts

-- a buffer is filled with such orders; or the number is that of no plan; or it is one's, and an
-- allocation failed
pub data FillsWithOrders (processes : List Locality) (number seed actor : ℕ)
    (before after : List FyOrder) : Status → Type 0 where
  filled : (plan : Plan) → number ≡ plan_number plan →
      AreOrdersOf processes plan seed actor (length before) after →
      FillsWithOrders processes number seed actor before after Done
  no_plan : ((plan : Plan) → number ≢ plan_number plan) → after ≡ before →
      FillsWithOrders processes number seed actor before after Argument
  no_memory : (plan : Plan) → number ≡ plan_number plan → after ≡ before →
      FillsWithOrders processes number seed actor before after NoMemory
