-- actors whose acts are known from the start
use Rattle.std.specs.Prelude.{◌≤◌, ℕ, suc, Bool, nat_lt, List, [], ◌++◌, length, map, Option, unwrap_or, slice_get, Result}
use Rattle.fy_locality.specs.declared.ProcId.{ProcId}
use Rattle.fy_locality.specs.declared.locality.Locality.{Locality}
use Rattle.fy_locality.specs.declared.key.Key.TheVariants.{Process, Machine}
use Rattle.fy_locality.specs.Locality.{value_of}
use Rattle.fy_kinds.specs.declared.kind.Kind.{Kind}
use Rattle.fy_kinds.specs.declared.order.Target.{Target}
use Rattle.fy_kinds.specs.Kinds.{rank}
use Rattle.fy_acts.specs.declared.act.Act.{Act}
use Rattle.fy_acts.specs.declared.act.Act.TheVariants.{Kill, Clog, Unclog}
use Rattle.fy_acts.specs.declared.reply.Reply.{Reply}
use Rattle.fy_cluster.specs.declared.fault.Fault.{Fault}
use Rattle.fy_actors.specs.declared.plans.SwizzlePlan.{SwizzlePlan}
use Rattle.fy_actors.specs.declared.desk.Turn.{Turn}
use Rattle.fy_actors.specs.Desk.{DeskState}
use Rattle.fy_actors.specs.Turns.{TakesTurn}

-- acts in the order in which they are made, one a turn, and how many were made
pub record Schedule : Type 0 where
  pub acts : List Act
  pub made : ℕ

-- these acts, none of which was made yet
abbrev pub begun : List Act → Schedule
begun acts = record { acts = acts; made = 0 }

-- the act that comes next, if one is left
abbrev pub next_of : Schedule → Option Act
next_of schedule = slice_get schedule.acts schedule.made

-- whether acts are left
abbrev pub has_next : Schedule → Bool
has_next schedule = nat_lt schedule.made (length schedule.acts)

-- one more was made, whatever was replied
abbrev pub one_made : Schedule → Reply → Schedule
one_made schedule reply = record schedule { made = suc schedule.made }

-- a turn makes the act that comes next
abbrev pub FollowsSchedule : Schedule × DeskState → Schedule × DeskState → Result Turn Fault → Type 0
FollowsSchedule was now result = TakesTurn one_made has_next (next_of was.0) was now result

-- ---- what is on it

-- a process by its name
abbrev pub process_target : List Locality → ProcId → Target
process_target processes p =
    record { key = Process; value = unwrap_or (value_of processes Process p.0) [] }

-- each process that is to be clogged, for so many ticks, and then each that is to be freed
abbrev pub swizzle_acts : List Locality → SwizzlePlan → ℕ → List Act
swizzle_acts processes plan ticks =
    map (λ p. Clog (process_target processes p) ticks) plan.clogs.items
    ++ map (λ p. Unclog (process_target processes p)) plan.frees.items

-- an order to kill a machine by this kind, or by a milder one down to the floor
abbrev pub attrition_act : (kind floor : Kind) → ℕ → rank floor ≤ rank kind → List ℕ → Act
attrition_act kind floor tear ordered machine = Kill (record {
  target = record { key = Machine; value = machine };
  kind = kind;
  floor = floor;
  tear = tear;
  ordered = ordered;
})

-- such an order for each machine
abbrev pub attrition_acts : (kind floor : Kind) → ℕ → rank floor ≤ rank kind → List (List ℕ)
    → List Act
attrition_acts kind floor tear ordered machines =
    map (attrition_act kind floor tear ordered) machines
