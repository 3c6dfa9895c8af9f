-- orders on one process, given by its number
use Rattle.std.specs.Prelude.{◌≡◌, ◌≢◌, ◌<◌, ◌≤◌, ℕ, List, length}
use Rattle.fy_locality.specs.declared.locality.Locality.{Locality}
use Rattle.fy_kinds.specs.declared.kind.Kind.{Kind}
use Rattle.fy_kinds.specs.Kinds.{rank}
use Rattle.fy_kinds.specs.Orders.{Order}
use Rattle.fy_decide.specs.Verdicts.{NamesProcess}
use Rattle.fy_cluster.specs.Execution.{Execution}
use Rattle.fy_c.specs.Numbers.{kind_number}
use Rattle.fy_c.specs.Killing.{IsKilled, IsJudged, untold}
use Rattle.fy_c.specs.declared.killing.Told.{Told}
use Rattle.fy_c.specs.declared.status.Status.{Status}
use Rattle.fy_c.specs.declared.status.Status.TheVariants.{Argument, Floor}

-- an order on one process as C gives it
pub record GivenProcess : Type 0 where
  pub process : ℕ
  pub kind : ℕ
  pub floor : ℕ
  pub tear : ℕ

-- the order that is given by numbers: it names the process by its name
pub record IsOrderOn (processes : List Locality) (given : GivenProcess) (order : Order) : Type 0
  where
    pub named : NamesProcess processes given.process order
    pub kind : given.kind ≡ kind_number order.kind
    pub floor : given.floor ≡ kind_number order.floor
    pub tear : given.tear ≡ order.tear

-- the three numbers are those of a process and of two kinds
pub record AreKindsOn (processes : List Locality) (given : GivenProcess) (kind floor : Kind)
    : Type 0 where
  pub process : given.process < length processes
  pub kind_is : given.kind ≡ kind_number kind
  pub floor_is : given.floor ≡ kind_number floor

-- why no order is given, the first that holds: a number is of no kind or of no process, or the
-- floor is above the kind
pub data NoOrderOn (processes : List Locality) (given : GivenProcess) : Status → Type 0 where
  no_kind : ((kind : Kind) → given.kind ≢ kind_number kind) → NoOrderOn processes given Argument
  no_floor : ((kind : Kind) → given.floor ≢ kind_number kind) → NoOrderOn processes given Argument
  no_process : length processes ≤ given.process → NoOrderOn processes given Argument
  above : (kind floor : Kind) → AreKindsOn processes given kind floor → rank kind < rank floor →
      NoOrderOn processes given Floor

-- the order came to something, and that is what is told; or none was given, and nothing changed
pub data KillsProcess (old new : Execution) (by : ℕ) (given : GivenProcess) (told : Told)
    (status : Status) : Type 0 where
  killed : (order : Order) → IsOrderOn old.setup.processes given order →
      IsKilled old new by order status told → KillsProcess old new by given told status
  not_given : NoOrderOn old.setup.processes given status → new ≡ old → told ≡ untold →
      KillsProcess old new by given told status

-- an order is given, and the reply that it would get now is told; or none is, and why is told
pub data JudgesProcess (execution : Execution) (by : ℕ) (given : GivenProcess) (told : Told)
    (status : Status) : Type 0 where
  judged : (order : Order) → IsOrderOn execution.setup.processes given order →
      IsJudged execution by order status told → JudgesProcess execution by given told status
  not_given : NoOrderOn execution.setup.processes given status → told ≡ untold →
      JudgesProcess execution by given told status
