-- an order on one process by numbers, and what came of it
use Rattle.std.proofs.Common.{◌≡◌, ◌<◌, ◌≤◌, zero, suc, List, [], ◌∷◌, length, Some, refl, ap, arith}
use Rattle.std.specs.Prelude.{ℕ, Ok}
use Rattle.fy_locality.specs.declared.key.Key.TheVariants.{Process}
use Rattle.fy_locality.specs.declared.locality.Locality.{Locality}
use Rattle.fy_locality.specs.Locality.{value_of}
use Rattle.fy_kinds.specs.declared.kind.Kind.{Kind}
use Rattle.fy_kinds.specs.Kinds.{rank}
use Rattle.fy_kinds.specs.Orders.{Order}
use Rattle.fy_decide.specs.Verdicts.{NamesProcess}
use Rattle.fy_acts.specs.declared.act.Act.TheVariants.{Kill}
use Rattle.fy_acts.specs.declared.reply.Reply.{Reply}
use Rattle.fy_cluster.specs.Execution.{Execution, replied}
use Rattle.fy_c.specs.Entering.{status_of}
use Rattle.fy_c.specs.Killing.{NoKindAndFloor, told_of}
use Rattle.fy_c.specs.KillingProcess.{GivenProcess, AreKindsOn, JudgesProcess, NoOrderOn}
use Rattle.fy_c.specs.declared.status.Status.{Status}

-- each process has a name
pub has_name : (processes : List Locality) (p : ℕ) → p < length processes →
    (name : List ℕ) × (value_of processes Process p ≡ Some name)
has_name [] p within = absurd (omega arith)
has_name (x ∷ xs) zero within = (x.process, refl)
has_name (x ∷ xs) (suc p) within = has_name xs p (let l : p < length xs = omega arith in l)

-- why no kinds are given for a process that is there
pub no_kinds_on : (processes : List Locality) (given : GivenProcess) (status : Status) →
    given.process < length processes → NoKindAndFloor given.kind given.floor status →
    NoOrderOn processes given status
no_kinds_on processes given _ there (NoKindAndFloor.no_kind none) = NoOrderOn.no_kind none
no_kinds_on processes given _ there (NoKindAndFloor.no_floor none) = NoOrderOn.no_floor none
no_kinds_on processes given _ there (NoKindAndFloor.above kind floor kind_is floor_is above) =
    NoOrderOn.above kind floor
    (record { process = there; kind_is = kind_is; floor_is = floor_is })
    above

-- what each order on a process by two kinds would get is what the one that they give would get
pub judges_process : (execution : Execution) (by : ℕ) (given : GivenProcess) (kind floor : Kind)
    (reply : Reply) → AreKindsOn execution.setup.processes given kind floor → rank floor ≤ rank kind →
    ((order : Order) → order.kind ≡ kind → order.floor ≡ floor →
    NamesProcess execution.setup.processes given.process order →
    reply ≡ replied execution by (Kill order)) →
    JudgesProcess execution by given (told_of (Ok reply)) (status_of (Ok reply))
judges_process execution by given kind floor reply are ordered is =
    let name = has_name execution.setup.processes given.process are.process in
    let order : Order = record {
      target = record { key = Process; value = name.0 };
      kind = kind;
      floor = floor;
      tear = given.tear;
      ordered = ordered;
    } in
    let named : NamesProcess execution.setup.processes given.process order = record {
      key = refl;
      name = name.1;
    } in
    let same : reply ≡ replied execution by (Kill order) = is order refl refl named in
    JudgesProcess.judged order
    (record { named = named; kind = are.kind_is; floor = are.floor_is; tear = refl })
    (record {
      status_is = ap (λ r. status_of (Ok r)) same;
      told_is = ap (λ r. told_of (Ok r)) same;
    })
