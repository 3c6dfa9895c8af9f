-- an order by numbers, what came of it, and what is told of that
use Rattle.std.proofs.Common.{◌≡◌, refl, sym, subst}
use Rattle.std.specs.Prelude.{ℕ, Result, Ok, Err, IfOk, IfErr}
use Rattle.fy_kinds.specs.Orders.{Order}
use Rattle.fy_acts.specs.declared.act.Act.TheVariants.{Kill}
use Rattle.fy_acts.specs.declared.reply.Reply.{Reply}
use Rattle.fy_cluster.specs.Execution.{Execution, replied}
use Rattle.fy_c.specs.Entering.{status_of}
use Rattle.fy_c.specs.Killing.{Given, IsOrderOf, NoOrder, IsKilled, Kills, Judges, told_of, untold}
use Rattle.fy_c.specs.Statuses.{Answers, number}
use Rattle.fy_c.specs.declared.killing.Told.{Told}
use Rattle.fy_c.specs.declared.status.Status.{Status}

-- this holds of what is told of an answer, and of its status
abbrev pub HoldsOf : (Told → Status → Type 0) → Result Reply Status → Type 0
HoldsOf Holds answer =
    IfOk answer (λ reply. Holds (told_of (Ok reply)) (status_of (Ok reply)))
    × IfErr answer (Holds untold)

-- so it holds of what C is told
pub tells : (Holds : Told → Status → Type 0) (answer : Result Reply Status) (n : ℕ) (told : Told) →
    HoldsOf Holds answer → IfOk answer (λ reply. n ≡ number (status_of (Ok reply))) →
    IfOk answer (λ reply. told_of (Ok reply) ≡ told) →
    IfErr answer (λ status. (n ≡ number status) × (untold ≡ told)) → Answers n (Holds told)
tells Holds (Ok reply) n told holds is says none =
    (status_of (Ok reply), is, subst (λ it. Holds it (status_of (Ok reply))) says holds.0)
tells Holds (Err status) n told holds is says none =
    (status, none.0, subst (λ it. Holds it status) none.1 holds.1)

-- and of the outcome of which C is told a part
pub outcome : (Holds : Told → Status → Type 0) (answer : Result Reply Status)
    (it : Status × Told) → HoldsOf Holds answer →
    IfOk answer (λ reply. it.0 ≡ status_of (Ok reply)) →
    IfOk answer (λ reply. it.1 ≡ told_of (Ok reply)) →
    IfErr answer (λ status. it ≡ (status, untold)) → Holds it.1 it.0
outcome Holds (Ok reply) it holds is says none =
    subst (Holds it.1) (sym is)
    (subst (λ told. Holds told (status_of (Ok reply))) (sym says) holds.0)
outcome Holds (Err status) it holds is says none =
    subst (λ (of : Status × Told). Holds of.1 of.0) (sym none) holds.1

-- an order that was read was killed by, and one that wasn't is told of
pub kills : (old new : Execution) (by : ℕ) (given : Given) (order : Result Order Status)
    (answer : Result Reply Status) → IfOk order (IsOrderOf given) → IfErr order (NoOrder given) →
    IfOk order (λ it. IfOk answer (λ reply.
    IsKilled old new by it (status_of (Ok reply)) (told_of (Ok reply)))) →
    IfOk order (λ it. IfErr answer (λ status. IsKilled old new by it status untold)) →
    IfErr order (λ status. (new ≡ old) × (answer ≡ Err status)) →
    HoldsOf (Kills old new by given) answer
kills old new by given (Ok order) (Ok reply) is none replied failed not_given =
    (Kills.killed order is replied, tt)
kills old new by given (Ok order) (Err status) is none replied failed not_given =
    (tt, Kills.killed order is failed)
kills old new by given (Err status) answer is none replied failed not_given =
    subst (HoldsOf (Kills old new by given)) (sym not_given.1)
    (tt, Kills.not_given none not_given.0 refl)

-- an order that was read was judged, and one that wasn't is told of
pub judges : (execution : Execution) (by : ℕ) (given : Given) (order : Result Order Status)
    (answer : Result Reply Status) → IfOk order (IsOrderOf given) → IfErr order (NoOrder given) →
    IfOk order (λ it. answer ≡ Ok (replied execution by (Kill it))) →
    IfErr order (λ status. answer ≡ Err status) → HoldsOf (Judges execution by given) answer
judges execution by given (Ok order) answer is none judged not_given =
    subst (HoldsOf (Judges execution by given)) (sym judged)
    (Judges.judged order is (record { status_is = refl; told_is = refl }), tt)
judges execution by given (Err status) answer is none judged not_given =
    subst (HoldsOf (Judges execution by given)) (sym not_given)
    (tt, Judges.not_given none refl)
