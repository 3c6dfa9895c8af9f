-- an act that is given, and what came of it
use Rattle.std.proofs.Common.{◌≡◌}
use Rattle.std.specs.Prelude.{ℕ, List, Result, Ok, Err, IfOk, IfErr}
use Rattle.fy_acts.specs.declared.act.Act.{Act}
use Rattle.fy_cluster.specs.Execution.{Execution}
use Rattle.fy_c.specs.Making.{Makes, MakesGiven, NoGive, NoKinds, nothing_told}
use Rattle.fy_c.specs.Statuses.{number}
use Rattle.fy_c.specs.declared.making.FyReply.{FyReply}
use Rattle.fy_c.specs.declared.status.Status.{Status}

-- an act that is given is made, and of one that isn't nothing is told
pub makes_given : (old new : Execution) (by : ℕ) (IsGiven : Act → Type 0) (NotGiven : Status → Type 0)
    (given : Result Act Status) (code : ℕ) (told : FyReply) → IfOk given IsGiven → IfErr given NotGiven →
    IfOk given (λ act. Makes old new by act code told) →
    IfErr given (λ status. (code ≡ number status) × (new ≡ old) × (told ≡ nothing_told)) →
    MakesGiven old new by IsGiven NotGiven code told
makes_given old new by IsGiven NotGiven (Ok act) code told is none made unmade =
    MakesGiven.made act is made
makes_given old new by IsGiven NotGiven (Err status) code told is none made unmade =
    MakesGiven.not_given status none unmade.0 unmade.1 unmade.2

-- no grant is given where its kinds aren't
pub no_give : (bits key : ℕ) (value : List ℕ) (status : Status) → NoKinds bits status →
    NoGive bits key value status
no_give bits key value _ (NoKinds.no_kinds none) = NoGive.no_kinds none
