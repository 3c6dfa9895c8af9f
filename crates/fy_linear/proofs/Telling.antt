-- what was judged of a history, and its text that went out
use Rattle.std.proofs.Common.{◌≡◌, ◌↔◌, ℕ, Bool, List, Option, None, Some, IfSome, IsTrue, All}
use Rattle.fy_history.specs.Histories.{IsRead}
use Rattle.fy_history.specs.declared.history.History.{History}
use Rattle.fy_registers.specs.declared.evidence.Judgement.TheVariants.{Linearizable}
use Rattle.fy_keys.specs.Judged.{IsJudgedOf}
use Rattle.fy_keys.specs.declared.judged.Judged.{Judged}
use Rattle.fy_keys.proofs.Judging.{read_are_judged}
use Rattle.fy_linear.specs.Linears.{Tells, any}

-- put together
pub tells : (known : Option (List ℕ)) (spells : List (List ℕ) → Judged → List ℕ → Type 0)
    (goes : List ℕ → Type 0) (history : History) (judged : Judged) (text : List ℕ) (done : Bool)
    → IfSome known (λ bytes. IsRead any bytes history) → IsJudgedOf history judged
    → spells history.names judged text → goes text
    → (IsTrue done ↔ All (λ it. it ≡ Some Linearizable) judged.judgements.items)
    → IfSome known (λ bytes. Tells bytes spells done goes)
tells None spells goes history judged text done read is spelled out answer = tt
tells (Some bytes) spells goes history judged text done read is spelled out answer =
    let judges = read_are_judged any bytes history judged read is in
    record {
      history = history;
      read = read;
      judged = judged;
      judges = judges;
      text = text;
      spelled = spelled;
      out = out;
      answer = (
        (λ yes. judges.all.0 (answer.0 yes)),
        (λ linear. answer.1 (judges.all.1 linear)),
      );
    }
