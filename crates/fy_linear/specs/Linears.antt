-- what `linear` writes
use Rattle.std.specs.Prelude.{ℕ, Bool, List, IsTrue, ◌↔◌}
use Rattle.fy_history.specs.Histories.{IsRead}
use Rattle.fy_history.specs.Progress.{Text}
use Rattle.fy_history.specs.declared.history.History.{History}
use Rattle.fy_history.specs.declared.line.TheConstants.{MOST_NODES}
use Rattle.fy_history.specs.declared.progress.Known.{Known}
use Rattle.fy_keys.specs.Registers.{IsLinear}
use Rattle.fy_keys.specs.Judged.{AreJudged}
use Rattle.fy_keys.specs.declared.judged.Judged.{Judged}

-- each process and each entry may be named
abbrev pub any : Known
any = record { processes = MOST_NODES; entries = 4294967295 }

-- the bytes are a history, its keys are judged, a text that stands for that went out, whole or in
-- part, and the answer is yes exactly where the operations of each key have an order
pub record Tells (bytes : List ℕ) (spells : List Text → Judged → List ℕ → Type 0) (done : Bool)
    (goes : List ℕ → Type 0) : Type 0 where
  pub history : History
  pub read : IsRead any bytes history
  pub judged : Judged
  pub judges : AreJudged history judged
  pub text : List ℕ
  pub spelled : spells history.names judged text
  pub out : goes text
  pub answer : IsTrue done ↔ ((key : Text) → IsLinear history key)
