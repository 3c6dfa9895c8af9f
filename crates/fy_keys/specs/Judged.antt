-- what is judged of the keys of a history
use Rattle.std.specs.Prelude.{◌≡◌, ◌≢◌, ◌≤◌, ◌↔◌, ℕ, List, [], Option, Some, None, All, AllPairs, IfSome, slice_get, length}
use Rattle.std.specs.List.Sorted.{IsPermutation, IsNonDecreasingBy}
use Rattle.fy_history.specs.Histories.{IsRead}
use Rattle.fy_history.specs.Names.{number_of}
use Rattle.fy_history.specs.Progress.{Text}
use Rattle.fy_history.specs.declared.history.History.{History}
use Rattle.fy_history.specs.declared.progress.Known.{Known}
use Rattle.fy_registers.specs.declared.evidence.Judgement.{Judgement}
use Rattle.fy_registers.specs.declared.evidence.Judgement.TheVariants.{Linearizable, Not, Twice}
use Rattle.fy_registers.specs.Evidence.{Shows}
use Rattle.fy_registers.specs.Keys.{of_key}
use Rattle.fy_values.specs.Values.{IsJudgedInTime}
use Rattle.fy_keys.specs.Operations.{all_of, began_of}
use Rattle.fy_keys.specs.Registers.{operations_of, IsLinear}
use Rattle.fy_keys.specs.declared.judged.Judged.{Judged}

-- the operations are those of the history as they began, and those of each key are judged
pub record IsJudgedOf (history : History) (judged : Judged) : Type 0 where
  pub same : IsPermutation (all_of history) judged.operations.items
  pub order : IsNonDecreasingBy began_of judged.operations.items
  pub each : (key : ℕ) → IfSome (slice_get judged.judgements.items key)
      (IsJudgedInTime (of_key key judged.operations.items))
  pub others : (key : ℕ) → length judged.judgements.items ≤ key →
      of_key key judged.operations.items ≡ []

-- a key is judged: its operations have an order; or they have none, which some of them show
abbrev pub IsJudgement : History → (key : Text) → Option Judgement → Type 0
IsJudgement history key (Some Linearizable) = IsLinear history key
IsJudgement history key (Some (Not evidence)) =
    Shows (operations_of history key) evidence × (IsLinear history key → ⊥)
IsJudgement history key (Some (Twice one other)) = ⊥
IsJudgement history key None = ⊥

-- all keys of a history are judged by its operations: no text has two numbers, the judgement of a
-- key stands at its number, what has no judgement has no operation, and all are judged linearizable
-- exactly where all are
pub record AreJudged (history : History) (judged : Judged) : Type 0 where
  pub same : IsPermutation (all_of history) judged.operations.items
  pub apart : AllPairs (λ one other. one ≢ other) history.names
  pub each : (key : Text) → IfSome (slice_get judged.judgements.items (number_of history.names key))
      (IsJudgement history key)
  pub others : (key : Text) → length judged.judgements.items ≤ number_of history.names key →
      operations_of history key ≡ []
  pub all : All (λ it. it ≡ Some Linearizable) judged.judgements.items
      ↔ ((key : Text) → IsLinear history key)

-- LAW: what is judged of a history that was read is true of its keys
abbrev pub ReadAreJudged : Type 0
ReadAreJudged = (known : Known) (bytes : List ℕ) (history : History) (judged : Judged) →
    IsRead known bytes history → IsJudgedOf history judged → AreJudged history judged
