-- what was made is put into its place, or it is said why nothing was
use Rattle.std.proofs.Common.{◌≡◌, sym, subst}
use Rattle.std.proofs.lemmas.Result.{MatchResult-weaker}
use Rattle.std.specs.Prelude.{ℕ, Result, Ok, Err, IfOk, IfErr}
use Rattle.fy_c.specs.Statuses.{Answers, number, ending}
use Rattle.fy_c.specs.declared.status.Status.{Status}
use Rattle.fy_c.specs.declared.status.Status.TheVariants.{Done}

-- what holds of that holds of the place, by what `put` ensures
pub placed : {A : Type 0} (Holds : A → Status → Type 0) (made : Result A Status) (n : ℕ)
    (old new : A) → IfOk made (λ it. Holds it Done) → IfErr made (Holds old) →
    n ≡ number (ending made) → IfOk made (λ it. new ≡ it) → IfErr made (λ _. new ≡ old) →
    Answers n (Holds new)
placed Holds (Ok it) n old new done none is put kept =
    (Done, is, subst (λ x. Holds x Done) (sym put) done)
placed Holds (Err status) n old new done none is put kept =
    (status, is, subst (λ x. Holds x status) (sym kept) none)

-- whatever was there before
pub placed_over : {A : Type 0} (Holds : A → A → Status → Type 0) (made : Result A Status) (n : ℕ)
    (old new : A) → IfOk made (λ it. (x : A) → Holds x it Done) →
    IfErr made (λ status. (x : A) → Holds x x status) → n ≡ number (ending made) →
    IfOk made (λ it. new ≡ it) → IfErr made (λ _. new ≡ old) → Answers n (Holds old new)
placed_over Holds made n old new done none =
    placed (Holds old) made n old new (MatchResult-weaker made done (λ it holds. holds old) (λ _ t. t))
    (MatchResult-weaker made none (λ _ t. t) (λ status holds. holds old))
