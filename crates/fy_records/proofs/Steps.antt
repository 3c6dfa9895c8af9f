-- steps of loops that look for the first or the last of reads
use Rattle.std.proofs.Common.{◌≡◌, ◌<◌, ◌+◌, ℕ, Bool, true, false, ◌||◌, ◌∙◌, List, take, length, get_or, refl, sym, ap}
use Rattle.std.specs.List.{list_any}
use Rattle.std.proofs.lemmas.List.Folds.{list_any_more}

-- what held of the first reads, with one more
pub one_more : {X : Type 0} (p : X → Bool) (xs : List X) (i : ℕ) (x : X) (old new : Bool) → i < length xs
    → x ≡ get_or xs i x → old ≡ list_any p (take i xs) → new ≡ (old || p x)
    → new ≡ list_any p (take (i + 1) xs)
one_more p xs i x old new here at before step =
    step ∙ ap (λ b. b || p x) before ∙ ap (λ y. list_any p (take i xs) || p y) at
    ∙ sym (list_any_more p xs i x here)

-- a test that nothing more passes
pub or_none : (b : Bool) → b ≡ (b || false)
or_none true = refl
or_none false = refl
