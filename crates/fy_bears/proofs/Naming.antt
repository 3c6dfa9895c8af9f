-- which keys several policies name
use Rattle.std.proofs.Common.{◌≡◌, ◌∙◌, ◌<◌, ℕ, zero, suc, Bool, true, false, ◌||◌, List, [], ◌∷◌, length, get_or, refl, sym, ap, arith}
use Rattle.fy_locality.specs.declared.key.Key.{Key}
use Rattle.fy_policy.specs.declared.shape.Shape.{Shape}
use Rattle.fy_policy.specs.Shape.{tree_of}
use Rattle.fy_policy.proofs.Shapes.{parts_from}
use Rattle.fy_bears.specs.Warnings.{any_names, names}

or_true : (b : Bool) → (b || true) ≡ true
or_true true = refl
or_true false = refl

-- where no part names a key, they don't
pub none_names : (key : Key) (qs : List Shape)
    → ((k : ℕ) (d : Shape) → k < length qs → names key (tree_of (get_or qs k d)) ≡ false)
    → any_names key (parts_from qs) ≡ false
none_names key [] each = refl
none_names key (q ∷ qs) each =
    ap (λ b. b || any_names key (parts_from qs)) (each zero q (omega arith))
    ∙ none_names key qs (λ k d h. each (suc k) d (omega arith))

-- where one part names it, they do
pub one_names : (key : Key) (qs : List Shape) (k : ℕ) (q : Shape) → k < length qs
    → q ≡ get_or qs k q → names key (tree_of q) ≡ true → any_names key (parts_from qs) ≡ true
one_names key [] k q within is named = absurd (omega arith)
one_names key (p ∷ qs) zero q within is named =
    ap (λ b. b || any_names key (parts_from qs)) (ap (λ r. names key (tree_of r)) (sym is) ∙ named)
one_names key (p ∷ qs) (suc k) q within is named =
    ap (λ b. names key (tree_of p) || b) (one_names key qs k q (omega arith) is named)
    ∙ or_true (names key (tree_of p))
