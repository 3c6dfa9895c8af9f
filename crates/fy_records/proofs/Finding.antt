-- what is found in a list
use Rattle.std.proofs.Common.{◌≡◌, ◌<◌, ℕ, zero, suc, Bool, true, false, cond, ◌∙◌, List, [], ◌∷◌, ◌||◌, ◌&&◌, not, Option, Some, None, refl, sym, ap, subst, arith, inl, inr, ◌⊎◌}
use Rattle.std.specs.Prelude.{nat_lt, IfSome, Contains, find, is_some}
use Rattle.std.specs.List.{list_any}
use Rattle.std.proofs.lemmas.List.Folds.{list_any_at}
use Rattle.fy_records.specs.declared.seen.Seen.{Seen}
use Rattle.fy_records.specs.Found.{FindsOne}

-- the first is an element
pub contains_first : {X : Type 0} (x : X) (xs : List X) → Contains (x ∷ xs) x
contains_first x xs = (zero, omega (arith), refl)

-- so is each of the others
pub contains_other : {X : Type 0} (x : X) (xs : List X) (y : X) → Contains xs y → Contains (x ∷ xs) y
contains_other x xs y (k, within, is) = (suc k, omega (arith), is)

-- an element is the first or one of the others
pub contains_cases : {X : Type 0} (x : X) (xs : List X) (y : X) → Contains (x ∷ xs) y → (x ≡ y) ⊎ Contains xs y
contains_cases x xs y (zero, within, is) = inl is
contains_cases x xs y (suc k, within, is) = inr (k, omega (arith, within), is)

-- one more read that doesn't pass
finds_behind : (p : Seen → Bool) (x : Seen) (xs : List Seen) (r : Option Seen) → p x ≡ false → FindsOne p xs r → FindsOne p (x ∷ xs) r
finds_behind p x xs None fails none = ap (λ b. b || list_any p xs) fails ∙ none
finds_behind p x xs (Some seen) fails (there, holds) = (contains_other x xs seen there, holds)

-- the first that passes a test is one that passes it
pub finds_one : (p q : Seen → Bool) (xs : List Seen) → ((s : Seen) → Contains xs s → q s ≡ p s) → FindsOne p xs (find q xs)
finds_one p q [] same = refl
finds_one p q (x ∷ xs) same =
    by (q x) refl (finds_one p q xs (λ s there. same s (contains_other x xs s there)))
  where
    here : q x ≡ p x
    here = same x (contains_first x xs)

    by : (b : Bool) → q x ≡ b → FindsOne p xs (find q xs) → FindsOne p (x ∷ xs) (cond b (Some x) (find q xs))
    by true e rest = (contains_first x xs, sym here ∙ e)
    by false e rest = finds_behind p x xs (find q xs) (sym here ∙ e) rest

-- tests that say the same of each element
pub any_agree : {X : Type 0} (p q : X → Bool) (xs : List X) → ((x : X) → Contains xs x → p x ≡ q x) → list_any p xs ≡ list_any q xs
any_agree p q [] same = refl
any_agree p q (x ∷ xs) same =
    ap (λ b. b || list_any p xs) (same x (contains_first x xs))
    ∙ ap (λ b. q x || b) (any_agree p q xs (λ y there. same y (contains_other x xs y there)))

-- some element passes where this one does
pub passes_there : {X : Type 0} (p : X → Bool) (xs : List X) (x : X) → Contains xs x → p x ≡ true → list_any p xs ≡ true
passes_there p xs x at holds =
    list_any_at p xs at.0 x at.1 (subst (λ y. p y ≡ true) (sym at.2) holds)

-- what is found by a test is found by one that says the same
pub finds_alike : (p q : Seen → Bool) (xs : List Seen) (r : Option Seen) → ((s : Seen) → q s ≡ p s) → FindsOne q xs r → FindsOne p xs r
finds_alike p q xs None same none = sym (any_agree q p xs (λ x at. same x)) ∙ none
finds_alike p q xs (Some seen) same (there, holds) = (there, sym (same seen) ∙ holds)

-- something is found exactly where some element passes
pub found_or_not : (p : Seen → Bool) (xs : List Seen) (r : Option Seen) → FindsOne p xs r → is_some r ≡ list_any p xs
found_or_not p xs None none = sym none
found_or_not p xs (Some seen) (there, holds) = sym (passes_there p xs seen there holds)

-- the last line at which one began that passes is the line of one
pub last_is_there : (p : Seen → Bool) (xs : List Seen) (line last : ℕ)
    → ((n : ℕ) → nat_lt n last ≡ list_any (λ s. p s && nat_lt n s.read.began.line) xs) → line < last
    → list_any (λ s. p s && not (nat_lt s.read.began.line last)) xs ≡ true
last_is_there p xs line zero says behind = absurd (omega (arith, behind))
last_is_there p xs line (suc last) says behind =
    any_agree _ _ xs (λ s at. ap (λ b. p s && b) (turned s.read.began.line last))
    ∙ sym (says last) ∙ grind (arith)
  where
    turned : (n m : ℕ) → not (nat_lt n (suc m)) ≡ nat_lt m n
    turned n m = grind (arith)

-- what is found, if something is
pub if_found : (p : Seen → Bool) (xs : List Seen) (r : Option Seen) → FindsOne p xs r
    → IfSome r (λ seen. FindsOne p xs (Some seen))
if_found p xs None found = tt
if_found p xs (Some seen) found = found
