-- fronts of lists that rise
use Rattle.std.proofs.Common.{◌≡◌, ℕ, zero, suc, ◌+◌, ◌-◌, ◌<◌, ◌≤◌, Bool, true, false, ◌&&◌, ◌||◌, List, [], ◌∷◌, ◌++◌, length, map, take, find, get_or, slice_get, Option, Some, None, IfSome, refl, sym, ◌∙◌, ap, subst, arith, cond, if◌then◌else◌, append-nil}
use Rattle.std.specs.Prelude.{filter, nat_lt}
use Rattle.std.specs.List.{All, list_any}
use Rattle.std.specs.List.Sorted.{IsPartitionPoint, IsNonDecreasingBy}
use Rattle.std.specs.Option.{option_map_or}
use Rattle.std.proofs.lemmas.Bool.Decides.{nat_tests}
use Rattle.std.proofs.lemmas.List.{take_more, map-append}
use Rattle.std.proofs.lemmas.List.Elements.{filter_more}
use Rattle.std.proofs.lemmas.Option.{slice_get_within, get_or_from_slice_get}

-- what stands before the point that parts a list is what passes
pub front_is : {X : Type 0} (p : X → Bool) (xs : List X) (i : ℕ) → i ≤ length xs
    → IsPartitionPoint (λ x. p x ≡ true) (λ x. p x ≡ false) xs i → take i xs ≡ filter p xs
front_is p [] zero within parted = refl
front_is p [] (suc i) within parted = absurd (omega arith)
front_is p (x ∷ xs) zero within parted =
    front_is p xs zero (omega arith)
    (λ j d low high. absurd (omega arith), λ j d low high. parted.1 (suc j) d (omega arith) (omega arith))
    ∙ sym (ap (λ b. cond b (x ∷ filter p xs) (filter p xs)) (parted.1 0 x (omega arith) (omega arith)))
front_is p (x ∷ xs) (suc i) within parted =
    ap (λ ys. x ∷ ys) (front_is p xs i (omega arith)
    (λ j d low high. parted.0 (suc j) d (omega arith) (omega arith), λ j d low high. parted.1 (suc j) d (omega arith) (omega arith)))
    ∙ sym (ap (λ b. cond b (x ∷ filter p xs) (filter p xs)) (parted.0 0 x (omega arith) (omega arith)))

-- none behind an element that isn't below a number is below it
none_below : {X : Type 0} (n : X → ℕ) (p : X → Bool) (line : ℕ) (x : X) (xs : List X) → IsNonDecreasingBy n (x ∷ xs)
    → nat_lt (n x) line ≡ false → list_any (λ y. p y && nat_lt (n y) line) xs ≡ false
none_below n p line x [] rises not_below = refl
none_below n p line x (y ∷ ys) rises not_below =
    let above = rises 0 1 x (omega arith) (omega arith) in
    let here : nat_lt (n y) line ≡ false = grind (arith, nat_tests) in
    let rest : list_any (λ y. p y && nat_lt (n y) line) ys ≡ false = none_below n p line x ys (behind rises) not_below in
    ap (λ b. (p y && b) || list_any (λ y. p y && nat_lt (n y) line) ys) here
    ∙ ap (λ b. b || list_any (λ y. p y && nat_lt (n y) line) ys) (none (p y)) ∙ rest
  where
    none : (b : Bool) → (b && false) ≡ false
    none true = refl
    none false = refl

    behind : IsNonDecreasingBy n (x ∷ y ∷ ys) → IsNonDecreasingBy n (x ∷ ys)
    behind h zero zero d le lt = omega arith
    behind h zero (suc j) d le lt = h zero (suc (suc j)) d (omega arith) (omega arith)
    behind h (suc i) zero d le lt = absurd (omega arith)
    behind h (suc i) (suc j) d le lt = h (suc (suc i)) (suc (suc j)) d (omega arith) (omega arith)

-- of a list that rises some element that passes is below a number exactly where the first that
-- passes is
pub first_is_any : {X : Type 0} (n : X → ℕ) (p : X → Bool) (line : ℕ) (xs : List X) → IsNonDecreasingBy n xs
    → option_map_or (λ x. nat_lt (n x) line) (find p xs) false ≡ list_any (λ x. p x && nat_lt (n x) line) xs
first_is_any n p line [] rises = refl
first_is_any n p line (x ∷ xs) rises =
    by (first_is_any n p line xs tail) (p x) refl (nat_lt (n x) line) refl
  where
    tail : IsNonDecreasingBy n xs
    tail i j d le lt = rises (suc i) (suc j) d (omega arith) (omega arith)

    by : option_map_or (λ x. nat_lt (n x) line) (find p xs) false ≡ list_any (λ x. p x && nat_lt (n x) line) xs
        → (a : Bool) → p x ≡ a → (b : Bool) → nat_lt (n x) line ≡ b
        → option_map_or (λ x. nat_lt (n x) line) (if p x then Some x else find p xs) false
        ≡ ((p x && nat_lt (n x) line) || list_any (λ x. p x && nat_lt (n x) line) xs)
    by later true is true below = rw (is, below) refl
    by later true is false above = rw (is, above) (sym (none_below n p line x xs rises above))
    by later false is b below = rw is later

-- what holds of each element holds of the last, if there is one
pub last_holds : {X : Type 0} (P : X → Type 0) (xs : List X) (o : Option X) → All P xs
    → o ≡ slice_get xs (length xs - 1) → IfSome o P
last_holds P xs None all is = tt
last_holds P xs (Some x) all is =
    let there : slice_get xs (length xs - 1) ≡ Some x = sym is in
    let within = slice_get_within xs (length xs - 1) x there in
    subst P (get_or_from_slice_get xs (length xs - 1) x x there) (all (length xs - 1) x within)

-- one element more of a front, that passes
pub filter_takes : {X : Type 0} (p : X → Bool) (xs : List X) (i : ℕ) (d : X) → i < length xs → p (get_or xs i d) ≡ true
    → filter p (take (i + 1) xs) ≡ filter p (take i xs) ++ get_or xs i d ∷ []
filter_takes p xs i d within passes =
    filter_more p xs i d within
    ∙ ap (λ b. filter p (take i xs) ++ cond b (get_or xs i d ∷ []) []) passes

-- one that doesn't
pub filter_skips : {X : Type 0} (p : X → Bool) (xs : List X) (i : ℕ) (d : X) → i < length xs → p (get_or xs i d) ≡ false
    → filter p (take (i + 1) xs) ≡ filter p (take i xs)
filter_skips p xs i d within fails =
    filter_more p xs i d within
    ∙ ap (λ b. filter p (take i xs) ++ cond b (get_or xs i d ∷ []) []) fails
    ∙ append-nil (filter p (take i xs))
