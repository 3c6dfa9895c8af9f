-- histories of journals that are read in parts
use Rattle.std.proofs.Common.{◌≡◌, ℕ, zero, suc, ◌+◌, ◌<◌, List, [], ◌∷◌, ◌++◌, length, take, get_or, slice_get, Some, refl, sym, subst, ◌∙◌, ap}
use Rattle.std.specs.Prelude.{IsSomeAnd}
use borrow.Author.Count.{below_more}
use Rattle.std.proofs.lemmas.List.{take_more}
use Rattle.fy_acts.specs.declared.entry.Entry.{Entry}
use Rattle.fy_cluster.specs.Setup.{Setup}
use Rattle.fy_cluster.specs.History.{History, step_of, after}

pub after-append : (c : Setup) (h : History) (xs ys : List Entry) → after c h (xs ++ ys) ≡ after c (after c h xs) ys
after-append c h [] ys = refl
after-append c h (x ∷ xs) ys = after-append c (step_of c h x ∷ h) xs ys

-- one element more of a list
pub one_more : {X : Type 0} (xs : List X) (i : ℕ) (x : X) → i < length xs → x ≡ get_or xs i x → take (i + 1) xs ≡ take i xs ++ x ∷ []
one_more xs i x l is = take_more xs i x l ∙ ap (λ y. take i xs ++ y ∷ []) (sym is)

slice_get-append : {X : Type 0} (xs ys : List X) (i : ℕ) (x : X) → slice_get xs i ≡ Some x → slice_get (xs ++ ys) i ≡ Some x
slice_get-append [] ys i x e = absurd (cc)
slice_get-append (y ∷ xs) ys zero x e = e
slice_get-append (y ∷ xs) ys (suc i) x e = slice_get-append xs ys i x e

slice_get-last : {X : Type 0} (xs : List X) (x : X) → slice_get (xs ++ x ∷ []) (length xs) ≡ Some x
slice_get-last [] x = refl
slice_get-last (y ∷ xs) x = slice_get-last xs x

-- a list of the values of a function at 0, 1, .., and one value more
pub values_more : {X : Type 0} (f : ℕ → X) (xs ys : List X) (i : ℕ) → length xs ≡ i → ((k : ℕ) → k < i → slice_get xs k ≡ Some (f k)) → ys ≡ xs ++ f i ∷ [] → (k : ℕ) → k < i + 1 → slice_get ys k ≡ Some (f k)
values_more f xs ys i n each is = below_more (λ k. slice_get ys k ≡ Some (f k)) i
    (λ k l. subst (λ zs. slice_get zs k ≡ Some (f k)) (sym is) (slice_get-append xs (f i ∷ []) k (f k) (each k l)))
    (subst (λ zs. slice_get zs i ≡ Some (f i)) (sym is) (subst (λ j. slice_get (xs ++ f i ∷ []) j ≡ Some (f i)) n (slice_get-last xs (f i))))

some_and-append : {X : Type 0} (P : X → Type 0) (xs ys : List X) (i : ℕ) → IsSomeAnd (slice_get xs i) P → IsSomeAnd (slice_get (xs ++ ys) i) P
some_and-append P [] ys i e = absurd e
some_and-append P (y ∷ xs) ys zero e = e
some_and-append P (y ∷ xs) ys (suc i) e = some_and-append P xs ys i e

some_and-last : {X : Type 0} (P : X → Type 0) (xs : List X) (x : X) → P x → IsSomeAnd (slice_get (xs ++ x ∷ []) (length xs)) P
some_and-last P [] x e = e
some_and-last P (y ∷ xs) x e = some_and-last P xs x e

-- a list whose elements have a property by their place, and one element more
pub elements_more : {X : Type 0} (P : ℕ → X → Type 0) (xs ys : List X) (x : X) (i : ℕ) → length xs ≡ i → ((k : ℕ) → k < i → IsSomeAnd (slice_get xs k) (P k)) → P i x → ys ≡ xs ++ x ∷ [] → (k : ℕ) → k < i + 1 → IsSomeAnd (slice_get ys k) (P k)
elements_more P xs ys x i n each own is = below_more (λ k. IsSomeAnd (slice_get ys k) (P k)) i
    (λ k l. subst (λ zs. IsSomeAnd (slice_get zs k) (P k)) (sym is) (some_and-append (P k) xs (x ∷ []) k (each k l)))
    (subst (λ zs. IsSomeAnd (slice_get zs i) (P i)) (sym is) (subst (λ j. IsSomeAnd (slice_get (xs ++ x ∷ []) j) (P i)) n (some_and-last (P i) xs x own)))
