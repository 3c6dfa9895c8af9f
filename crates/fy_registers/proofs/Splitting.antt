-- the parts of the keys, as far as the operations were read
use Rattle.std.proofs.Common.{inl, inr, ◌⊎◌, ◌≡◌, ℕ, ◌+◌, ◌<◌, ◌==◌, Bool, true, false, cond, List, [], ◌∷◌, ◌++◌, length, take, get_or, set, Some, None, Option, refl, sym, ap, subst, ◌∙◌, arith, Vec, Global, slice_get, IfSome, append-nil, eq-eqb, ne_eqb}
use Rattle.std.proofs.lemmas.Option.{get_or_from_slice_get}
use Rattle.std.proofs.Math.Seq.{take-length}
use Rattle.std.proofs.lemmas.List.{take_more, get_or-set_same, get_or-set_other, length-set}
use Rattle.std.proofs.lemmas.Bool.{cases_eq}
use Rattle.fy_registers.specs.declared.operation.Operation.{Operation}
use Rattle.fy_registers.specs.declared.keyed.Keyed.{Keyed}
use Rattle.fy_registers.specs.Keys.{of_key}

-- each part has the operations of its key of the first so many
abbrev pub SplitSoFar : List Keyed → ℕ → ℕ → List (Vec Operation Global) → Type 0
SplitSoFar h i count parts = (length parts ≡ count) × ((key : ℕ) (d : Vec Operation Global) → key < count → (get_or parts key d).items ≡ of_key key (take i h))

of_key-push : (k : ℕ) (xs : List Keyed) (x : Keyed) → of_key k (xs ++ x ∷ []) ≡ of_key k xs ++ cond (x.key == k) (x.operation ∷ []) []
of_key-push k [] x = refl
of_key-push k (y ∷ xs) x = go (y.key == k) (of_key-push k xs x)
  where
    go : (b : Bool) → of_key k (xs ++ x ∷ []) ≡ of_key k xs ++ cond (x.key == k) (x.operation ∷ []) [] → cond b (y.operation ∷ of_key k (xs ++ x ∷ [])) (of_key k (xs ++ x ∷ [])) ≡ cond b (y.operation ∷ of_key k xs) (of_key k xs) ++ cond (x.key == k) (x.operation ∷ []) []
    go true e = ap (λ os. y.operation ∷ os) e
    go false e = e

module _ (h : List Keyed) (i count : ℕ) (d0 : Keyed) (below : i < length h) (parts : List (Vec Operation Global)) (so_far : SplitSoFar h i count parts) where
  abbrev next : Keyed
  next = get_or h i d0

  pub split_more : (key : ℕ) → key ≡ next.key → key < count → (old new : Vec Operation Global) → old ≡ get_or parts key old → new.items ≡ old.items ++ next.operation ∷ [] → SplitSoFar h (i + 1) count (set parts key new)
  split_more key is inside old new was now = (length-set parts key new ∙ so_far.0, λ k d less. go k d less (cases_eq k key))
    where
      size : length parts ≡ count
      size = so_far.0

      grown : (k : ℕ) → of_key k (take (i + 1) h) ≡ of_key k (take i h) ++ cond (next.key == k) (next.operation ∷ []) []
      grown k = ap (of_key k) (take_more h i d0 below) ∙ of_key-push k (take i h) next

      old_items : old.items ≡ of_key key (take i h)
      old_items = ap (λ (part : Vec Operation Global). part.items) was ∙ so_far.1 key old inside

      own : (d : Vec Operation Global) → (get_or (set parts key new) key d).items ≡ of_key key (take (i + 1) h)
      own d =
          let e = size in
          ap (λ (part : Vec Operation Global). part.items) (get_or-set_same parts key new d (omega arith)) ∙ now ∙ ap (λ os. os ++ next.operation ∷ []) old_items
          ∙ ap (λ b. of_key key (take i h) ++ cond b (next.operation ∷ []) []) (sym (eq-eqb next.key key (sym is)))
          ∙ sym (grown key)

      go : (k : ℕ) (d : Vec Operation Global) → k < count → (k ≡ key) ⊎ (k ≡ key → ⊥) → (get_or (set parts key new) k d).items ≡ of_key k (take (i + 1) h)
      go k d less (inl same) = subst (λ q. (get_or (set parts key new) q d).items ≡ of_key q (take (i + 1) h)) (sym same) (own d)
      go k d less (inr other) =
          ap (λ (part : Vec Operation Global). part.items) (get_or-set_other parts key k new d other) ∙ so_far.1 k d less
          ∙ sym (append-nil (of_key k (take i h)))
          ∙ ap (λ b. of_key k (take i h) ++ cond b (next.operation ∷ []) []) (sym (ne_eqb next.key k (λ e. other (sym e ∙ sym is))))
          ∙ sym (grown k)

pub split_ends : (h : List Keyed) (i count : ℕ) (parts : List (Vec Operation Global)) → i ≡ length h → SplitSoFar h i count parts → (key : ℕ) → key < count → IfSome (slice_get parts key) (λ part. part.items ≡ of_key key h)
split_ends h i count parts is so_far key less = go (slice_get parts key) refl
  where
    go : (found : Option (Vec Operation Global)) → slice_get parts key ≡ found → IfSome found (λ part. part.items ≡ of_key key h)
    go None e = tt
    go (Some part) e =
        ap (λ (q : Vec Operation Global). q.items) (sym (get_or_from_slice_get parts key part part e)) ∙ so_far.1 key part less
        ∙ ap (λ n. of_key key (take n h)) is ∙ ap (of_key key) (take-length h)
