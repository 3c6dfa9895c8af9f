-- the judgements of the operations of each key
use Rattle.std.proofs.Common.{inl, inr, ◌⊎◌, ◌≡◌, ◌∙◌, ℕ, ◌+◌, ◌<◌, ◌≤◌, cond, List, [], ◌∷◌, ◌++◌, length, get_or, All, Some, None, Option, refl, sym, ap, subst, arith, Vec, Global, slice_get, IfSome, ne_eqb}
use Rattle.std.specs.List.{Contains}
use Rattle.std.proofs.lemmas.List.{get_or_default, get_or_push, get_or_append_left, length-append}
use Rattle.std.proofs.lemmas.List.Elements.{All-contains}
use Rattle.std.proofs.lemmas.Option.{get_or_from_slice_get, slice_get_cases, slice_get_within}
use Rattle.std.proofs.lemmas.Bool.{cases_eq}
use Rattle.fy_registers.specs.declared.operation.Operation.{Operation}
use Rattle.fy_registers.specs.declared.keyed.Keyed.{Keyed}
use Rattle.fy_registers.specs.declared.evidence.Judgement.{Judgement}
use Rattle.fy_registers.specs.Keys.{of_key}
use Rattle.fy_registers.proofs.Lists.{contains_here, contains_there}
use Rattle.fy_values.specs.Values.{IsJudgedInTime}

-- the first parts are judged
abbrev pub JudgedSoFar : List (Vec Operation Global) → ℕ → List (Option Judgement) → Type 0
JudgedSoFar parts i judged =
    (length judged ≡ i)
    × ((key : ℕ) (d : Vec Operation Global) (e : Option Judgement) → key < i
    → IsJudgedInTime (get_or parts key d).items (get_or judged key e))

pub judged_more : (parts : List (Vec Operation Global)) (i : ℕ) (judged : List (Option Judgement))
    → JudgedSoFar parts i judged → (part : Vec Operation Global) → i < length parts
    → part ≡ get_or parts i part → (j : Option Judgement) → IsJudgedInTime part.items j
    → JudgedSoFar parts (i + 1) (judged ++ j ∷ [])
judged_more parts i judged so_far part below is j here =
    (omega (arith, length-append judged (j ∷ [])), λ key d e less. go key d e less (cases_eq key i))
  where
    own : (d : Vec Operation Global) (e : Option Judgement)
        → IsJudgedInTime (get_or parts i d).items (get_or (judged ++ j ∷ []) i e)
    own d e =
        subst (λ (q : Vec Operation Global). IsJudgedInTime q.items (get_or (judged ++ j ∷ []) i e))
        (is ∙ get_or_default parts i part d below)
        (subst (λ q. IsJudgedInTime part.items q) (sym (get_or_push judged j e i so_far.0)) here)

    go : (key : ℕ) (d : Vec Operation Global) (e : Option Judgement) → key < i + 1
        → (key ≡ i) ⊎ (key ≡ i → ⊥)
        → IsJudgedInTime (get_or parts key d).items (get_or (judged ++ j ∷ []) key e)
    go key d e less (inl same) =
        subst (λ k. IsJudgedInTime (get_or parts k d).items (get_or (judged ++ j ∷ []) k e)) (sym same)
        (own d e)
    go key d e less (inr other) =
        let count = so_far.0 in
        subst (λ q. IsJudgedInTime (get_or parts key d).items q)
        (sym (get_or_append_left judged (j ∷ []) e key (omega arith))) (so_far.1 key d e (omega arith))

-- no operation has a key that none has
of_no_key : (k : ℕ) (h : List Keyed) → ((o : Keyed) → Contains h o → o.key ≡ k → ⊥) → of_key k h ≡ []
of_no_key k [] none = refl
of_no_key k (x ∷ h) none =
    ap (λ b. cond b (x.operation ∷ of_key k h) (of_key k h)) (ne_eqb x.key k (none x (contains_here x h)))
    ∙ of_no_key k h (λ o among. none o (contains_there x o h among))

-- all keys are judged
module _ (h : List Keyed) (count : ℕ) (small : All (λ o. o.key < count) h)
    (parts : List (Vec Operation Global)) (size : length parts ≡ count)
    (split : (key : ℕ) → key < count → IfSome (slice_get parts key) (λ part. part.items ≡ of_key key h))
    (judged : List (Option Judgement)) (so_far : JudgedSoFar parts count judged) where
  pub each_is_judged : (key : ℕ) → IfSome (slice_get judged key) (IsJudgedInTime (of_key key h))
  each_is_judged key = by (slice_get judged key) refl
    where
      part : (j : Option Judgement) → slice_get judged key ≡ Some j → (below : key < count)
          → (p : Vec Operation Global) → slice_get parts key ≡ Some p
          → IsJudgedInTime (of_key key h) j
      part j is below p there =
          let items = subst (λ (q : Option (Vec Operation Global)). IfSome q (λ part. part.items ≡ of_key key h))
          there (split key below) in
          subst (λ os. IsJudgedInTime os j)
          (ap (λ (q : Vec Operation Global). q.items) (get_or_from_slice_get parts key p p there) ∙ items)
          (subst (λ q. IsJudgedInTime (get_or parts key p).items q)
          (get_or_from_slice_get judged key j j is) (so_far.1 key p j below))

      by : (found : Option (Option Judgement)) → slice_get judged key ≡ found
          → IfSome found (IsJudgedInTime (of_key key h))
      by None is = tt
      by (Some j) is = go (slice_get_cases parts key).1
        where
          below : key < count
          below = let low = slice_get_within judged key j is in let n = so_far.0 in omega arith

          go : ((x : Vec Operation Global) × (key < length parts) × (slice_get parts key ≡ Some x) × (get_or parts key x ≡ x))
              ⊎ ((length parts ≤ key) × (slice_get parts key ≡ None)) → IsJudgedInTime (of_key key h) j
          go (inl its) = part j is below its.0 its.2
          go (inr (past, none)) = let b = below in absurd (omega arith)

  pub no_operation_behind : (key : ℕ) → count ≤ key → of_key key h ≡ []
  no_operation_behind key past =
      of_no_key key h (λ o among is.
      let low = All-contains (λ (q : Keyed). q.key < count) h o small among in omega arith)
