-- what the judgements of all keys say together
use Rattle.std.proofs.Common.{inl, inr, ◌⊎◌, ◌≡◌, ◌≢◌, ℕ, ◌+◌, ◌<◌, nat_lt, Bool, true, false, cond, List, [], ◌∷◌, ◌++◌, length, get_or, Some, None, Option, refl, sym, ap, subst, ◌∙◌, arith, All, Vec, Global, slice_get, IfSome, ltb-true, ltb-false, ne_eqb}
use Rattle.std.specs.List.{Contains}
use Rattle.std.proofs.lemmas.List.{get_or_default, get_or_push, get_or_append_left, length-append}
use Rattle.std.proofs.lemmas.List.Elements.{All-contains, All-get_or}
use Rattle.std.proofs.lemmas.Option.{get_or_from_slice_get, slice_get-get_or}
use Rattle.std.proofs.lemmas.Bool.{cases_eq}
use Rattle.fy_registers.specs.declared.operation.Operation.{Operation}
use Rattle.fy_registers.specs.declared.keyed.Keyed.{Keyed}
use Rattle.fy_registers.specs.declared.evidence.Evidence.{Evidence}
use Rattle.fy_registers.specs.declared.evidence.Judgement.{Judgement}
use Rattle.fy_registers.specs.declared.evidence.Judgement.TheVariants.{Linearizable, Not}
use Rattle.fy_registers.specs.Linear.{IsBefore, IsLinearizable}
use Rattle.fy_registers.specs.Evidence.{IsJudged}
use Rattle.fy_registers.specs.Keys.{of_key, AreLinearizable, NoneEndsEarly}
use Rattle.fy_registers.proofs.Lists.{contains_here, contains_there, pairs_none}
use Rattle.fy_registers.proofs.Histories.{ends_late}
use Rattle.fy_registers.proofs.KeyParts.{into_key, together_each}
use Rattle.fy_registers.proofs.Merging.{each_together}

-- the first parts are judged
abbrev pub JudgedSoFar : List (Vec Operation Global) → ℕ → List (Option Judgement) → Type 0
JudgedSoFar parts i judged = (length judged ≡ i) × ((key : ℕ) (d : Vec Operation Global) (e : Option Judgement) → key < i → IsJudged (get_or parts key d).items (get_or judged key e))

pub judged_more : (parts : List (Vec Operation Global)) (i : ℕ) (judged : List (Option Judgement)) → JudgedSoFar parts i judged → (part : Vec Operation Global) → i < length parts → part ≡ get_or parts i part → (j : Option Judgement) → IsJudged part.items j → JudgedSoFar parts (i + 1) (judged ++ j ∷ [])
judged_more parts i judged so_far part below is j here = (omega (arith, length-append judged (j ∷ [])), λ key d e less. go key d e less (cases_eq key i))
  where
    own : (d : Vec Operation Global) (e : Option Judgement) → IsJudged (get_or parts i d).items (get_or (judged ++ j ∷ []) i e)
    own d e =
        subst (λ (q : Vec Operation Global). IsJudged q.items (get_or (judged ++ j ∷ []) i e)) (is ∙ get_or_default parts i part d below)
        (subst (λ q. IsJudged part.items q) (sym (get_or_push judged j e i so_far.0)) here)

    go : (key : ℕ) (d : Vec Operation Global) (e : Option Judgement) → key < i + 1 → (key ≡ i) ⊎ (key ≡ i → ⊥) → IsJudged (get_or parts key d).items (get_or (judged ++ j ∷ []) key e)
    go key d e less (inl same) = subst (λ k. IsJudged (get_or parts k d).items (get_or (judged ++ j ∷ []) k e)) (sym same) (own d e)
    go key d e less (inr other) =
        let count = so_far.0 in
        subst (λ q. IsJudged (get_or parts key d).items q) (sym (get_or_append_left judged (j ∷ []) e key (omega arith))) (so_far.1 key d e (omega arith))

-- no operation has a key that none has
of_no_key : (k : ℕ) (h : List Keyed) → ((o : Keyed) → Contains h o → o.key ≡ k → ⊥) → of_key k h ≡ []
of_no_key k [] none = refl
of_no_key k (x ∷ h) none =
    ap (λ b. cond b (x.operation ∷ of_key k h) (of_key k h)) (ne_eqb x.key k (none x (contains_here x h)))
    ∙ of_no_key k h (λ o among. none o (contains_there x o h among))

nothing_is_linearizable : IsLinearizable []
nothing_is_linearizable = (
  [],
  record {
    taken = λ o among. among;
    complete = λ o among ended. among;
    once = pairs_none (λ one later. one ≢ later);
    in_time = pairs_none (λ one later. IsBefore later one → ⊥);
    answered = tt;
  },
)

-- the judgements of all keys
module _ (h : List Keyed) (count : ℕ) (small : All (λ o. o.key < count) h) (parts : List (Vec Operation Global)) (size : length parts ≡ count)
    (split : (key : ℕ) → key < count → IfSome (slice_get parts key) (λ part. part.items ≡ of_key key h)) (judged : List (Option Judgement)) (so_far : JudgedSoFar parts (length parts) judged) where
  part_is : (key : ℕ) → key < count → (d : Vec Operation Global) → (get_or parts key d).items ≡ of_key key h
  part_is key less d = subst (λ found. IfSome found (λ part. part.items ≡ of_key key h)) (slice_get-get_or parts key d (let e = size in omega arith)) (split key less)

  is_judged : (key : ℕ) → key < count → (d : Vec Operation Global) (e : Option Judgement) → IsJudged (of_key key h) (get_or judged key e)
  is_judged key less d e = subst (λ os. IsJudged os (get_or judged key e)) (part_is key less d) (so_far.1 key d e (let n = size in omega arith))

  first_of : {A : Type 0} (xs : List A) → 0 < length xs → A
  first_of [] less = absurd (omega arith)
  first_of (x ∷ xs) less = x

  some_part : (key : ℕ) → key < count → Vec Operation Global
  some_part key less = first_of parts (let e = size in omega arith)

  judged_size : length judged ≡ count
  judged_size = so_far.0 ∙ size

  pub each_is_judged : (key : ℕ) → key < count → IfSome (slice_get judged key) (IsJudged (of_key key h))
  each_is_judged key less = go (slice_get judged key) refl
    where
      go : (found : Option (Option Judgement)) → slice_get judged key ≡ found → IfSome found (IsJudged (of_key key h))
      go None e = tt
      go (Some j) e = subst (λ q. IsJudged (of_key key h) q) (get_or_from_slice_get judged key j j e) (is_judged key less (some_part key less) j)

  module _ (all : All (λ it. it ≡ Some Linearizable) judged) where
    below : (key : ℕ) → key < count → IsJudged (of_key key h) (Some Linearizable)
    below key less = subst (λ q. IsJudged (of_key key h) q) (All-get_or (λ it. it ≡ Some Linearizable) judged key None (let e = judged_size in omega arith) all) (is_judged key less (some_part key less) None)

    none_ends_early : NoneEndsEarly h
    none_ends_early o among end e =
        let less = All-contains (λ (q : Keyed). q.key < count) h o small among in
        ends_late (of_key o.key h) (below o.key less).0 o.operation (into_key o.key h o.operation among) end e

    each_linearizable : (key : ℕ) → IsLinearizable (of_key key h)
    each_linearizable key = go (nat_lt key count) refl
      where
        go : (b : Bool) → nat_lt key count ≡ b → IsLinearizable (of_key key h)
        go true e = (below key (ltb-true key count e)).1.1
        go false e = subst IsLinearizable (sym (of_no_key key h (λ o among same.
            let less = All-contains (λ (q : Keyed). q.key < count) h o small among in
            let high = ltb-false key count e in let x : ⊥ = omega arith in x))) nothing_is_linearizable

    pub all_together : AreLinearizable h
    all_together = each_together h none_ends_early each_linearizable

  pub not_together : (evidence : Evidence) → Contains judged (Some (Not evidence)) → AreLinearizable h → ⊥
  not_together evidence (key, less, is) together =
      let size = judged_size in
      let below : key < count = omega arith in
      let it = subst (λ q. IsJudged (of_key key h) q) is (is_judged key below (some_part key below) (Some (Not evidence))) in
      it.1.2 (together_each h together key)
