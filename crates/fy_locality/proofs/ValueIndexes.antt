-- where the values of processes stand, after one more process
use Rattle.std.proofs.Common.{zero, suc, ◌≡◌, ◌⊎◌, inl, inr, ℕ, ◌+◌, ◌<◌, Bool, true, false, cond, not, ◌||◌, List, [], ◌∷◌, ◌++◌, length, get_or, ltb, ltb-true, Option, Some, None, refl, sym, ap, subst, ◌∙◌, arith}
use Rattle.std.specs.Prelude.{slice_get, option_and_then}
use Rattle.std.specs.List.{IsDistinct, filter_map, list_any, position_or_len}
use Rattle.std.specs.Str.{bytes_eq}
use Rattle.std.proofs.lemmas.Cmp.{nat_list_eq_equiv}
use Rattle.std.proofs.lemmas.Option.{slice_get_within, slice_get-get_or, get_or_from_slice_get}
use Rattle.std.proofs.lemmas.Bool.{cases_lt}
use Rattle.std.proofs.lemmas.List.{length_push}
use Rattle.std.proofs.lemmas.Map.Keys.{apart_from_distinct}
use Rattle.std.proofs.lemmas.Slice.Eq.{bytes_eq-Decides}
use Rattle.indexmap.specs.IndexSet.{insert_key}
use Rattle.fy_locality.specs.declared.locality.Locality.{Locality}
use Rattle.fy_locality.specs.declared.key.Key.{Key}
use Rattle.fy_locality.specs.declared.key.Key.TheVariants.{Process}
use Rattle.fy_locality.specs.declared.map.ValueIndexes.{ValueIndexes}
use Rattle.fy_locality.specs.Locality.{value_in, value_of, values_of, NamesDiffer}
use Rattle.fy_locality.specs.Indexed.{IsValueIndex, value_index_in, AreValueIndexes}
use Rattle.fy_locality.specs.Noted.{names_with}
use Rattle.fy_locality.proofs.Values.{values_of-push, IsDistinct-values_of, own_name}

-- ---- one more item of a list
stays : {A : Type 0} (xs ys : List A) (i : ℕ) (x : A) → slice_get xs i ≡ Some x → slice_get (xs ++ ys) i ≡ Some x
stays [] ys i x e = absurd (let h : ⊥ = cc in h)
stays (y ∷ xs) ys zero x e = e
stays (y ∷ xs) ys (suc i) x e = stays xs ys i x e

last : {A : Type 0} (xs : List A) (y : A) → slice_get (xs ++ y ∷ []) (length xs) ≡ Some y
last [] y = refl
last (x ∷ xs) y = last xs y

within : {A : Type 0} (xs ys : List A) (i : ℕ) → i < length xs → slice_get (xs ++ ys) i ≡ slice_get xs i
within [] ys i h = absurd (omega arith)
within (x ∷ xs) ys zero h = refl
within (x ∷ xs) ys (suc i) h = within xs ys i (omega arith)

earlier_or_last : {A : Type 0} (xs : List A) (y z : A) (i : ℕ) → slice_get (xs ++ y ∷ []) i ≡ Some z → (slice_get xs i ≡ Some z) ⊎ ((i ≡ length xs) × (y ≡ z))
earlier_or_last [] y z zero e = inr (refl, let h : y ≡ z = cc in h)
earlier_or_last [] y z (suc i) e = absurd (let h : ⊥ = cc in h)
earlier_or_last (x ∷ xs) y z zero e = inl e
earlier_or_last (x ∷ xs) y z (suc i) e = elim (earlier_or_last xs y z i e) [ inl h ↦ inl h | inr h ↦ inr (ap suc h.0, h.1) ]

-- ---- a name's place
-- a name that is put in stands at its old place, or last
pub place-insert_key : (names : List (List ℕ)) (v : List ℕ) → slice_get (insert_key bytes_eq names v) (position_or_len (bytes_eq v) names) ≡ Some v
place-insert_key [] v = refl
place-insert_key (x ∷ names) v = go (bytes_eq v x) refl (place-insert_key names v)
  where
    further : (m : Bool) (i : ℕ) → slice_get (cond m names (names ++ v ∷ [])) i ≡ Some v → slice_get (cond m (x ∷ names) (x ∷ (names ++ v ∷ []))) (suc i) ≡ Some v
    further true i h = h
    further false i h = h

    go : (b : Bool) → bytes_eq v x ≡ b → slice_get (insert_key bytes_eq names v) (position_or_len (bytes_eq v) names) ≡ Some v
        → slice_get (cond (b || list_any (bytes_eq v) names) (x ∷ names) ((x ∷ names) ++ v ∷ [])) (cond (not b) (1 + position_or_len (bytes_eq v) names) 0) ≡ Some v
    go true same later = ap Some (sym ((bytes_eq-Decides v x).0 same))
    go false other later =
        ap (slice_get (cond (list_any (bytes_eq v) names) (x ∷ names) ((x ∷ names) ++ v ∷ []))) (let e : 1 + position_or_len (bytes_eq v) names ≡ suc (position_or_len (bytes_eq v) names) = omega arith in e)
        ∙ further (list_any (bytes_eq v) names) _ later

-- what stands somewhere stands there after one more name
stands-names_with : (names : List (List ℕ)) (more value : Option (List ℕ)) (place : Option ℕ) → IsValueIndex names value place → IsValueIndex (names_with names more) value place
stands-names_with names more None place h = h
stands-names_with names None (Some v) place h = h
stands-names_with names (Some w) (Some v) None h = absurd (let x : ⊥ = cc in x)
stands-names_with names (Some w) (Some v) (Some i) h = go (list_any (bytes_eq w) names)
  where
    go : (b : Bool) → slice_get (cond b names (names ++ w ∷ [])) i ≡ Some v
    go true = h
    go false = stays names (w ∷ []) i v h

value_of-earlier : (processes : List Locality) (new : Locality) (key : Key) (p : ℕ) → p < length processes → value_of (processes ++ new ∷ []) key p ≡ value_of processes key p
value_of-earlier processes new key p h = ap (option_and_then (value_in key)) (within processes (new ∷ []) p h)

value_of-last : (processes : List Locality) (new : Locality) (key : Key) → value_of (processes ++ new ∷ []) key (length processes) ≡ value_in key new
value_of-last processes new key = ap (option_and_then (value_in key)) (last processes new)

-- a process's own name stands at its number
pub own_stands : (processes : List Locality) (new : Locality) → filter_map (value_in Process) (processes ++ new ∷ []) ≡ values_of (processes ++ new ∷ []) Process → IsValueIndex (values_of (processes ++ new ∷ []) Process) (Some new.process) (Some (length processes))
own_stands processes new own =
    ap (λ names. slice_get names (length processes)) (sym own) ∙ sym (own_name (processes ++ new ∷ []) (length processes)) ∙ value_of-last processes new Process

-- the places after one more process, whose values stand at its places
pub AreValueIndexes-push : (processes : List Locality) (new : Locality) (places : List ValueIndexes) (kept : ValueIndexes)
    → AreValueIndexes processes places → ((key : Key) → IsValueIndex (values_of (processes ++ new ∷ []) key) (value_in key new) (value_index_in key (length processes) kept))
    → AreValueIndexes (processes ++ new ∷ []) (places ++ kept ∷ [])
AreValueIndexes-push processes new places kept were stands = record {
  count = omega (arith, length_push processes new, length_push places kept, were.count);
  stand = λ key p found e. elim (earlier_or_last places kept found p e) [
    | inl before ↦
        let known : p < length processes = let below : p < length places = slice_get_within places p found before in omega (arith, were.count) in
        subst (λ names. IsValueIndex names (value_of (processes ++ new ∷ []) key p) (value_index_in key p found)) (sym (values_of-push processes new key))
        (subst (λ value. IsValueIndex (names_with (values_of processes key) (value_in key new)) value (value_index_in key p found)) (sym (value_of-earlier processes new key p known))
        (stands-names_with (values_of processes key) (value_in key new) (value_of processes key p) (value_index_in key p found) (were.stand key p found before)))
    | inr here ↦
        let number : length processes ≡ p = omega (arith, were.count, here.0) in
        subst (λ q. IsValueIndex (values_of (processes ++ new ∷ []) key) (value_of (processes ++ new ∷ []) key q) (value_index_in key q found)) number
        (subst (λ value. IsValueIndex (values_of (processes ++ new ∷ []) key) value (value_index_in key (length processes) found)) (sym (value_of-last processes new key))
        (subst (λ at. IsValueIndex (values_of (processes ++ new ∷ []) key) (value_in key new) (value_index_in key (length processes) at)) here.1 (stands key)))
  ];
}

-- what is kept for process p, read from the places: where its value of the key stands
pub stands_here : (processes now : List Locality) (places read : List ValueIndexes) (key k : Key) (p : ℕ) (kept : ValueIndexes)
    → AreValueIndexes processes places → processes ≡ now → read ≡ places → ltb p (length read) ≡ true → kept ≡ get_or read p kept → key ≡ k
    → IsValueIndex (values_of now key) (value_of now key p) (value_index_in k p kept)
stands_here processes now places read key k p kept were same all below here is =
    let found : slice_get read p ≡ Some kept = slice_get-get_or read p kept (ltb-true p (length read) below) ∙ ap Some (sym here) in
    subst (λ k. IsValueIndex (values_of now key) (value_of now key p) (value_index_in k p kept)) is
    (subst (λ ps. IsValueIndex (values_of ps key) (value_of ps key p) (value_index_in key p kept)) same
    (were.stand key p kept (subst (λ xs. slice_get xs p ≡ Some kept) all found)))

pub AreValueIndexes-nil : AreValueIndexes [] []
AreValueIndexes-nil = record { count = refl; stand = λ key p kept e. absurd (let h : ⊥ = cc in h) }

-- ---- names differ
pub names_differ : (processes : List Locality) → filter_map (value_in Process) processes ≡ values_of processes Process → NamesDiffer processes
names_differ processes own p q name is_p is_q = elim (cases_lt p q) [
  | inl lower ↦ absurd (apart p q lower is_p is_q)
  | inr not_lower ↦ elim (cases_lt q p) [ inl lower ↦ absurd (apart q p lower is_q is_p) | inr same ↦ omega arith ]
]
  where
    names : List (List ℕ)
    names = filter_map (value_in Process) processes

    at : (i : ℕ) → value_of processes Process i ≡ Some name → slice_get names i ≡ Some name
    at i is = sym (own_name processes i) ∙ is

    apart : (i j : ℕ) → i < j → value_of processes Process i ≡ Some name → value_of processes Process j ≡ Some name → ⊥
    apart i j lower is_i is_j =
        let different : bytes_eq (get_or names i name) (get_or names j name) ≡ false = apart_from_distinct bytes_eq names i j name (subst (IsDistinct bytes_eq) (sym own) (IsDistinct-values_of processes Process)) lower (slice_get_within names j name (at j is_j)) in
        let first : get_or names i name ≡ name = get_or_from_slice_get names i name name (at i is_i) in
        let second : get_or names j name ≡ name = get_or_from_slice_get names j name name (at j is_j) in
        let same : bytes_eq name name ≡ true = nat_list_eq_equiv.refl name in
        let equal : bytes_eq name name ≡ false = sym (ap (λ v. bytes_eq v (get_or names j name)) first ∙ ap (bytes_eq name) second) ∙ different in
        let x : ⊥ = cc in x
