-- which entry acknowledged a record
use Rattle.std.proofs.Common.{◌≡◌, ◌∙◌, ◌<◌, ◌≤◌, ◌+◌, ◌==◌, ◌&&◌, ℕ, Bool, true, false, inl, inr, Option, Some, None, option_map, List, [], ◌∷◌, ◌++◌, length, length-append, length-set, take, drop, get_or, slice_get, slice_set, nat_lt, refl, sym, subst, ap, arith, lt-ltb, eq-eqb, ne_eqb, if◌then◌else◌}
use Rattle.std.specs.Prelude.{IsSomeAnd}
use Rattle.std.specs.Option.{option_or}
use Rattle.std.proofs.lemmas.Bool.{false≢true, cases_lt, le-ltb, eqb-true, eqb-false, and_right, or_left}
use Rattle.std.proofs.lemmas.List.{take_all, take-append-le, take-append-drop, get_or-set_same, get_or-set_other}
use Rattle.std.proofs.lemmas.Option.{slice_get_past, slice_get-get_or}
use Rattle.fy_acts.specs.declared.entry.Entry.{Entry}
use Rattle.fy_cluster.specs.Setup.{Setup}
use Rattle.fy_cluster.specs.History.{History, step_of, after, history, some_is, acked}
use Rattle.fy_cluster.specs.Replies.{MayFollow}
use Rattle.fy_picture.specs.Keeping.{IsAckedAt, noted}
use Rattle.fy_picture.proofs.Afters.{after-append}

-- an acknowledged record stays acknowledged
acked_stays : (c : Setup) (h : History) (xs : List Entry) (r : ℕ) → acked h r ≡ true → acked (after c h xs) r ≡ true
acked_stays c h [] r is = is
acked_stays c h (x ∷ xs) r is = acked_stays c (step_of c h x ∷ h) xs r (or_left (acked h r) _ is)

-- ---- the place of the entry that did

-- the same as `IsAckedAt`, in one equation: of so many entries the record is acknowledged exactly
-- where the one at the place is among them
abbrev AckedSince : Setup → List Entry → ℕ → Option ℕ → Type 0
AckedSince c xs r found = (count : ℕ) → acked (history c (take count xs)) r ≡ some_is (λ at. nat_lt at count) found

acked_since : (c : Setup) (xs : List Entry) (r : ℕ) (found : Option ℕ) → IsAckedAt c xs r found → AckedSince c xs r found
acked_since c xs r None is count = is.never count refl
acked_since c xs r (Some at) is count = elim (cases_lt at count) [
  | inl l ↦ is.from at count refl l ∙ sym (lt-ltb at count l)
  | inr l ↦ is.before at count refl l ∙ sym (le-ltb at count l)
]

acked_at : (c : Setup) (xs : List Entry) (r : ℕ) (found : Option ℕ) → AckedSince c xs r found → IsAckedAt c xs r found
acked_at c xs r found since = record {
  before = λ at count is l. since count ∙ ap (some_is (λ place. nat_lt place count)) is ∙ le-ltb at count l;
  from = λ at count is l. since count ∙ ap (some_is (λ place. nat_lt place count)) is ∙ lt-ltb at count l;
  never = λ count is. since count ∙ ap (some_is (λ place. nat_lt place count)) is;
}

-- a place that is noted, tried against a number of entries
noted_none : (at count : ℕ) (b : Bool) → some_is (λ place. nat_lt place count) (noted at b None) ≡ (b && nat_lt at count)
noted_none at count true = refl
noted_none at count false = refl

and_true : (a b : Bool) → b ≡ true → (a && b) ≡ a
and_true true b e = e
and_true false b e = refl

-- so is each record after an entry: as it was, or as the entry says of one that wasn't acknowledged
abbrev pub Acknowledges : Setup → List Entry → Entry → ℕ → Bool → Type 0
Acknowledges c xs e r is_acked =
    acked (history c xs) r ≡ false → acked (step_of c (history c xs) e ∷ history c xs) r ≡ is_acked

module _ (c : Setup) (xs : List Entry) (e : Entry) (r : ℕ) (may : MayFollow c xs e) (is_acked : Bool) (says : Acknowledges c xs e r is_acked) where
  place : e.at ≡ length xs
  place = may.place

  abbrev behind : History
  behind = step_of c (history c xs) e ∷ history c xs

  abbrev more : List Entry
  more = xs ++ e ∷ []

  short : (count : ℕ) → count ≤ length xs → acked (history c (take count more)) r ≡ acked (history c (take count xs)) r
  short count l = ap (λ ys. acked (history c ys) r) (take-append-le count xs (e ∷ []) l)

  long : (count : ℕ) → length xs < count → acked (history c (take count more)) r ≡ acked behind r
  long count l =
      let whole : length more ≤ count = let n = length-append xs (e ∷ []) in omega arith in
      ap (λ ys. acked (history c ys) r) (take_all count more whole) ∙ ap (λ h. acked h r) (after-append c [] xs (e ∷ []))

  -- of a record that was acknowledged before
  earlier : (at : ℕ) → AckedSince c xs r (Some at) → AckedSince c more r (Some at)
  earlier at was count = elim (cases_lt (length xs) count) [
    | inl l ↦
        let all : acked (history c xs) r ≡ true =
        sym (ap (λ ys. acked (history c ys) r) (take_all (at + 1 + length xs) xs (omega arith))) ∙ was (at + 1 + length xs) ∙ lt-ltb at (at + 1 + length xs) (omega arith) in
        let same : acked (history c xs) r ≡ nat_lt at count = sym (ap (λ ys. acked (history c ys) r) (take_all count xs (omega arith))) ∙ was count in
        long count l ∙ or_left (acked (history c xs) r) _ all ∙ sym all ∙ same
    | inr l ↦ short count l ∙ was count
  ]

  -- of one that was not
  later : AckedSince c xs r None → AckedSince c more r (noted e.at is_acked None)
  later was count = elim (cases_lt (length xs) count) [
    | inl l ↦
        let not_yet : acked (history c xs) r ≡ false = sym (ap (λ ys. acked (history c ys) r) (take_all count xs (omega arith))) ∙ was count in
        long count l ∙ says not_yet ∙ sym (and_true is_acked _ (lt-ltb e.at count (let p = place in omega arith))) ∙ sym (noted_none e.at count is_acked)
    | inr l ↦ short count l ∙ was count ∙ sym (and_right is_acked _ (le-ltb e.at count (let p = place in omega arith))) ∙ sym (noted_none e.at count is_acked)
  ]

  since_more : (found : Option ℕ) → AckedSince c xs r found → AckedSince c more r (noted e.at is_acked found)
  since_more None was = later was
  since_more (Some at) was = earlier at was

  pub acked_at_more : (found : Option ℕ) → IsAckedAt c xs r found → IsAckedAt c more r (noted e.at is_acked found)
  acked_at_more found was = acked_at c more r (noted e.at is_acked found) (since_more found (acked_since c xs r found was))

-- ---- the notes of a list

-- none was acknowledged before any entry
pub never : (c : Setup) (xs : List Entry) (r : ℕ) → acked (history c xs) r ≡ false → IsAckedAt c xs r None
never c xs r none = acked_at c xs r None (λ count. by count (acked (history c (take count xs)) r) refl)
  where
    by : (count : ℕ) (b : Bool) → acked (history c (take count xs)) r ≡ b → acked (history c (take count xs)) r ≡ false
    by count false is = is
    by count true is =
        let all : history c xs ≡ after c (history c (take count xs)) (drop count xs) = ap (history c) (sym (take-append-drop count xs)) ∙ after-append c [] (take count xs) (drop count xs) in
        absurd (false≢true (sym none ∙ ap (λ h. acked h r) all ∙ acked_stays c (history c (take count xs)) (drop count xs) r is))

-- a list after one element was written over
pub after_set : {X : Type 0} (xs : List X) (i p : ℕ) (x other : X) → i < length xs → p < length xs → slice_get (slice_set xs i x) p ≡ (if p == i then Some x else slice_get xs p)
after_set xs i p x other l w = at (p == i) refl
  where
    at : (b : Bool) → (p == i) ≡ b → slice_get (slice_set xs i x) p ≡ (if b then Some x else slice_get xs p)
    at true e = let same : p ≡ i = eqb-true p i e in rw same (slice_get-get_or (slice_set xs i x) i other (let n = length-set xs i x in omega arith) ∙ ap Some (get_or-set_same xs i x other l))
    at false e =
        let apart : p ≡ i → ⊥ = eqb-false p i e in
        slice_get-get_or (slice_set xs i x) p other (let n = length-set xs i x in omega arith) ∙ ap Some (get_or-set_other xs i p x other apart) ∙ sym (slice_get-get_or xs p other w)

-- places of which none is noted
noted_as_it_was : (at : ℕ) (o : Option (Option ℕ)) → o ≡ option_map (noted at false) o
noted_as_it_was at None = refl
noted_as_it_was at (Some None) = refl
noted_as_it_was at (Some (Some k)) = refl

-- a place that is noted where none is
pub noted_is_or : (at : ℕ) (was now : Option ℕ) → now ≡ option_or was (Some at) → now ≡ noted at true was
noted_is_or at None now is = is
noted_is_or at (Some k) now is = is

-- places of which one is noted
pub notes_one : (xs : List (Option ℕ)) (i at : ℕ) (x y : Option ℕ) → i < length xs → x ≡ get_or xs i x → y ≡ noted at true x → (r : ℕ) → slice_get (slice_set xs i y) r ≡ option_map (noted at (i == r)) (slice_get xs r)
notes_one xs i at x y within is made r = elim (cases_lt r (length xs)) [
  | inl w ↦ after_set xs i r y None within w ∙ by (r == i) refl
  | inr w ↦
      slice_get_past (slice_set xs i y) r (let n = length-set xs i y in omega arith)
      ∙ sym (ap (option_map (noted at (i == r))) (slice_get_past xs r w))
]
  where
    by : (b : Bool) → (r == i) ≡ b → (if b then Some y else slice_get xs r) ≡ option_map (noted at (i == r)) (slice_get xs r)
    by true e =
        let same : r ≡ i = eqb-true r i e in
        let there : slice_get xs r ≡ Some x = ap (slice_get xs) same ∙ slice_get-get_or xs i x within ∙ ap Some (sym is) in
        ap Some made ∙ sym (ap (λ b. option_map (noted at b) (slice_get xs r)) (eq-eqb i r (sym same)) ∙ ap (option_map (noted at true)) there)
    by false e =
        let apart : r ≡ i → ⊥ = eqb-false r i e in
        noted_as_it_was at (slice_get xs r) ∙ sym (ap (λ b. option_map (noted at b) (slice_get xs r)) (ne_eqb i r (λ same. apart (sym same))))

-- a place that isn't there isn't noted
pub notes_past : (xs : List (Option ℕ)) (i at : ℕ) → length xs ≤ i → (r : ℕ) → slice_get xs r ≡ option_map (noted at (i == r)) (slice_get xs r)
notes_past xs i at past r = elim (cases_lt r (length xs)) [
  | inl w ↦ noted_as_it_was at (slice_get xs r) ∙ sym (ap (λ b. option_map (noted at b) (slice_get xs r)) (ne_eqb i r (λ same. omega arith)))
  | inr w ↦ let none = slice_get_past xs r w in none ∙ sym (ap (option_map (noted at (i == r))) none)
]

-- a property of a value, and of what a function makes of it
pub some_and-map : {X Y : Type 0} (f : X → Y) (P : X → Type 0) (Q : Y → Type 0) → ((x : X) → P x → Q (f x)) → (o : Option X) (u : Option Y) → u ≡ option_map f o → IsSomeAnd o P → IsSomeAnd u Q
some_and-map f P Q w None u e k = absurd k
some_and-map f P Q w (Some x) u e k = subst (λ o. IsSomeAnd o Q) (sym e) (w x k)
