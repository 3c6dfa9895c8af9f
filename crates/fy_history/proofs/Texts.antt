-- texts by their places, and the bytes of each
use Rattle.std.proofs.Common.{◌≡◌, ◌∙◌, ◌<◌, ◌≤◌, ℕ, ◌+◌, zero, suc, Bool, true, false, not, ◌||◌, List, [], ◌∷◌, ◌++◌, length, map, Option, None, Some, IfSome, refl, sym, ap, cond, nat_lt, nat_eq, arith, String, string_bytes, ltb-true, ltb-false}
use Rattle.std.specs.List.{list_any, position, position_or_len}
use Rattle.std.specs.Str.{bytes_eq}
use Rattle.std.specs.String.{string_eq}
use Rattle.indexmap.specs.IndexSet.{insert_key}
use Rattle.fy_history.specs.Names.{texts_of, number_of, with_text, IsPlaceOf, IsNew}

or_len-map : {A B : Type 0} (p : B → Bool) (f : A → B) (xs : List A)
    → position_or_len p (map f xs) ≡ position_or_len (λ x. p (f x)) xs
or_len-map p f [] = refl
or_len-map p f (x ∷ xs) = ap (λ n. cond (not (p (f x))) (1 + n) 0) (or_len-map p f xs)

length-texts : {A B : Type 0} (f : A → B) (xs : List A) → length (map f xs) ≡ length xs
length-texts f [] = refl
length-texts f (x ∷ xs) = ap suc (length-texts f xs)

any-here : {A : Type 0} (p : A → Bool) (xs : List A) → position_or_len p xs < length xs
    → list_any p xs ≡ true
any-here p [] l = absurd (omega arith)
any-here p (x ∷ xs) l = by (any-here p xs) (p x) l
  where
    by : (position_or_len p xs < length xs → list_any p xs ≡ true) → (b : Bool)
        → cond (not b) (1 + position_or_len p xs) 0 < suc (length xs)
        → (b || list_any p xs) ≡ true
    by more true l = refl
    by more false l = more (omega arith)

any-none : {A : Type 0} (p : A → Bool) (xs : List A) → length xs ≤ position_or_len p xs
    → list_any p xs ≡ false
any-none p [] l = refl
any-none p (x ∷ xs) l = by (any-none p xs) (p x) l
  where
    by : (length xs ≤ position_or_len p xs → list_any p xs ≡ false) → (b : Bool)
        → suc (length xs) ≤ cond (not b) (1 + position_or_len p xs) 0
        → (b || list_any p xs) ≡ false
    by more true l = absurd (omega arith)
    by more false l = more (omega arith)

or_len-all : {A : Type 0} (p : A → Bool) (xs : List A) → list_any p xs ≡ false
    → position_or_len p xs ≡ length xs
or_len-all p [] e = refl
or_len-all p (x ∷ xs) e = by (or_len-all p xs) (p x) e
  where
    by : (list_any p xs ≡ false → position_or_len p xs ≡ length xs) → (b : Bool)
        → (b || list_any p xs) ≡ false
        → cond (not b) (1 + position_or_len p xs) 0 ≡ suc (length xs)
    by more true e = absurd (cc)
    by more false e = omega (arith, more e)

pub any-map : {A B : Type 0} (p : B → Bool) (f : A → B) (xs : List A)
    → list_any p (map f xs) ≡ list_any (λ x. p (f x)) xs
any-map p f [] = refl
any-map p f (x ∷ xs) = ap (λ b. p (f x) || b) (any-map p f xs)

-- what the place of a text says
pub found : {A : Type 0} (t : List ℕ) (ks : List (String A)) (i : ℕ)
    → position (λ k. bytes_eq t (string_bytes k)) ks ≡ Some i → IsPlaceOf (texts_of ks) t i
found t ks i e =
    by (nat_lt (position_or_len (λ k. bytes_eq t (string_bytes k)) ks) (length ks)) refl e
  where
    by : (b : Bool) → nat_lt (position_or_len (λ k. bytes_eq t (string_bytes k)) ks) (length ks) ≡ b
        → cond b (Some (position_or_len (λ k. bytes_eq t (string_bytes k)) ks)) None ≡ Some i
        → IsPlaceOf (texts_of ks) t i
    by true there e = record {
      number = or_len-map (bytes_eq t) string_bytes ks ∙ (cc);
      there = ap (λ b. cond b (texts_of ks) (texts_of ks ++ t ∷ []))
          (any-map (bytes_eq t) string_bytes ks
          ∙ any-here (λ k. bytes_eq t (string_bytes k)) ks (ltb-true _ _ there));
    }
    by false there e = absurd (cc)

-- what it says that a text has no place
pub absent : {A : Type 0} (t : List ℕ) (ks : List (String A))
    → position (λ k. bytes_eq t (string_bytes k)) ks ≡ None → IsNew (texts_of ks) t
absent t ks e = by (nat_lt (position_or_len (λ k. bytes_eq t (string_bytes k)) ks) (length ks)) refl e
  where
    by : (b : Bool) → nat_lt (position_or_len (λ k. bytes_eq t (string_bytes k)) ks) (length ks) ≡ b
        → cond b (Some (position_or_len (λ k. bytes_eq t (string_bytes k)) ks)) None ≡ None
        → IsNew (texts_of ks) t
    by true there e = absurd (cc)
    by false there e =
        let none : list_any (bytes_eq t) (texts_of ks) ≡ false =
        any-map (bytes_eq t) string_bytes ks
        ∙ any-none (λ k. bytes_eq t (string_bytes k)) ks (ltb-false _ _ there) in
        record { number = or_len-all (bytes_eq t) (texts_of ks) none; absent = none }

pub found_if : {A : Type 0} (t : List ℕ) (ks : List (String A)) (r : Option ℕ)
    → r ≡ position (λ k. bytes_eq t (string_bytes k)) ks → IfSome r (IsPlaceOf (texts_of ks) t)
found_if t ks (Some i) e = found t ks i (sym e)
found_if t ks None e = tt

-- a text that isn't there goes behind all others
pub added : {A : Type 0} (t : List ℕ) (ks : List (String A)) (o : String A)
    → IsNew (texts_of ks) t → string_bytes o ≡ t
    → texts_of (insert_key string_eq ks o) ≡ texts_of ks ++ t ∷ []
added {A = A} t ks o new e =
    let none : list_any (string_eq o) ks ≡ false =
    sym (any-map (bytes_eq (string_bytes o)) string_bytes ks)
    ∙ ap (λ b. list_any (bytes_eq b) (texts_of ks)) e ∙ new.absent in
    ap (λ b. texts_of (cond b ks (ks ++ o ∷ []))) none
    ∙ map-append ks ∙ ap (λ b. texts_of ks ++ b ∷ []) e
  where
    map-append : (xs : List (String A)) → texts_of (xs ++ o ∷ []) ≡ texts_of xs ++ string_bytes o ∷ []
    map-append [] = refl
    map-append (x ∷ xs) = ap (λ r. string_bytes x ∷ r) (map-append xs)
