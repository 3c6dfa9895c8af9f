-- texts that are told apart by numbers
use Rattle.std.proofs.Common.{zero, suc, inl, inr, ◌⊎◌, ◌≡◌, ◌≢◌, ◌∙◌, ◌+◌, ℕ, ◌<◌, ◌≤◌, Bool, true, false, not, cond, ◌||◌, nat_lt, List, [], ◌∷◌, ◌++◌, length, get_or, refl, sym, ap, arith, ltb-true, ltb-false}
use Rattle.std.specs.List.{Contains, AllPairs, list_any, position_or_len}
use Rattle.std.specs.Str.{bytes_eq}
use Rattle.std.proofs.lemmas.Bool.{cases_eq}
use Rattle.std.proofs.lemmas.List.{length-append}
use Rattle.std.proofs.lemmas.List.Elements.{Contains-get_or}
use Rattle.std.proofs.lemmas.Option.{unwrap_or-slice_get}
use Rattle.std.proofs.lemmas.Slice.Eq.{bytes_eq-Decides}
use Rattle.fy_history.specs.Names.{text_at, number_of, with_text}
use Rattle.fy_history.specs.Progress.{Text}
use Rattle.fy_history.proofs.Members.{pairs_head, pairs_tail, pairs_none, pairs_cons, pairs_append, contains_cases, contains_none, any_of}

-- no text stands twice
abbrev pub AreApart : List Text → Type 0
AreApart names = AllPairs (λ one other. one ≢ other) names

same_text : (text : Text) → bytes_eq text text ≡ true
same_text text = (bytes_eq-Decides text text).1 refl

other_text : (one other : Text) → one ≢ other → bytes_eq one other ≡ false
other_text one other differ = by (bytes_eq one other) refl
  where
    by : (b : Bool) → bytes_eq one other ≡ b → bytes_eq one other ≡ false
    by true e = absurd (differ ((bytes_eq-Decides one other).0 e))
    by false e = e

-- ---- a text more
-- more texts that stand apart
pub record Grows (names now : List Text) : Type 0 where
  pub apart : AreApart now
  pub longer : length names ≤ length now

module _ (names : List Text) (text : Text) where
  pub text_more : AreApart names → Grows names (with_text names text)
  text_more apart = by (list_any (bytes_eq text) names) refl
    where
      by : (b : Bool) → list_any (bytes_eq text) names ≡ b → Grows names (cond b names (names ++ text ∷ []))
      by true e = record { apart = apart; longer = omega arith }
      by false e = record {
        apart = pairs_append (λ one other. one ≢ other) names (text ∷ []) apart
            (pairs_cons (λ one other. one ≢ other) text []
            (λ y among. absurd (contains_none y among)) (pairs_none (λ one other. one ≢ other)))
            (λ x y x_in y_in same.
            let yes = any_of (bytes_eq text) names x x_in
            (ap (bytes_eq text) (same ∙ last y (contains_cases text y [] y_in)) ∙ same_text text) in
            let z : true ≡ false = sym yes ∙ e in cc);
        longer = omega (arith, length-append names (text ∷ []));
      }
        where
          last : (y : Text) → (y ≡ text) ⊎ Contains [] y → y ≡ text
          last y (inl is) = is
          last y (inr there) = absurd (contains_none y there)

position_here : {X : Type 0} (p : X → Bool) (xs : List X) → list_any p xs ≡ true
    → position_or_len p xs < length xs
position_here p [] e = absurd (cc)
position_here p (x ∷ xs) e = by (p x) e (λ more. position_here p xs more)
  where
    by : (b : Bool) → (b || list_any p xs) ≡ true
        → (list_any p xs ≡ true → position_or_len p xs < length xs)
        → cond (not b) (1 + position_or_len p xs) 0 < suc (length xs)
    by true e more = omega arith
    by false e more = let less = more e in omega arith

position_small : {X : Type 0} (p : X → Bool) (xs : List X) → position_or_len p xs ≤ length xs
position_small p [] = omega arith
position_small p (x ∷ xs) = by (p x) (position_small p xs)
  where
    by : (b : Bool) → position_or_len p xs ≤ length xs
        → cond (not b) (1 + position_or_len p xs) 0 ≤ suc (length xs)
    by true less = omega arith
    by false less = omega arith

-- the number of a text that has one from now on
pub number_small : (names : List Text) (text : Text) → number_of names text < length (with_text names text)
number_small names text = by (list_any (bytes_eq text) names) refl
  where
    by : (b : Bool) → list_any (bytes_eq text) names ≡ b
        → number_of names text < length (cond b names (names ++ text ∷ []))
    by true e = position_here (bytes_eq text) names e
    by false e =
        let small = position_small (bytes_eq text) names in
        omega (arith, length-append names (text ∷ []))

-- ---- numbers and texts
-- two numbers of one text are one
pub one_number : (names : List Text) → AreApart names → (m n : ℕ) → m < length names
    → n < length names → text_at names m ≡ text_at names n → m ≡ n
one_number names apart m n m_below n_below e = go (cases_eq m n)
  where
    same : get_or names m [] ≡ get_or names n []
    same = sym (unwrap_or-slice_get names m []) ∙ e ∙ unwrap_or-slice_get names n []

    by : (b : Bool) → nat_lt m n ≡ b → (m ≡ n → ⊥) → m ≡ n
    by true less differ = absurd (apart m n [] (ltb-true m n less) n_below same)
    by false less differ =
        let up = ltb-false m n less in absurd (apart n m [] (omega arith) m_below (sym same))

    go : (m ≡ n) ⊎ (m ≡ n → ⊥) → m ≡ n
    go (inl is) = is
    go (inr differ) = by (nat_lt m n) refl differ

-- the number of the text of a number
number_at : (names : List Text) → AreApart names → (n : ℕ) (d : Text) → n < length names
    → number_of names (get_or names n d) ≡ n
number_at [] apart n d below = absurd (omega arith)
number_at (x ∷ names) apart zero d below =
    ap (λ b. cond (not b) (1 + position_or_len (bytes_eq x) names) 0) (same_text x)
number_at (x ∷ names) apart (suc n) d below =
    let text = get_or names n d in
    let less : n < length names = omega arith in
    let differ : text ≢ x = λ e. pairs_head (λ one other. one ≢ other) x text names apart (Contains-get_or names n d less) (sym e) in
    let more = number_at names (pairs_tail (λ one other. one ≢ other) x names apart) n d less in
    ap (λ b. cond (not b) (1 + position_or_len (bytes_eq text) names) 0) (other_text text x differ)
    ∙ omega (arith, more)

pub number_of_text : (names : List Text) → AreApart names → (n : ℕ) → n < length names
    → number_of names (text_at names n) ≡ n
number_of_text names apart n below =
    ap (number_of names) (unwrap_or-slice_get names n []) ∙ number_at names apart n [] below
