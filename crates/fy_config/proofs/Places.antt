-- the first place of a list that fails a test, looked for item by item
use Rattle.std.proofs.Common.{◌≡◌, ◌∙◌, ◌+◌, ◌<◌, ◌≤◌, ℕ, zero, suc, Bool, true, false, cond, not, List, [], ◌∷◌, ◌++◌, ◌||◌, ◌⊎◌, inl, inr, ltb, length, take, drop, map, get_or, Option, Some, None, option_map, refl, sym, ap, arith}
use Rattle.std.specs.Prelude.{slice_get}
use Rattle.std.specs.List.{find, enumerate_from, list_any, position, position_or_len, prefix_len}
use Rattle.std.proofs.lemmas.List.{drop_more, drop_all, take_more}
use Rattle.std.proofs.lemmas.List.Sums.{position_or_len_is}
use Rattle.std.proofs.lemmas.Option.{get_or_from_slice_get, slice_get-get_or, slice_get_within, slice_get-map}
use Rattle.std.proofs.lemmas.Bool.{cases_lt}
use Rattle.std.proofs.lemmas.Bool.Decides.{nat_tests}
use Rattle.fy_config.specs.Config.{first_index}

or_true : (b : Bool) → (b || true) ≡ true
or_true true = refl
or_true false = refl

-- whether the item at a place fails
abbrev fails_at : {A : Type 0} → (List A → A → Bool) → List A → ℕ × A → Bool
fails_at fails xs x = fails (take x.0 xs) x.1

-- the first place from i on that fails
abbrev pub place_from : {A : Type 0} → (List A → A → Bool) → List A → ℕ → Option ℕ
place_from fails xs i = option_map (λ x. x.0) (find (fails_at fails xs) (enumerate_from i (drop i xs)))

-- no place before i fails
pub record Passed {A : Type 0} (fails : List A → A → Bool) (xs : List A) (i : ℕ) : Type 0 where
  pub rest : first_index fails xs ≡ place_from fails xs i

pub passed_none : {A : Type 0} (fails : List A → A → Bool) (xs : List A) → Passed fails xs 0
passed_none fails xs = record { rest = refl }

-- what is left from a place on
pub drop_at : {A : Type 0} (xs : List A) (i : ℕ) (x : A) → slice_get xs i ≡ Some x → drop i xs ≡ x ∷ drop (i + 1) xs
drop_at xs i x at =
    drop_more xs i x (slice_get_within xs i x at)
    ∙ ap (λ y. y ∷ drop (i + 1) xs) (get_or_from_slice_get xs i x x at)

-- what stands before the next place
pub take_at : {A : Type 0} (xs : List A) (i : ℕ) (x : A) → slice_get xs i ≡ Some x → take (i + 1) xs ≡ take i xs ++ x ∷ []
take_at xs i x at =
    take_more xs i x (slice_get_within xs i x at)
    ∙ ap (λ y. take i xs ++ y ∷ []) (get_or_from_slice_get xs i x x at)

step :
    {A : Type 0} (fails : List A → A → Bool) (xs : List A) (i : ℕ) (x : A) (b : Bool)
    → slice_get xs i ≡ Some x → fails (take i xs) x ≡ b
    → place_from fails xs i ≡ cond b (Some i) (place_from fails xs (i + 1))
step {A} fails xs i x b at is =
    ap (λ (ys : List A). option_map (λ x. x.0) (find (fails_at fails xs) (enumerate_from i ys))) (drop_at xs i x at)
    ∙ ap (λ c. option_map (λ (y : ℕ × A). y.0) (cond c (Some (i, x)) (find (fails_at fails xs) (enumerate_from (i + 1) (drop (i + 1) xs))))) is
    ∙ told b
  where
    told : (c : Bool) → option_map (λ (y : ℕ × A). y.0) (cond c (Some (i, x)) (find (fails_at fails xs) (enumerate_from (i + 1) (drop (i + 1) xs)))) ≡ cond c (Some i) (place_from fails xs (i + 1))
    told true = refl
    told false = refl

pub passed_more :
    {A : Type 0} (fails : List A → A → Bool) (xs : List A) (i : ℕ) (x : A)
    → Passed fails xs i → slice_get xs i ≡ Some x → fails (take i xs) x ≡ false
    → Passed fails xs (i + 1)
passed_more fails xs i x passed at is = record { rest = passed.rest ∙ step fails xs i x false at is }

pub passed_here :
    {A : Type 0} (fails : List A → A → Bool) (xs : List A) (i : ℕ) (x : A)
    → Passed fails xs i → slice_get xs i ≡ Some x → fails (take i xs) x ≡ true
    → first_index fails xs ≡ Some i
passed_here fails xs i x passed at is = passed.rest ∙ step fails xs i x true at is

pub passed_all :
    {A : Type 0} (fails : List A → A → Bool) (xs : List A) (i : ℕ)
    → Passed fails xs i → length xs ≤ i → first_index fails xs ≡ None
passed_all {A} fails xs i passed all =
    passed.rest
    ∙ ap (λ (ys : List A). option_map (λ x. x.0) (find (fails_at fails xs) (enumerate_from i ys))) (drop_all i xs all)

passed : {A : Type 0} (b : Bool) (x : A) (o : Option A) → cond b (Some x) o ≡ None → o ≡ None
passed true x o e = absurd (let c : ⊥ = cc in c)
passed false x o e = e

-- where no place fails, none does
none_found :
    {A : Type 0} (test : ℕ × A → Bool) (n : ℕ) (ys : List A) (k m : ℕ) (y : A)
    → find test (enumerate_from n ys) ≡ None → slice_get ys k ≡ Some y → n + k ≡ m
    → test (m, y) ≡ false
none_found test n [] k m y none at is = absurd (let x : ⊥ = cc in x)
none_found {A} test n (x ∷ ys) zero m y none at is = go (test (n, x)) refl none
  where
    go : (b : Bool) → test (n, x) ≡ b → cond b (Some (n, x)) (find test (enumerate_from (n + 1) ys)) ≡ None → test (m, y) ≡ false
    go true e h = absurd (let c : ⊥ = cc in c)
    go false e h =
        let same : x ≡ y = cc in
        let here : n ≡ m = omega arith in
        ap test (λ i. (sym here i, sym same i)) ∙ e
none_found {A} test n (x ∷ ys) (suc k) m y none at is =
    none_found test (n + 1) ys k m y (passed (test (n, x)) (n, x) (find test (enumerate_from (n + 1) ys)) none) at
    (omega arith)

pub no_place :
    {A : Type 0} (fails : List A → A → Bool) (xs : List A) (k : ℕ) (x : A)
    → first_index fails xs ≡ None → slice_get xs k ≡ Some x → fails (take k xs) x ≡ false
no_place {A} fails xs k x none at =
    none_found (fails_at fails xs) 0 xs k k x (nothing (find (fails_at fails xs) (enumerate_from 0 xs)) none) at (omega arith)
  where
    nothing : (o : Option (ℕ × A)) → option_map (λ x. x.0) o ≡ None → o ≡ None
    nothing None e = refl
    nothing (Some y) e = absurd (let c : ⊥ = cc in c)

-- what stands at a place of a list of which something is kept
pub kept_at :
    {A B : Type 0} (g : A → B) (xs : List A) (ys : List B) (i : ℕ) (y : B)
    → ys ≡ map g xs → slice_get ys i ≡ Some y
    → (x : A) × (slice_get xs i ≡ Some x) × (g x ≡ y)
kept_at {A} {B} g xs ys i y kept at =
    go (slice_get xs i) refl (sym (slice_get-map g xs i) ∙ ap (λ (zs : List B). slice_get zs i) (sym kept) ∙ at)
  where
    go : (o : Option A) → slice_get xs i ≡ o → option_map g o ≡ Some y → (x : A) × (slice_get xs i ≡ Some x) × (g x ≡ y)
    go None is e = absurd (let c : ⊥ = cc in c)
    go (Some x) is e = (x, is, cc)

-- an item that passes a test, and one of which it is told
pub any_at :
    {A : Type 0} (p : A → Bool) (xs : List A) (k : ℕ) (x : A)
    → slice_get xs k ≡ Some x → p x ≡ true → list_any p xs ≡ true
any_at p [] k x at is = absurd (let c : ⊥ = cc in c)
any_at p (y ∷ xs) zero x at is =
    let same : y ≡ x = cc in
    ap (λ b. b || list_any p xs) (ap p same ∙ is)
any_at p (y ∷ xs) (suc k) x at is = ap (λ b. p y || b) (any_at p xs k x at is) ∙ or_true (p y)

pub some_at :
    {A : Type 0} (p : A → Bool) (xs : List A) → list_any p xs ≡ true
    → (k : ℕ) × (x : A) × (slice_get xs k ≡ Some x) × (p x ≡ true)
some_at p [] e = absurd (let c : ⊥ = cc in c)
some_at {A} p (x ∷ xs) e = go (p x) refl e (some_at p xs)
  where
    go : (b : Bool) → p x ≡ b → (b || list_any p xs) ≡ true
        → (list_any p xs ≡ true → (k : ℕ) × (y : A) × (slice_get xs k ≡ Some y) × (p y ≡ true))
        → (k : ℕ) × (y : A) × (slice_get (x ∷ xs) k ≡ Some y) × (p y ≡ true)
    go true is h rest = (0, x, refl, is)
    go false is h rest = let (k, y, at, it) = rest h in (suc k, y, at, it)

-- tests that are alike at each item
pub any_alike :
    {A : Type 0} (p q : A → Bool) (xs : List A) → ((x : A) → p x ≡ q x) → list_any p xs ≡ list_any q xs
any_alike p q [] same = refl
any_alike p q (x ∷ xs) same = ap (λ b. b || list_any p xs) (same x) ∙ ap (λ b. q x || b) (any_alike p q xs same)

-- no place before i passes
pub record NotYet {A : Type 0} (p : A → Bool) (xs : List A) (i : ℕ) : Type 0 where
  pub none : (k : ℕ) (x : A) → k < i → slice_get xs k ≡ Some x → p x ≡ false

pub not_yet_none : {A : Type 0} (p : A → Bool) (xs : List A) → NotYet p xs 0
not_yet_none p xs = record { none = λ k x h at. absurd (let c : ⊥ = omega arith in c) }

pub not_yet_more :
    {A : Type 0} (p : A → Bool) (xs : List A) (i : ℕ) (x : A)
    → NotYet p xs i → slice_get xs i ≡ Some x → p x ≡ false → NotYet p xs (i + 1)
not_yet_more {A} p xs i x yet at is = record { none = λ k y h here. go k y here (cases_lt k i) h }
  where
    go : (k : ℕ) (y : A) → slice_get xs k ≡ Some y → (k < i) ⊎ (i ≤ k) → k < i + 1 → p y ≡ false
    go k y here (inl before) h = yet.none k y before here
    go k y here (inr behind) h =
        let same : k ≡ i = omega arith in
        let one : Some y ≡ Some x = sym here ∙ ap (slice_get xs) same ∙ at in
        let equal : y ≡ x = cc in
        ap p equal ∙ is

-- the first place that passes a test
pub position_here :
    {A : Type 0} (p : A → Bool) (xs : List A) (i : ℕ) (x : A)
    → NotYet p xs i → slice_get xs i ≡ Some x → p x ≡ true → position p xs ≡ Some i
position_here p xs i x yet at is =
    let within : i < length xs = slice_get_within xs i x at in
    let len : position_or_len p xs ≡ i =
    position_or_len_is p xs i x (omega arith)
    (λ k h. yet.none k (get_or xs k x) h (slice_get-get_or xs k x (omega arith)))
    (λ h. ap p (get_or_from_slice_get xs i x x at) ∙ is) in
    let less : ltb i (length xs) ≡ true = grind (arith, nat_tests) in
    ap (λ n. cond (ltb n (length xs)) (Some n) None) len
    ∙ ap (λ b. cond b (Some i) None) less

-- no place passes
pub position_none :
    {A : Type 0} (p : A → Bool) (xs : List A) (i : ℕ)
    → NotYet p xs i → length xs ≤ i → position p xs ≡ None
position_none p [] i yet all = refl
position_none p (x ∷ xs) i yet all =
    let ys : List _ = x ∷ xs in
    let len : position_or_len p ys ≡ length ys =
    position_or_len_is p ys (length ys) x (omega arith)
    (λ k h. yet.none k (get_or ys k x) (omega arith) (slice_get-get_or ys k x h))
    (λ h. absurd (let c : ⊥ = omega arith in c)) in
    let less : ltb (length ys) (length ys) ≡ false = grind (arith, nat_tests) in
    ap (λ n. cond (ltb n (length ys)) (Some n) None) len
    ∙ ap (λ b. cond b (Some (length ys)) None) less

pub some_before :
    {A : Type 0} (p : A → Bool) (xs : List A) → list_any p xs ≡ true → position_or_len p xs < length xs
some_before p [] e = absurd (let c : ⊥ = cc in c)
some_before {A} p (x ∷ xs) e = go (p x) e (some_before p xs)
  where
    go : (b : Bool) → (b || list_any p xs) ≡ true
        → (list_any p xs ≡ true → prefix_len (λ y. not (p y)) xs < length xs)
        → cond (not b) (1 + prefix_len (λ y. not (p y)) xs) 0 < suc (length xs)
    go true h rest = omega arith
    go false h rest = omega (arith, rest h)

-- where a test has no first place, nothing passes
pub none_at :
    {A : Type 0} (p : A → Bool) (xs : List A) → position p xs ≡ None → list_any p xs ≡ false
none_at {A} p xs none = go (list_any p xs) refl
  where
    go : (b : Bool) → list_any p xs ≡ b → list_any p xs ≡ false
    go false is = is
    go true is =
        let before : position_or_len p xs < length xs = some_before p xs is in
        let less : ltb (position_or_len p xs) (length xs) ≡ true = grind (arith, nat_tests) in
        absurd (let c : ⊥ = cc in c)

-- what was read at a place
pub at_index : {A : Type 0} (xs : List A) (i : ℕ) (x : A) → i < length xs → x ≡ get_or xs i x → slice_get xs i ≡ Some x
at_index xs i x within is = slice_get-get_or xs i x within ∙ ap Some (sym is)

-- what stands at a place of a list, as something is made of it
pub made_at :
    {A B : Type 0} (f : A → B) (xs : List A) (i : ℕ) (d : A)
    → i < length xs → slice_get (map f xs) i ≡ Some (f (get_or xs i d))
made_at f xs i d within = slice_get-map f xs i ∙ ap (option_map f) (slice_get-get_or xs i d within)

-- the opposite of a test
pub not_false : (b : Bool) → not b ≡ false → b ≡ true
not_false true e = refl
not_false false e = absurd (let c : ⊥ = cc in c)

pub not_true : (b : Bool) → not b ≡ true → b ≡ false
not_true false e = refl
not_true true e = absurd (let c : ⊥ = cc in c)
