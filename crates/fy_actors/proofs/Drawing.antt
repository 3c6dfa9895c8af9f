-- words drawn one by one, lists shuffled place by place, and candidates chosen one by one
use Rattle.std.proofs.Common.{◌≡◌, ℕ, zero, suc, ◌+◌, ◌%◌, ◌<◌, ◌≤◌, List, [], ◌∷◌, ◌++◌, map, drop, length, get_or, refl, ap, ap₂, ◌∙◌, arith, zero-add}
use Rattle.std.specs.Prelude.{if◌then◌else◌, ◌==◌, Bool, true, false}
use Rattle.std.specs.List.{range_with_len}
use Rattle.std.proofs.lemmas.Bool.Decides.{nat_tests}
use Rattle.std.proofs.lemmas.List.{drop_all}
use Rattle.std.proofs.Math.Seq.{drop-cons}
use Rattle.rand_chacha.specs.ChaCha.{word_at, key_of}
use Rattle.fy_actors.specs.Words.{seed_bytes, stream_outputs}
use Rattle.fy_actors.specs.Plans.{chosen}

-- ---- words

last_of_range : (a n : ℕ) → range_with_len a (suc n) ≡ range_with_len a n ++ (a + n) ∷ []
last_of_range a zero = ap (λ k. k ∷ []) (let e : a ≡ a + 0 = omega arith in e)
last_of_range a (suc n) =
    ap (λ ks. a ∷ ks) (last_of_range (a + 1) n)
    ∙ ap (λ k. a ∷ range_with_len (a + 1) n ++ k ∷ [])
    (let e : a + 1 + n ≡ a + suc n = omega arith in e)

pub map_last : {A B : Type 0} (f : A → B) (xs : List A) (x : A) → map f (xs ++ x ∷ []) ≡ map f xs ++ f x ∷ []
map_last f [] x = refl
map_last f (y ∷ ys) x = ap (λ zs. f y ∷ zs) (map_last f ys x)

pub no_words : (seed stream : ℕ) → stream_outputs seed stream 0 ≡ []
unfolding stream_outputs
no_words seed stream = refl

pub one_word_more : (seed stream n : ℕ)
    → stream_outputs seed stream (n + 1)
    ≡ stream_outputs seed stream n ++ word_at 4 (key_of (seed_bytes seed)) stream n ∷ []
unfolding stream_outputs
one_word_more seed stream n =
    ap (λ k. map (word_at 4 (key_of (seed_bytes seed)) stream) (range_with_len 0 k))
    (let e : n + 1 ≡ suc n = omega arith in e)
    ∙ ap (map (word_at 4 (key_of (seed_bytes seed)) stream)) (last_of_range 0 n)
    ∙ map_last (word_at 4 (key_of (seed_bytes seed)) stream) (range_with_len 0 n) (0 + n)
    ∙ ap (λ k. stream_outputs seed stream n ++ word_at 4 (key_of (seed_bytes seed)) stream k ∷ []) (zero-add n)

-- ---- choosing

pub chosen_of_none : {A : Type 0} (words : List ℕ) → chosen words [] ≡ (let none : List A = [] in none)
chosen_of_none [] = refl
chosen_of_none (word ∷ words) = refl

if_true : {A : Type 0} (b : Bool) (x y : A) → b ≡ true → (if b then x else y) ≡ x
if_true true x y e = refl
if_true false x y e = absurd (let none : ⊥ = cc in none)

if_false : {A : Type 0} (b : Bool) (x y : A) → b ≡ false → (if b then x else y) ≡ y
if_false false x y e = refl
if_false true x y e = absurd (let none : ⊥ = cc in none)

is_one : (n : ℕ) → n ≡ 1 → (n == 1) ≡ true
is_one n e = grind (arith, nat_tests)

is_not_one : (n : ℕ) → ¬ (n ≡ 1) → (n == 1) ≡ false
is_not_one n e = grind (arith, nat_tests)

next_two : {A : Type 0} (words : List ℕ) (xs : List A) (i : ℕ) (d : A) → i < length words
    → i < length xs
    → chosen (drop i words) (drop i xs)
    ≡ chosen (get_or words i 0 ∷ drop (i + 1) words) (get_or xs i d ∷ drop (i + 1) xs)
next_two words xs i d word x =
    let next : suc i ≡ i + 1 = omega arith in
    ap₂ chosen
    (drop-cons words i 0 word ∙ ap (λ k. get_or words i 0 ∷ drop k words) next)
    (drop-cons xs i d x ∙ ap (λ k. get_or xs i d ∷ drop k xs) next)

pub one_chosen : {A : Type 0} (words : List ℕ) (xs : List A) (i : ℕ) (d : A) → i < length words
    → i < length xs → get_or words i 0 % 2 ≡ 1
    → chosen (drop i words) (drop i xs)
    ≡ get_or xs i d ∷ chosen (drop (i + 1) words) (drop (i + 1) xs)
one_chosen words xs i d word x odd = next_two words xs i d word x ∙ if_true _ _ _ (is_one _ odd)

pub one_passed : {A : Type 0} (words : List ℕ) (xs : List A) (i : ℕ) (d : A) → i < length words
    → i < length xs → ¬ (get_or words i 0 % 2 ≡ 1)
    → chosen (drop i words) (drop i xs) ≡ chosen (drop (i + 1) words) (drop (i + 1) xs)
one_passed words xs i d word x even = next_two words xs i d word x ∙ if_false _ _ _ (is_not_one _ even)

pub all_chosen : {A : Type 0} (words : List ℕ) (xs : List A) (i : ℕ) → length xs ≤ i
    → chosen (drop i words) (drop i xs) ≡ []
all_chosen words xs i past =
    ap (chosen (drop i words)) (drop_all i xs past) ∙ chosen_of_none (drop i words)
