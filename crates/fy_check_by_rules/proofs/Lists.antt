-- lists one element after another
use Rattle.std.proofs.Common.{◌≡◌, ℕ, zero, suc, ◌+◌, ◌-◌, ◌<◌, ◌≤◌, Bool, true, false, cond, List, [], ◌∷◌, ◌++◌, length, take, map, filter, get_or, Some, None, refl, sym, ◌∙◌, ap, ap₂, add-one, arith, length-append}
use Rattle.std.specs.Prelude.{Option, option_map, option_to_list, remove, sum_by}
use Rattle.std.proofs.lemmas.Grind.{common_steps}
use Rattle.fy_cluster.specs.History.{BegunRecord}
use Rattle.std.specs.List.{find, range_with_len}
use Rattle.std.specs.Option.{option_or}
use Rattle.std.proofs.lemmas.List.Folds.{find-append}
use Rattle.std.proofs.lemmas.List.Elements.{filter-append}
use Rattle.std.proofs.lemmas.List.Sums.{sum_by_push}
use Rattle.std.proofs.lemmas.List.{take_more}

pub one_more : {X : Type 0} (xs : List X) (i : ℕ) (x : X) → i < length xs → x ≡ get_or xs i x → take (i + 1) xs ≡ take i xs ++ x ∷ []
one_more xs i x l is = take_more xs i x l ∙ ap (λ y. take i xs ++ y ∷ []) (sym is)

range_more : (a n : ℕ) → range_with_len a (suc n) ≡ range_with_len a n ++ (a + n) ∷ []
range_more a zero = ap (λ m. m ∷ []) (omega arith)
range_more a (suc n) = ap (λ ms. a ∷ ms) (range_more (a + 1) n ∙ ap (λ m. range_with_len (a + 1) n ++ m ∷ []) (omega arith))

-- one number more
pub range_next : (n : ℕ) → range_with_len 0 (n + 1) ≡ range_with_len 0 n ++ n ∷ []
range_next n = ap (range_with_len 0) (add-one n) ∙ range_more 0 n ∙ ap (λ m. range_with_len 0 n ++ m ∷ []) (omega arith)

-- how many of the numbers pass
pub count_next : (f : ℕ → Bool) (n : ℕ) → length (filter f (range_with_len 0 (n + 1))) ≡ length (filter f (range_with_len 0 n)) + cond (f n) 1 0
count_next f n = ap (λ ms. length (filter f ms)) (range_next n) ∙ ap length (filter-append f (range_with_len 0 n) (n ∷ [])) ∙ length-append (filter f (range_with_len 0 n)) (filter f (n ∷ [])) ∙ ap (λ k. length (filter f (range_with_len 0 n)) + k) (last (f n))
  where
    last : (b : Bool) → length (cond b (n ∷ []) []) ≡ cond b 1 0
    last true = refl
    last false = refl

-- a list has no element past its end to take out
pub remove_past : {X : Type 0} (xs : List X) (i : ℕ) → length xs ≤ i → remove xs i ≡ xs
remove_past xs i l = grind (arith, common_steps)

-- the teams of records with one more
pub map_begun : (xs : List BegunRecord) (o : Option BegunRecord) → map (λ (b : BegunRecord). b.team) (xs ++ option_to_list o) ≡ map (λ (b : BegunRecord). b.team) xs ++ option_to_list (option_map (λ (b : BegunRecord). b.team) o)
map_begun xs None = grind (arith, common_steps)
map_begun xs (Some b) = grind (arith, common_steps)

-- the sum with one number more
pub sum_next : (f : ℕ → ℕ) (n : ℕ) → sum_by f (range_with_len 0 (n + 1)) ≡ sum_by f (range_with_len 0 n) + f n
sum_next f n = ap (sum_by f) (range_next n) ∙ sum_by_push f (range_with_len 0 n) n

-- none of the numbers so far passes, nor the next
pub none_next : (f : ℕ → Bool) (n : ℕ) → find f (range_with_len 0 n) ≡ None → f n ≡ false → find f (range_with_len 0 (n + 1)) ≡ None
none_next f n none fails = ap (find f) (range_next n) ∙ find-append f (range_with_len 0 n) (n ∷ []) ∙ ap₂ option_or none (ap (λ b. cond b (Some n) None) fails)

range_split : (a n k : ℕ) → range_with_len a (n + k) ≡ range_with_len a n ++ range_with_len (a + n) k
range_split a zero k = ap₂ range_with_len (let same : a ≡ a + 0 = omega arith in same) (let same : 0 + k ≡ k = omega arith in same)
range_split a (suc n) k =
    ap (range_with_len a) (let more : suc n + k ≡ suc (n + k) = omega arith in more)
    ∙ ap (λ ms. a ∷ ms) (range_split (a + 1) n k ∙ ap (λ m. range_with_len (a + 1) n ++ range_with_len m k) (let same : a + 1 + n ≡ a + suc n = omega arith in same))

-- the first number that passes
pub found_at : (f : ℕ → Bool) (n m : ℕ) → n < m → find f (range_with_len 0 n) ≡ None → f n ≡ true → find f (range_with_len 0 m) ≡ Some n
found_at f n m l none passes =
    ap (find f) split ∙ find-append f (range_with_len 0 n) (n ∷ rest) ∙ ap₂ option_or none (ap (λ b. cond b (Some n) (find f rest)) passes)
  where
    rest : List ℕ
    rest = range_with_len (n + 1) (m - n - 1)

    split : range_with_len 0 m ≡ range_with_len 0 n ++ n ∷ rest
    split = ap (range_with_len 0) (let same : m ≡ n + suc (m - n - 1) = omega arith in same) ∙ range_split 0 n (suc (m - n - 1)) ∙ ap (λ a. range_with_len 0 n ++ range_with_len a (suc (m - n - 1))) (let same : 0 + n ≡ n = omega arith in same)

-- the teams of records are as many as the records
pub teams_counted : (xs : List BegunRecord) → length (map (λ (b : BegunRecord). b.team) xs) ≡ length xs
teams_counted [] = refl
teams_counted (b ∷ xs) = ap suc (teams_counted xs)

-- none of the elements so far passes, nor the next
pub none_more : {X : Type 0} (p : X → Bool) (xs : List X) (i : ℕ) (d : X) → i < length xs → find p (take i xs) ≡ None → p (get_or xs i d) ≡ false → find p (take (i + 1) xs) ≡ None
none_more p xs i d l none fails =
    ap (find p) (take_more xs i d l)
    ∙ find-append p (take i xs) (get_or xs i d ∷ [])
    ∙ ap₂ option_or none (ap (λ b. cond b (Some (get_or xs i d)) None) fails)
