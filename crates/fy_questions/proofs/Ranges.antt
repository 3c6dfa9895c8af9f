-- lists that have a value for each number below one
use Rattle.std.proofs.Common.{◌≡◌, ◌∙◌, ◌+◌, ℕ, List, [], ◌∷◌, ◌++◌, map, refl, sym, ap, ap₂, arith}
use Rattle.std.specs.List.{range_with_len}
use Rattle.std.proofs.lemmas.List.FromFn.{map-range_with_len_more}

-- one value more
pub one_more : {X : Type 0} (f : ℕ → X) (n : ℕ) (was now : List X) (x : X) →
    was ≡ map f (range_with_len 0 n) → now ≡ was ++ x ∷ [] → x ≡ f n →
    now ≡ map f (range_with_len 0 (n + 1))
one_more f n was now x before pushed is =
    pushed ∙ ap₂ (λ them it. them ++ it ∷ []) before is
    ∙ sym (map-range_with_len_more f 0 n n (omega arith))

map_last : {X Y : Type 0} (seen : X → Y) (xs : List X) (y : X) →
    map seen (xs ++ y ∷ []) ≡ map seen xs ++ seen y ∷ []
map_last seen [] y = refl
map_last seen (z ∷ xs) y = ap (λ ys. seen z ∷ ys) (map_last seen xs y)

-- one value more of a list that is seen by what each refers to
pub seen_more : {X Y : Type 0} (was now : List X) (x : X) (seen : X → Y) (f : ℕ → Y) (n : ℕ) →
    map seen was ≡ map f (range_with_len 0 n) → now ≡ was ++ x ∷ [] → seen x ≡ f n →
    map seen now ≡ map f (range_with_len 0 (n + 1))
seen_more was now x seen f n before pushed is =
    one_more f n (map seen was) (map seen now) (seen x) before
    (ap (map seen) pushed ∙ map_last seen was x) is
