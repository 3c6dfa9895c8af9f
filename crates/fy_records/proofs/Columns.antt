-- the lines of a key in a table that is sorted by key
use Rattle.std.proofs.Common.{◌≡◌, ◌<◌, ◌≤◌, ◌+◌, ◌-◌, ℕ, zero, suc, Bool, true, false, cond, ◌∙◌, List, [], ◌∷◌, length, take, drop, get_or, refl, sym, ap, subst, arith}
use Rattle.std.specs.Prelude.{nat_lt, nat_le, ◌==◌, filter, map, Contains}
use Rattle.std.specs.List.{prefix_len}
use Rattle.std.specs.List.Sorted.{IsPartitionPoint, IsNonDecreasingBy}
use Rattle.std.proofs.lemmas.List.Sums.{prefix_len_is}
use Rattle.fy_records.specs.Indexed.{IsTable}
use Rattle.fy_records.proofs.Finding.{contains_first, contains_other}

-- where a test holds of what stands before a place and of nothing behind, the longest front that
-- passes ends there
pub place_is : (p : ℕ → Bool) (xs : List ℕ) (i : ℕ) → i ≤ length xs → IsPartitionPoint (λ y. p y ≡ true) (λ y. p y ≡ false) xs i
    → i ≡ prefix_len p xs
place_is p xs i within parts =
    sym (prefix_len_is p xs i 0 within (λ k before. parts.0 k 0 (omega arith) before) (λ some. parts.1 i 0 (omega arith) some))

-- the front that passes a milder test is no shorter
pub front_longer : {X : Type 0} (p q : X → Bool) → ((x : X) → p x ≡ true → q x ≡ true) → (xs : List X) → prefix_len p xs ≤ prefix_len q xs
front_longer p q milder [] = omega arith
front_longer p q milder (x ∷ xs) = by (p x) refl (front_longer p q milder xs)
  where
    by : (b : Bool) → p x ≡ b → prefix_len p xs ≤ prefix_len q xs → cond b (1 + prefix_len p xs) 0 ≤ cond (q x) (1 + prefix_len q xs) 0
    by true e rest = subst (λ b. 1 + prefix_len p xs ≤ cond b (1 + prefix_len q xs) 0) (sym (milder x e)) (omega (arith, rest))
    by false e rest = omega arith

-- the keys of a list don't fall
abbrev pub Climbs : {X : Type 0} (key : X → ℕ) → List X → Type 0
Climbs key [] = Unit {0}
Climbs {X} key (x ∷ xs) = ((y : X) → Contains xs y → key x ≤ key y) × Climbs key xs

pub climbs_from : {X : Type 0} (key : X → ℕ) (xs : List X) → IsNonDecreasingBy key xs → Climbs key xs
climbs_from key [] order = tt
climbs_from {X} key (x ∷ xs) order = (
  λ y at.
      let up : key x ≤ key (get_or xs at.0 y) = order zero (suc at.0) y (omega arith) (omega (arith, at.1)) in
      subst (λ (z : X). key x ≤ key z) at.2 up,
  climbs_from key xs (λ i j d le within. order (suc i) (suc j) d (omega (arith, le)) (omega (arith, within))),
)

-- the front of a column of keys is that of its table
pub column_front : {X : Type 0} (key : X → ℕ) (p : ℕ → Bool) (xs : List X) → prefix_len p (map key xs) ≡ prefix_len (λ x. p (key x)) xs
column_front key p [] = refl
column_front key p (x ∷ xs) = ap (λ n. cond (p (key x)) (1 + n) 0) (column_front key p xs)

-- no key stands before the first
front_none : {X : Type 0} (key : X → ℕ) (k : ℕ) (xs : List X) → ((y : X) → Contains xs y → k ≤ key y) → prefix_len (λ x. nat_lt (key x) k) xs ≡ 0
front_none key k [] from = refl
front_none key k (x ∷ xs) from = subst (λ b. cond b (1 + prefix_len (λ x. nat_lt (key x) k) xs) 0 ≡ 0) (sym less) refl
  where
    le : k ≤ key x
    le = from x (contains_first x xs)

    less : nat_lt (key x) k ≡ false
    less = grind (arith, le)

-- nothing has the key where all keys are behind it
filter_none : {X : Type 0} (key : X → ℕ) (k : ℕ) (xs : List X) → ((y : X) → Contains xs y → k < key y) → filter (λ x. key x == k) xs ≡ []
filter_none key k [] behind = refl
filter_none key k (x ∷ xs) behind = subst (λ b. cond b (x ∷ filter (λ x. key x == k) xs) (filter (λ x. key x == k) xs) ≡ []) (sym other) (filter_none key k xs (λ y at. behind y (contains_other x xs y at)))
  where
    le : k < key x
    le = behind x (contains_first x xs)

    other : (key x == k) ≡ false
    other = grind (arith, le)

-- the lines between those with lesser keys and those with greater ones have the key
pub group_is : {X : Type 0} (key : X → ℕ) (k : ℕ) (xs : List X) → Climbs key xs
    → take (prefix_len (λ x. nat_le (key x) k) xs - prefix_len (λ x. nat_lt (key x) k) xs) (drop (prefix_len (λ x. nat_lt (key x) k) xs) xs)
    ≡ filter (λ x. key x == k) xs
group_is key k [] climbs = refl
group_is {X} key k (x ∷ xs) climbs =
    by (nat_lt (key x) k) (nat_le (key x) k) (key x == k) refl refl refl (group_is key k xs climbs.1)
    (λ from. front_none key k xs (λ y at. omega (arith, from, climbs.0 y at)))
    (λ behind. filter_none key k xs (λ y at. omega (arith, behind, climbs.0 y at)))
  where
    a : ℕ
    a = prefix_len (λ x. nat_lt (key x) k) xs

    b : ℕ
    b = prefix_len (λ x. nat_le (key x) k) xs

    f : List X
    f = filter (λ x. key x == k) xs

    one : (n : ℕ) → 1 + n ≡ suc n
    one n = omega arith

    by : (less le is : Bool) → nat_lt (key x) k ≡ less → nat_le (key x) k ≡ le → (key x == k) ≡ is
        → take (b - a) (drop a xs) ≡ f → (k ≤ key x → a ≡ 0) → (k < key x → f ≡ [])
        → take (cond le (1 + b) 0 - cond less (1 + a) 0) (drop (cond less (1 + a) 0) (x ∷ xs)) ≡ cond is (x ∷ f) f
    by true true false e1 e2 e3 rest none empty =
        let same : (1 + b) - (1 + a) ≡ b - a = omega arith in
        ap (λ n. take n (drop (1 + a) (x ∷ xs))) same ∙ ap (λ n. take (b - a) (drop n (x ∷ xs))) (one a) ∙ rest
    by false true true e1 e2 e3 rest none empty =
        let zero_a : a ≡ 0 = none (grind (arith, e3)) in
        let more : (1 + b) - 0 ≡ suc b = omega arith in
        ap (λ n. take n (x ∷ xs)) more
        ∙ ap (λ ys. x ∷ ys) (sym (ap (λ n. take (b - n) (drop n xs)) zero_a ∙ ap (λ n. take n xs) (let e : b - 0 ≡ b = omega arith in e)) ∙ rest)
    by false false false e1 e2 e3 rest none empty = sym (empty (grind (arith, e2)))
    by true true true e1 e2 e3 rest none empty = absurd (grind (arith, e1, e3))
    by true false true e1 e2 e3 rest none empty = absurd (grind (arith, e1, e3))
    by true false false e1 e2 e3 rest none empty = absurd (grind (arith, e1, e2))
    by false true false e1 e2 e3 rest none empty = absurd (grind (arith, e1, e2, e3))
    by false false true e1 e2 e3 rest none empty = absurd (grind (arith, e2, e3))

-- an element of a column is the key of the element of its table
mapped_at : {X : Type 0} (key : X → ℕ) (xs : List X) (j d : ℕ) (x : X) → j < length xs → get_or (map key xs) j d ≡ key (get_or xs j x)
mapped_at key [] j d x within = absurd (omega (arith, within))
mapped_at key (y ∷ xs) zero d x within = refl
mapped_at key (y ∷ xs) (suc j) d x within = mapped_at key xs j d x (omega (arith, within))

mapped_long : {X : Type 0} (key : X → ℕ) (xs : List X) → length (map key xs) ≡ length xs
mapped_long key [] = refl
mapped_long key (x ∷ xs) = ap (λ n. suc n) (mapped_long key xs)

-- so a column rises with its table
column_order : {X : Type 0} (key : X → ℕ) (xs : List X) → IsNonDecreasingBy key xs → IsNonDecreasingBy (λ x. x) (map key xs)
column_order key [] order i j d le within = absurd (omega (arith, within))
column_order key (x ∷ xs) order i j d le within =
    let long = mapped_long key (x ∷ xs) in
    let here : j < length (x ∷ xs) = omega (arith, within, long) in
    let first = mapped_at key (x ∷ xs) i d x (omega (arith, here, le)) in
    let second = mapped_at key (x ∷ xs) j d x here in
    omega (arith, first, second, order i j x le here)

pub keys_in_order : {X : Type 0} (key : X → ℕ) (items : List X) (keys other : List ℕ) → other ≡ keys → IsTable key items keys → IsNonDecreasingBy (λ x. x) other
keys_in_order key items keys other same table =
    subst (λ (ks : List ℕ). IsNonDecreasingBy (λ x. x) ks) (sym (same ∙ table.column)) (column_order key items table.order)

-- what stands between the ends of a key in a table has the key
pub group_of : {X : Type 0} (key : X → ℕ) (k : ℕ) (items other : List X) (keys column : List ℕ) (start end : ℕ) → IsTable key items keys
    → column ≡ keys → other ≡ items → start ≡ prefix_len (λ x. nat_lt x k) column → end ≡ prefix_len (λ x. nat_le x k) column
    → take (end - start) (drop start other) ≡ filter (λ x. key x == k) items
group_of key k items other keys column start end table keys_are items_are first last =
    let from = first ∙ ap (λ ks. prefix_len (λ x. nat_lt x k) ks) (keys_are ∙ table.column) ∙ column_front key (λ x. nat_lt x k) items in
    let to = last ∙ ap (λ ks. prefix_len (λ x. nat_le x k) ks) (keys_are ∙ table.column) ∙ column_front key (λ x. nat_le x k) items in
    ap (λ n. take (end - n) (drop n other)) from
    ∙ ap (λ n. take (n - prefix_len (λ x. nat_lt (key x) k) items) (drop (prefix_len (λ x. nat_lt (key x) k) items) other)) to
    ∙ ap (λ ys. take (prefix_len (λ x. nat_le (key x) k) items - prefix_len (λ x. nat_lt (key x) k) items) (drop (prefix_len (λ x. nat_lt (key x) k) items) ys)) items_are
    ∙ group_is key k items (climbs_from key items table.order)
