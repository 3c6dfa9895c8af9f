-- orders of single registers, merged into one of all
use Rattle.std.proofs.Common.{suc, zero, inl, inr, ◌⊎◌, ◌≡◌, ◌≢◌, ℕ, ◌<◌, ◌≤◌, ◌==◌, max, nat_le, nat_lt, Bool, true, false, cond, List, [], ◌∷◌, ◌++◌, Some, None, refl, sym, ap, subst, ◌∙◌, arith, eq-eqb, ne_eqb, leb-true, leb-false, ltb-true, ltb-false, map, append-nil}
use Rattle.std.specs.List.{Contains, AllPairs, filter}
use Rattle.std.proofs.lemmas.Bool.{cases_eq}
use Rattle.std.proofs.lemmas.List.Elements.{Contains-append_cases, filter-append}
use Rattle.fy_registers.specs.declared.operation.Operation.{Operation}
use Rattle.fy_registers.specs.Linear.{HasEnded, IsBefore, AreAnswered, IsLinearizable}
use Rattle.fy_registers.specs.declared.keyed.Keyed.{Keyed}
use Rattle.fy_registers.specs.Keys.{of_key, AreLinearizable, NoneEndsEarly, EachByItself}
use Rattle.fy_registers.proofs.KeyParts.{with_key, from_key, into_key, answered_from_keys, together_each}
use Rattle.fy_registers.proofs.Lists.{contains_here, contains_there, contains_cases, contains_none, pairs_head, pairs_tail, pairs_cons, pairs_none, pairs_weaker, from_filter, into_filter}

-- an operation with the point at which it is taken to be done
pub record Placed : Type 0 where
  pub point : ℕ
  pub keyed : Keyed

abbrev InOrder : Placed → Placed → Type 0
InOrder one later = one.point ≤ later.point

-- ---- a stable sort by points
abbrev insert : Placed → List Placed → List Placed
insert x [] = x ∷ []
insert x (y ∷ ys) = cond (nat_le x.point y.point) (x ∷ y ∷ ys) (y ∷ insert x ys)

abbrev sorted : List Placed → List Placed
sorted [] = []
sorted (x ∷ xs) = insert x (sorted xs)

insert_from : (x : Placed) (xs : List Placed) (z : Placed) → Contains (insert x xs) z → (z ≡ x) ⊎ Contains xs z
insert_from x [] z among = contains_cases x z [] among
insert_from x (y ∷ ys) z among = go (nat_le x.point y.point) among (λ there. insert_from x ys z there)
  where
    go : (b : Bool) → Contains (cond b (x ∷ y ∷ ys) (y ∷ insert x ys)) z → (Contains (insert x ys) z → (z ≡ x) ⊎ Contains ys z) → (z ≡ x) ⊎ Contains (y ∷ ys) z
    go true among more = contains_cases x z (y ∷ ys) among
    go false among more = later (contains_cases y z (insert x ys) among)
      where
        deeper : (z ≡ x) ⊎ Contains ys z → (z ≡ x) ⊎ Contains (y ∷ ys) z
        deeper (inl is) = inl is
        deeper (inr there) = inr (contains_there y z ys there)

        later : (z ≡ y) ⊎ Contains (insert x ys) z → (z ≡ x) ⊎ Contains (y ∷ ys) z
        later (inl is) = inr (subst (λ q. Contains (y ∷ ys) q) (sym is) (contains_here y ys))
        later (inr there) = deeper (more there)

insert_into : (x : Placed) (xs : List Placed) (z : Placed) → (z ≡ x) ⊎ Contains xs z → Contains (insert x xs) z
insert_into x [] z (inl is) = subst (λ q. Contains (x ∷ []) q) (sym is) (contains_here x [])
insert_into x [] z (inr there) = absurd (contains_none z there)
insert_into x (y ∷ ys) z which = go (nat_le x.point y.point) which (λ w. insert_into x ys z w)
  where
    go : (b : Bool) → (z ≡ x) ⊎ Contains (y ∷ ys) z → ((z ≡ x) ⊎ Contains ys z → Contains (insert x ys) z) → Contains (cond b (x ∷ y ∷ ys) (y ∷ insert x ys)) z
    go true (inl is) more = subst (λ q. Contains (x ∷ y ∷ ys) q) (sym is) (contains_here x (y ∷ ys))
    go true (inr there) more = contains_there x z (y ∷ ys) there
    go false (inl is) more = contains_there y z (insert x ys) (more (inl is))
    go false (inr there) more = later (contains_cases y z ys there)
      where
        later : (z ≡ y) ⊎ Contains ys z → Contains (y ∷ insert x ys) z
        later (inl is) = subst (λ q. Contains (y ∷ insert x ys) q) (sym is) (contains_here y (insert x ys))
        later (inr there) = contains_there y z (insert x ys) (more (inr there))

sorted_from : (xs : List Placed) (z : Placed) → Contains (sorted xs) z → Contains xs z
sorted_from [] z among = among
sorted_from (x ∷ xs) z among = go (λ there. sorted_from xs z there) (insert_from x (sorted xs) z among)
  where
    go : (Contains (sorted xs) z → Contains xs z) → (z ≡ x) ⊎ Contains (sorted xs) z → Contains (x ∷ xs) z
    go more (inl is) = subst (λ q. Contains (x ∷ xs) q) (sym is) (contains_here x xs)
    go more (inr there) = contains_there x z xs (more there)

sorted_into : (xs : List Placed) (z : Placed) → Contains xs z → Contains (sorted xs) z
sorted_into [] z among = among
sorted_into (x ∷ xs) z among = go (λ there. sorted_into xs z there) (contains_cases x z xs among)
  where
    go : (Contains xs z → Contains (sorted xs) z) → (z ≡ x) ⊎ Contains xs z → Contains (insert x (sorted xs)) z
    go more (inl is) = insert_into x (sorted xs) z (inl is)
    go more (inr there) = insert_into x (sorted xs) z (inr (more there))

insert_in_order : (x : Placed) (xs : List Placed) → AllPairs InOrder xs → AllPairs InOrder (insert x xs)
insert_in_order x [] all = pairs_cons InOrder x [] (λ z among. absurd (contains_none z among)) all
insert_in_order x (y ∷ ys) all = go (nat_le x.point y.point) refl (insert_in_order x ys (pairs_tail InOrder y ys all))
  where
    go : (b : Bool) → nat_le x.point y.point ≡ b → AllPairs InOrder (insert x ys) → AllPairs InOrder (cond b (x ∷ y ∷ ys) (y ∷ insert x ys))
    go true e more = pairs_cons InOrder x (y ∷ ys) (λ z among. behind z (contains_cases y z ys among)) all
      where
        behind : (z : Placed) → (z ≡ y) ⊎ Contains ys z → x.point ≤ z.point
        behind z (inl is) = let low = leb-true x.point y.point e in let same : z.point ≡ y.point = ap (λ (q : Placed). q.point) is in omega arith
        behind z (inr there) = let low = leb-true x.point y.point e in let next = pairs_head InOrder y z ys all there in omega arith
    go false e more = pairs_cons InOrder y (insert x ys) (λ z among. behind z (insert_from x ys z among)) more
      where
        behind : (z : Placed) → (z ≡ x) ⊎ Contains ys z → y.point ≤ z.point
        behind z (inl is) = let low = leb-false x.point y.point e in let same : z.point ≡ x.point = ap (λ (q : Placed). q.point) is in omega arith
        behind z (inr there) = pairs_head InOrder y z ys all there

sorted_in_order : (xs : List Placed) → AllPairs InOrder (sorted xs)
sorted_in_order [] = pairs_none InOrder
sorted_in_order (x ∷ xs) = insert_in_order x (sorted xs) (sorted_in_order xs)

-- what a test keeps, and is in order already, stays as it is
module _ (p : Placed → Bool) where
  insert_stable : (x : Placed) (xs : List Placed) → (p x ≡ true → (z : Placed) → Contains (filter p xs) z → x.point ≤ z.point) → filter p (insert x xs) ≡ cond (p x) (x ∷ filter p xs) (filter p xs)
  insert_stable x [] first = refl
  insert_stable x (y ∷ ys) first = go (nat_le x.point y.point) refl (insert_stable x ys (λ e z among. first e z (keeps (p y) z among)))
    where
      keeps : (b : Bool) (z : Placed) → Contains (filter p ys) z → Contains (cond b (y ∷ filter p ys) (filter p ys)) z
      keeps true z among = contains_there y z (filter p ys) among
      keeps false z among = among

      swap : (b c : Bool) → (b ≡ true → c ≡ true → ⊥) → cond c (y ∷ cond b (x ∷ filter p ys) (filter p ys)) (cond b (x ∷ filter p ys) (filter p ys)) ≡ cond b (x ∷ cond c (y ∷ filter p ys) (filter p ys)) (cond c (y ∷ filter p ys) (filter p ys))
      swap true true never = absurd (never refl refl)
      swap true false never = refl
      swap false true never = refl
      swap false false never = refl

      go : (b : Bool) → nat_le x.point y.point ≡ b → filter p (insert x ys) ≡ cond (p x) (x ∷ filter p ys) (filter p ys) → filter p (cond b (x ∷ y ∷ ys) (y ∷ insert x ys)) ≡ cond (p x) (x ∷ filter p (y ∷ ys)) (filter p (y ∷ ys))
      go true e same = refl
      go false e same =
          ap (λ zs. cond (p y) (y ∷ zs) zs) same
          ∙ swap (p x) (p y) (λ px py. let low = first px y (into_filter p (y ∷ ys) y (contains_here y ys) py) in let high = leb-false x.point y.point e in omega arith)

  sorted_stable : (xs : List Placed) → AllPairs InOrder (filter p xs) → filter p (sorted xs) ≡ filter p xs
  sorted_stable [] all = refl
  sorted_stable (x ∷ xs) all = go (p x) refl all (λ rest. sorted_stable xs rest)
    where
      go : (b : Bool) → p x ≡ b → AllPairs InOrder (cond b (x ∷ filter p xs) (filter p xs)) → (AllPairs InOrder (filter p xs) → filter p (sorted xs) ≡ filter p xs) → filter p (insert x (sorted xs)) ≡ filter p (x ∷ xs)
      go true e all more =
          let rest = more (pairs_tail InOrder x (filter p xs) all) in
          insert_stable x (sorted xs) (λ yes z among. pairs_head InOrder x z (filter p xs) all (subst (λ zs. Contains zs z) rest among))
          ∙ ap (λ zs. cond (p x) (x ∷ zs) zs) rest
      go false e all more =
          let rest = more all in
          insert_stable x (sorted xs) (λ yes. let no : true ≡ false = sym yes ∙ e in let never : ⊥ = cc in absurd never)
          ∙ ap (λ zs. cond (p x) (x ∷ zs) zs) rest

-- ---- the points of an order: each is the last begin so far
abbrev placed : ℕ → ℕ → List Operation → List Placed
placed k last [] = []
placed k last (o ∷ later) = record { point = max last o.began; keyed = with_key k o } ∷ placed k (max last o.began) later

abbrev InTime : Operation → Operation → Type 0
InTime one later = IsBefore later one → ⊥

-- each operation ends, if it does, at the point or behind it, and begins before
record IsPlaced (k last : ℕ) (os : List Operation) (x : Placed) : Type 0 where
  key : x.keyed.key ≡ k
  within : Contains os x.keyed.operation
  behind : last ≤ x.point
  began : x.keyed.operation.began ≤ x.point
  ended : (end : ℕ) → x.keyed.operation.ended ≡ Some end → x.point ≤ end

placed_are : (k last : ℕ) (os : List Operation) → ((o : Operation) → Contains os o → (end : ℕ) → o.ended ≡ Some end → (o.began ≤ end) × (last ≤ end)) → AllPairs (λ one later. IsBefore later one → ⊥) os → (x : Placed) → Contains (placed k last os) x → IsPlaced k last os x
placed_are k last [] ends in_time x among = absurd (contains_none x among)
placed_are k last (o ∷ later) ends in_time x among = go (λ there. placed_are k (max last o.began) later later_ends (pairs_tail InTime o later in_time) x there) (contains_cases (record { point = max last o.began; keyed = with_key k o }) x (placed k (max last o.began) later) among)
  where
    later_ends : (q : Operation) → Contains later q → (end : ℕ) → q.ended ≡ Some end → (q.began ≤ end) × (max last o.began ≤ end)
    later_ends q there end e =
        let its = ends q (contains_there o q later there) end e in
        let never : end < o.began → ⊥ = λ less. pairs_head InTime o q later in_time there (end, e, less) in
        let low : o.began ≤ end = omega arith in
        (its.0, omega arith)

    first : Placed
    first = record { point = max last o.began; keyed = with_key k o }

    go : (Contains (placed k (max last o.began) later) x → IsPlaced k (max last o.began) later x) → (x ≡ record { point = max last o.began; keyed = with_key k o }) ⊎ Contains (placed k (max last o.began) later) x → IsPlaced k last (o ∷ later) x
    go more (inl is) = subst (λ q. IsPlaced k last (o ∷ later) q) (sym is) (record {
      key = refl;
      within = contains_here o later;
      behind = omega arith;
      began = omega arith;
      ended = λ end e. let its = ends o (contains_here o later) end e in omega arith;
    })
    go more (inr there) = let its = more there in record {
      key = its.key;
      within = contains_there o x.keyed.operation later its.within;
      behind = let low = its.behind in omega arith;
      began = its.began;
      ended = its.ended;
    }

-- each operation of the order is placed
placed_all : (k last : ℕ) (os : List Operation) (o : Operation) → Contains os o → (x : Placed) × Contains (placed k last os) x × (x.keyed ≡ with_key k o)
placed_all k last [] o among = absurd (contains_none o among)
placed_all k last (p ∷ later) o among = go (λ there. placed_all k (max last p.began) later o there) (contains_cases p o later among)
  where
    go : (Contains later o → (x : Placed) × Contains (placed k (max last p.began) later) x × (x.keyed ≡ with_key k o)) → (o ≡ p) ⊎ Contains later o → (x : Placed) × Contains (placed k last (p ∷ later)) x × (x.keyed ≡ with_key k o)
    go more (inl is) = (record { point = max last p.began; keyed = with_key k p }, contains_here _ _, ap (with_key k) (sym is))
    go more (inr there) = let its = more there in (its.0, contains_there _ its.0 _ its.1, its.2)

-- the points of an order don't fall
placed_in_order : (k last : ℕ) (os : List Operation) → ((o : Operation) → Contains os o → (end : ℕ) → o.ended ≡ Some end → (o.began ≤ end) × (last ≤ end)) → AllPairs InTime os → AllPairs InOrder (placed k last os)
placed_in_order k last [] ends in_time = pairs_none InOrder
placed_in_order k last (o ∷ later) ends in_time =
    pairs_cons InOrder (record { point = max last o.began; keyed = with_key k o }) (placed k (max last o.began) later)
    (λ x among. (placed_are k (max last o.began) later later_ends (pairs_tail InTime o later in_time) x among).behind)
    (placed_in_order k (max last o.began) later later_ends (pairs_tail InTime o later in_time))
  where
    later_ends : (q : Operation) → Contains later q → (end : ℕ) → q.ended ≡ Some end → (q.began ≤ end) × (max last o.began ≤ end)
    later_ends q there end e =
        let its = ends q (contains_there o q later there) end e in
        let never : end < o.began → ⊥ = λ less. pairs_head InTime o q later in_time there (end, e, less) in
        let low : o.began ≤ end = omega arith in
        (its.0, omega arith)

-- ---- all keys below a bound
-- the test of a key
abbrev is_of : ℕ → Placed → Bool
is_of k x = x.keyed.key == k

abbrev keyed_of : Placed → Keyed
keyed_of x = x.keyed

module _ (order : ℕ → List Operation) where
  abbrev gathered : ℕ → List Placed
  gathered zero = []
  gathered (suc n) = placed n 0 (order n) ++ gathered n

  filter_own : (k last : ℕ) (os : List Operation) → filter (is_of k) (placed k last os) ≡ placed k last os
  filter_own k last [] = refl
  filter_own k last (o ∷ later) =
      ap (λ b. cond b (record { point = max last o.began; keyed = with_key k o } ∷ filter (is_of k) (placed k (max last o.began) later)) (filter (is_of k) (placed k (max last o.began) later))) (eq-eqb k k refl)
      ∙ ap (λ zs. record { point = max last o.began; keyed = with_key k o } ∷ zs) (filter_own k (max last o.began) later)

  filter_other : (k j last : ℕ) → (j ≡ k → ⊥) → (os : List Operation) → filter (is_of k) (placed j last os) ≡ []
  filter_other k j last other [] = refl
  filter_other k j last other (o ∷ later) =
      ap (λ b. cond b (record { point = max last o.began; keyed = with_key j o } ∷ filter (is_of k) (placed j (max last o.began) later)) (filter (is_of k) (placed j (max last o.began) later))) (ne_eqb j k other)
      ∙ filter_other k j (max last o.began) other later

  gathered_split : (k n : ℕ) → filter (is_of k) (gathered (suc n)) ≡ filter (is_of k) (placed n 0 (order n)) ++ filter (is_of k) (gathered n)
  gathered_split k n = filter-append (is_of k) (placed n 0 (order n)) (gathered n)

  gathered_above : (k n : ℕ) → n ≤ k → filter (is_of k) (gathered n) ≡ []
  gathered_above k zero high = refl
  gathered_above k (suc n) high =
      gathered_split k n
      ∙ ap (λ zs. zs ++ filter (is_of k) (gathered n)) (filter_other k n 0 (λ same. let x : ⊥ = omega arith in x) (order n))
      ∙ gathered_above k n (omega arith)

  gathered_below : (k n : ℕ) → k < n → filter (is_of k) (gathered n) ≡ placed k 0 (order k)
  gathered_below k zero low = absurd (omega arith)
  gathered_below k (suc n) low = gathered_split k n ∙ go (λ less. gathered_below k n less) (cases_eq n k)
    where
      go : (k < n → filter (is_of k) (gathered n) ≡ placed k 0 (order k)) → (n ≡ k) ⊎ (n ≡ k → ⊥) → filter (is_of k) (placed n 0 (order n)) ++ filter (is_of k) (gathered n) ≡ placed k 0 (order k)
      go more (inl same) =
          subst (λ m. filter (is_of k) (placed m 0 (order m)) ++ filter (is_of k) (gathered n) ≡ placed k 0 (order k)) (sym same)
          (ap (λ zs. filter (is_of k) (placed k 0 (order k)) ++ zs) (gathered_above k n (omega arith)) ∙ append-nil (filter (is_of k) (placed k 0 (order k))) ∙ filter_own k 0 (order k))
      go more (inr other) =
          ap (λ zs. zs ++ filter (is_of k) (gathered n)) (filter_other k n 0 other (order n)) ∙ more (omega arith)

  gathered_from : (n : ℕ) (x : Placed) → Contains (gathered n) x → (k : ℕ) × Contains (placed k 0 (order k)) x
  gathered_from zero x among = absurd (contains_none x among)
  gathered_from (suc n) x among = go (λ there. gathered_from n x there) (Contains-append_cases (placed n 0 (order n)) (gathered n) x among)
    where
      go : (Contains (gathered n) x → (k : ℕ) × Contains (placed k 0 (order k)) x) → Contains (placed n 0 (order n)) x ⊎ Contains (gathered n) x → (k : ℕ) × Contains (placed k 0 (order k)) x
      go more (inl here) = (n, here)
      go more (inr there) = more there

  gathered_into : (n k : ℕ) (x : Placed) → k < n → Contains (placed k 0 (order k)) x → Contains (gathered n) x
  gathered_into n k x less among =
      (from_filter (is_of k) (gathered n) x (subst (λ zs. Contains zs x) (sym (gathered_below k n less)) among)).0

-- ---- maps
contains_map_from : {A B : Type 0} (f : A → B) (xs : List A) (y : B) → Contains (map f xs) y → (x : A) × Contains xs x × (f x ≡ y)
contains_map_from f [] y among = absurd (contains_none y among)
contains_map_from {A} f (x ∷ xs) y among = go (λ there. contains_map_from f xs y there) (contains_cases (f x) y (map f xs) among)
  where
    go : (Contains (map f xs) y → (x : A) × Contains xs x × (f x ≡ y)) → (y ≡ f x) ⊎ Contains (map f xs) y → (z : A) × Contains (x ∷ xs) z × (f z ≡ y)
    go more (inl is) = (x, contains_here x xs, sym is)
    go more (inr there) = let its = more there in (its.0, contains_there x its.0 xs its.1, its.2)

contains_map_into : {A B : Type 0} (f : A → B) (xs : List A) (x : A) → Contains xs x → Contains (map f xs) (f x)
contains_map_into f [] x among = absurd (contains_none x among)
contains_map_into f (y ∷ xs) x among = go (λ there. contains_map_into f xs x there) (contains_cases y x xs among)
  where
    go : (Contains xs x → Contains (map f xs) (f x)) → (x ≡ y) ⊎ Contains xs x → Contains (f y ∷ map f xs) (f x)
    go more (inl is) = subst (λ q. Contains (f y ∷ map f xs) (f q)) (sym is) (contains_here (f y) (map f xs))
    go more (inr there) = contains_there (f y) (f x) (map f xs) (more there)

pairs_map : {A B : Type 0} (f : A → B) (R : B → B → Type 0) (xs : List A) → AllPairs (λ x y. R (f x) (f y)) xs → AllPairs R (map f xs)
pairs_map f R [] all = pairs_none R
pairs_map {A} f R (x ∷ xs) all =
    pairs_cons R (f x) (map f xs)
    (λ y among. let its = contains_map_from f xs y among in subst (λ q. R (f x) q) its.2 (pairs_head (λ x y. R (f x) (f y)) x its.0 xs all its.1))
    (pairs_map f R xs (pairs_tail (λ x y. R (f x) (f y)) x xs all))

abbrev operation_of : Placed → Operation
operation_of x = x.keyed.operation

of_key_map : (k : ℕ) (xs : List Placed) → of_key k (map keyed_of xs) ≡ map operation_of (filter (is_of k) xs)
of_key_map k [] = refl
of_key_map k (x ∷ xs) = go (of_key_map k xs) (is_of k x)
  where
    go : of_key k (map keyed_of xs) ≡ map operation_of (filter (is_of k) xs) → (b : Bool) → cond b (x.keyed.operation ∷ of_key k (map keyed_of xs)) (of_key k (map keyed_of xs)) ≡ map operation_of (cond b (x ∷ filter (is_of k) xs) (filter (is_of k) xs))
    go rest true = ap (λ os. x.keyed.operation ∷ os) rest
    go rest false = rest

operations_placed : (k last : ℕ) (os : List Operation) → map operation_of (placed k last os) ≡ os
operations_placed k last [] = refl
operations_placed k last (o ∷ later) = ap (λ os. o ∷ os) (operations_placed k (max last o.began) later)

-- ---- pairs
-- one may stand before a later one
abbrev MayStand : Keyed → Keyed → Type 0
MayStand one later = (one ≢ later) × (IsBefore later.operation one.operation → ⊥)

abbrev Apart : Placed → Placed → Type 0
Apart one later = MayStand one.keyed later.keyed

-- an operation lies about its point
abbrev Lies : Placed → Type 0
Lies x = (x.keyed.operation.began ≤ x.point) × ((end : ℕ) → x.keyed.operation.ended ≡ Some end → x.point ≤ end)

by_key : (xs : List Placed) → ((k : ℕ) → AllPairs Apart (filter (is_of k) xs)) → AllPairs InOrder xs → ((x : Placed) → Contains xs x → Lies x) → AllPairs Apart xs
by_key [] each in_order lie = pairs_none Apart
by_key (x ∷ xs) each in_order lie =
    pairs_cons Apart x xs (λ y among. go y among (cases_eq y.keyed.key x.keyed.key))
    (by_key xs (λ k. rest k (is_of k x) (each k)) (pairs_tail InOrder x xs in_order) (λ y among. lie y (contains_there x y xs among)))
  where
    rest : (k : ℕ) (b : Bool) → AllPairs Apart (cond b (x ∷ filter (is_of k) xs) (filter (is_of k) xs)) → AllPairs Apart (filter (is_of k) xs)
    rest k true all = pairs_tail Apart x (filter (is_of k) xs) all
    rest k false all = all

    own : AllPairs Apart (x ∷ filter (is_of x.keyed.key) xs)
    own = subst (λ b. AllPairs Apart (cond b (x ∷ filter (is_of x.keyed.key) xs) (filter (is_of x.keyed.key) xs))) (eq-eqb x.keyed.key x.keyed.key refl) (each x.keyed.key)

    go : (y : Placed) → Contains xs y → (y.keyed.key ≡ x.keyed.key) ⊎ (y.keyed.key ≡ x.keyed.key → ⊥) → Apart x y
    go y among (inl same) = pairs_head Apart x y (filter (is_of x.keyed.key) xs) own (into_filter (is_of x.keyed.key) xs y among (eq-eqb y.keyed.key x.keyed.key same))
    go y among (inr other) = (
      (λ same. other (sym (ap (λ (q : Keyed). q.key) same))),
      (λ (end, ended, before).
          let row = pairs_head InOrder x y xs in_order among in
          let low = (lie x (contains_here x xs)).0 in
          let high = (lie y (contains_there x y xs among)).1 end ended in omega arith),
    )

abbrev EndsLate : ℕ → List Operation → Type 0
EndsLate last os = (o : Operation) → Contains os o → (end : ℕ) → o.ended ≡ Some end → (o.began ≤ end) × (last ≤ end)

placed_apart : (k last : ℕ) (os : List Operation) → EndsLate last os → AllPairs (λ one later. one ≢ later) os → AllPairs InTime os → AllPairs Apart (placed k last os)
placed_apart k last [] ends once in_time = pairs_none Apart
placed_apart k last (o ∷ later) ends once in_time =
    pairs_cons Apart (record { point = max last o.began; keyed = with_key k o }) (placed k (max last o.began) later)
    (λ x among. go x (placed_are k (max last o.began) later later_ends (pairs_tail InTime o later in_time) x among))
    (placed_apart k (max last o.began) later later_ends (pairs_tail (λ one later. one ≢ later) o later once) (pairs_tail InTime o later in_time))
  where
    later_ends : EndsLate (max last o.began) later
    later_ends q there end e =
        let its = ends q (contains_there o q later there) end e in
        let never : end < o.began → ⊥ = λ less. pairs_head InTime o q later in_time there (end, e, less) in
        let low : o.began ≤ end = omega arith in
        (its.0, omega arith)

    go : (x : Placed) → IsPlaced k (max last o.began) later x → MayStand (with_key k o) x.keyed
    go x is = (
      (λ same. pairs_head (λ one later. one ≢ later) o x.keyed.operation later once is.within (ap (λ (q : Keyed). q.operation) same)),
      pairs_head InTime o x.keyed.operation later in_time is.within,
    )

-- ---- the order of all
-- a bound of the keys
abbrev key_bound : List Keyed → ℕ
key_bound [] = 0
key_bound (o ∷ later) = max (suc o.key) (key_bound later)

below_bound : (h : List Keyed) (o : Keyed) → Contains h o → o.key < key_bound h
below_bound [] o among = absurd (contains_none o among)
below_bound (x ∷ h) o among = go (λ there. below_bound h o there) (contains_cases x o h among)
  where
    go : (Contains h o → o.key < key_bound h) → (o ≡ x) ⊎ Contains h o → o.key < max (suc x.key) (key_bound h)
    go more (inl is) = let same : o.key ≡ x.key = ap (λ (q : Keyed). q.key) is in omega arith
    go more (inr there) = let low = more there in omega arith

module _ (h : List Keyed) (early : NoneEndsEarly h) (each : (k : ℕ) → IsLinearizable (of_key k h)) where
  abbrev order_of : ℕ → List Operation
  order_of k = (each k).0

  abbrev bound : ℕ
  bound = key_bound h

  abbrev row : List Placed
  row = gathered order_of bound

  abbrev whole : List Keyed
  whole = map keyed_of (sorted row)

  ends : (k : ℕ) → EndsLate 0 (order_of k)
  ends k o among end e = (early (with_key k o) (from_key k h o ((each k).1.taken o among)) end e, omega arith)

  in_its_order : (k : ℕ) → AllPairs InOrder (placed k 0 (order_of k))
  in_its_order k = placed_in_order k 0 (order_of k) (ends k) (each k).1.in_time

  -- of each key the row has its order, or nothing where no operation has the key
  part : (k : ℕ) (P : List Placed → Type 0) → P (placed k 0 (order_of k)) → P [] → P (filter (is_of k) row)
  part k P own none = go (nat_lt k bound) refl
    where
      go : (b : Bool) → nat_lt k bound ≡ b → P (filter (is_of k) row)
      go true e = subst P (sym (gathered_below order_of k bound (ltb-true k bound e))) own
      go false e = subst P (sym (gathered_above order_of k bound (ltb-false k bound e))) none

  sorted_part : (k : ℕ) → filter (is_of k) (sorted row) ≡ filter (is_of k) row
  sorted_part k = sorted_stable (is_of k) row (part k (λ zs. AllPairs InOrder zs) (in_its_order k) (pairs_none InOrder))

  key_part : (k : ℕ) → of_key k whole ≡ map operation_of (filter (is_of k) row)
  key_part k = of_key_map k (sorted row) ∙ ap (map operation_of) (sorted_part k)

  placed_of : (x : Placed) → Contains (sorted row) x → (k : ℕ) × IsPlaced k 0 (order_of k) x
  placed_of x among =
      let its = gathered_from order_of bound x (sorted_from row x among) in
      (its.0, placed_are its.0 0 (order_of its.0) (ends its.0) (each its.0).1.in_time x its.1)

  taken : (o : Keyed) → Contains whole o → Contains h o
  taken o among =
      let its = contains_map_from keyed_of (sorted row) o among in
      let at = placed_of its.0 its.1 in
      let there : Contains h (with_key at.0 its.0.keyed.operation) = from_key at.0 h its.0.keyed.operation ((each at.0).1.taken its.0.keyed.operation at.1.within) in
      let same : with_key at.0 its.0.keyed.operation ≡ its.0.keyed = (λ i. record { key = sym at.1.key i; operation = its.0.keyed.operation }) in
      subst (λ q. Contains h q) (same ∙ its.2) there

  complete : (o : Keyed) → Contains h o → HasEnded o.operation → Contains whole o
  complete o among ended =
      let there = (each o.key).1.complete o.operation (into_key o.key h o.operation among) ended in
      let its = placed_all o.key 0 (order_of o.key) o.operation there in
      let in_row = gathered_into order_of bound o.key its.0 (below_bound h o among) its.1 in
      subst (λ q. Contains whole q) its.2 (contains_map_into keyed_of (sorted row) its.0 (sorted_into row its.0 in_row))

  apart : AllPairs Apart (sorted row)
  apart = by_key (sorted row)
      (λ k. subst (λ zs. AllPairs Apart zs) (sym (sorted_part k)) (part k (λ zs. AllPairs Apart zs) (placed_apart k 0 (order_of k) (ends k) (each k).1.once (each k).1.in_time) (pairs_none Apart)))
      (sorted_in_order row)
      (λ x among. let its = placed_of x among in (its.1.began, its.1.ended))

  may_stand : AllPairs MayStand whole
  may_stand = pairs_map keyed_of MayStand (sorted row) apart

  answered_part : (k : ℕ) → AreAnswered None (of_key k whole)
  answered_part k = subst (λ os. AreAnswered None os) (sym (key_part k))
      (part k (λ zs. AreAnswered None (map operation_of zs)) (subst (λ os. AreAnswered None os) (sym (operations_placed k 0 (order_of k))) (each k).1.answered) tt)

  pub each_together : AreLinearizable h
  each_together = (
    whole,
    record {
      taken = taken;
      complete = complete;
      once = pairs_weaker MayStand (λ one later. one ≢ later) whole (λ a b a_in b_in may. may.0) may_stand;
      in_time = pairs_weaker MayStand (λ one later. IsBefore later.operation one.operation → ⊥) whole (λ a b a_in b_in may. may.1) may_stand;
      answered = answered_from_keys (λ key. None) whole answered_part;
    },
  )

pub each_by_itself : EachByItself
each_by_itself h early = ((λ together k. together_each h together k), (λ each. each_together h early each))
