-- plans of all processes: how many words they take, and who is in them
use Rattle.std.proofs.Common.{arith, ◌≡◌, ◌≤◌, ◌<◌, ◌+◌, ◌-◌, ◌*◌, ◌%◌, ◌==◌, ℕ, zero, suc, Bool, true, false, List, [], ◌∷◌, ◌++◌, length, map, get_or, refl, sym, ap, subst, not}
use Rattle.std.specs.Prelude.{if◌then◌else◌, nat_lt}
use Rattle.std.specs.List.{All, range_with_len, filter_map, swap}
use Rattle.std.proofs.lemmas.List.Elements.{All-nil, All-cons, All-head, All-tail, All-set}
use Rattle.std.proofs.lemmas.List.FromFn.{length-map-range_with_len, get_or-map-range_with_len, map-range_with_len_more}
use Rattle.std.proofs.lemmas.List.Sums.{length-filter, count_by-le-length}
use Rattle.std.specs.Str.{bytes_eq}
use Rattle.fy_locality.specs.declared.ProcId.{ProcId}
use Rattle.fy_locality.specs.declared.locality.Locality.{Locality}
use Rattle.fy_locality.specs.declared.key.Key.TheVariants.{Machine}
use Rattle.fy_locality.specs.Locality.{value_in, values_of, first_seen}
use Rattle.fy_actors.specs.Plans.{chosen, shuffled, shuffled_from, swizzle_need, IsSwizzle, everyone}
use Rattle.fy_actors.specs.declared.plans.SwizzlePlan.{SwizzlePlan}
use Rattle.fy_actors.specs.Words.{stream_outputs}

-- ---- words

pub word_count : (seed stream count : ℕ) → length (stream_outputs seed stream count) ≡ count
unfolding stream_outputs
word_count seed stream count = length-map-range_with_len _ 0 count

-- ---- processes by number

abbrev pub process : ℕ → ProcId
process p = record { 0 = p }

pub one_process_more : (n : ℕ) →
    map (λ p. record { 0 = p }) (range_with_len 0 (n + 1))
    ≡ map process (range_with_len 0 n) ++ process n ∷ []
one_process_more n =
    map-range_with_len_more process 0 n n (let e : 0 + n ≡ n = omega arith in e)

pub at_place : (n k : ℕ) (d : ProcId) → k < n → get_or (map process (range_with_len 0 n)) k d ≡ process k
at_place n k d within =
    get_or-map-range_with_len process 0 n k k d within (let e : 0 + k ≡ k = omega arith in e)

-- each is below their count
all_below : (n : ℕ) → All (λ p. p.0 < n) (map process (range_with_len 0 n))
all_below n k d lt =
    let long = length-map-range_with_len process 0 n in
    let within : k < n = omega arith in
    subst (λ (p : ProcId). p.0 < n) (sym (at_place n k d within)) within

pub everybody_count : (processes : List Locality) → length (everyone processes) ≡ length processes
everybody_count processes = length-map-range_with_len process 0 (length processes)

-- ---- who is in a swizzle

all_chosen : {X : Type 0} (P : X → Type 0) (words : List ℕ) (xs : List X) → All P xs →
    All P (chosen words xs)
all_chosen P [] xs h = All-nil P
all_chosen P (word ∷ words) [] h = All-nil P
all_chosen P (word ∷ words) (x ∷ xs) h =
    by (word % 2 == 1) (all_chosen P words xs (All-tail P x xs h))
  where
    by : (b : Bool) → All P (chosen words xs) →
        All P (if b then x ∷ chosen words xs else chosen words xs)
    by true rest = All-cons P x (chosen words xs) (All-head P x xs h) rest
    by false rest = rest

picked : {X : Type 0} (P : X → Type 0) (xs : List X) (j : ℕ) (d : X) → P d → All P xs →
    P (get_or xs j d)
picked P [] j d p h = p
picked P (x ∷ xs) zero d p h = All-head P x xs h
picked P (x ∷ xs) (suc j) d p h = picked P xs j d p (All-tail P x xs h)

all_swapped : {X : Type 0} (P : X → Type 0) (xs : List X) (i j : ℕ) → All P xs → All P (swap xs i j)
all_swapped P [] i j h = h
all_swapped P (d ∷ ys) i j h =
    let here = All-head P d ys h in
    All-set P _ j _ (picked P (d ∷ ys) i d here h)
    (All-set P (d ∷ ys) i _ (picked P (d ∷ ys) j d here h) h)

all_shuffled_from : {X : Type 0} (P : X → Type 0) (i : ℕ) (words : List ℕ) (xs : List X) →
    All P xs → All P (shuffled_from i words xs)
all_shuffled_from P zero words xs h = h
all_shuffled_from P (suc i) [] xs h = h
all_shuffled_from P (suc i) (word ∷ words) xs h =
    all_shuffled_from P i words (swap xs (suc i) (word % (suc i + 1)))
    (all_swapped P xs (suc i) (word % (suc i + 1)) h)

all_shuffled : {X : Type 0} (P : X → Type 0) (words : List ℕ) (xs : List X) → All P xs →
    All P (shuffled words xs)
all_shuffled P words xs h = all_shuffled_from P (length xs - 1) words xs h

-- the processes of a swizzle of all are processes
pub swizzles_within : (words : List ℕ) (processes : List Locality) (plan : SwizzlePlan) →
    IsSwizzle words (everyone processes) plan →
    All (λ p. p.0 < length processes) plan.clogs.items
    × All (λ p. p.0 < length processes) plan.frees.items
swizzles_within words processes plan is =
    let P : ProcId → Type 0 = λ p. p.0 < length processes in
    let within : All P (chosen words (everyone processes)) =
    all_chosen P words (everyone processes) (all_below (length processes)) in (
      subst (All P) (sym is.clogs) within,
      subst (All P) (sym is.frees) (all_shuffled P _ (chosen words (everyone processes)) within),
    )

-- ---- how many words are taken

chosen_few : {X : Type 0} (words : List ℕ) (xs : List X) → length (chosen words xs) ≤ length xs
chosen_few [] xs = omega arith
chosen_few (word ∷ words) [] = omega arith
chosen_few (word ∷ words) (x ∷ xs) = by (word % 2 == 1) (chosen_few words xs)
  where
    by : (b : Bool) → length (chosen words xs) ≤ length xs →
        length (if b then x ∷ chosen words xs else chosen words xs) ≤ suc (length xs)
    by true few = omega arith
    by false few = omega arith

enough_for : (words : List ℕ) (candidates : List ProcId) →
    2 * length candidates ≤ length words → swizzle_need words candidates ≤ length words
enough_for words candidates enough = by (nat_lt (length words) (length candidates))
  where
    by : (b : Bool) →
        (if b then length candidates else length candidates + (length (chosen words candidates) - 1))
        ≤ length words
    by true = omega arith
    by false = let few = chosen_few words candidates in omega arith

-- two words for each process are enough for a swizzle of all
pub swizzle_enough : (seed stream : ℕ) (processes : List Locality) (count : ℕ) (words : List ℕ)
    (all : List ProcId) → count ≡ length processes → words ≡ stream_outputs seed stream (2 * count) →
    all ≡ everyone processes → swizzle_need words all ≤ length words
swizzle_enough seed stream processes count words all counted drawn are =
    let some = everybody_count processes in
    let same = ap length are in
    let long = word_count seed stream (2 * count) in
    let taken = ap length drawn in
    enough_for words all (omega arith)

first_few : (xs : List (List ℕ)) → length (first_seen xs) ≤ length xs
first_few [] = omega arith
first_few (x ∷ xs) =
    let few = first_few xs in
    let same = length-filter (λ y. not (bytes_eq x y)) (first_seen xs) in
    let fewer = count_by-le-length (λ y. not (bytes_eq x y)) (first_seen xs) in
    omega arith

machine_each : (processes : List Locality) →
    length (filter_map (value_in Machine) processes) ≡ length processes
machine_each [] = refl
machine_each (x ∷ xs) = ap suc (machine_each xs)

machines_few : (processes : List Locality) →
    length (values_of processes Machine) ≤ length processes
unfolding values_of
machines_few processes =
    let each = machine_each processes in
    let few = first_few (filter_map (value_in Machine) processes) in
    omega arith

-- and so for the machines, in whichever order they are killed
pub attrition_enough : (seed stream : ℕ) (processes : List Locality) (count : ℕ)
    (words : List ℕ) → count ≡ length processes → words ≡ stream_outputs seed stream (2 * count) →
    length (values_of processes Machine) - 1 ≤ length words
attrition_enough seed stream processes count words counted drawn =
    let few = machines_few processes in
    let long = word_count seed stream (2 * count) in
    let taken = ap length drawn in
    omega arith
