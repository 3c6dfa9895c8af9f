-- who is shown destroyed and left, and how many more a policy could bear
use Rattle.std.proofs.Common.{◌≡◌, ◌∙◌, ◌+◌, ◌<◌, ◌==◌, ◌&&◌, ◌||◌, ℕ, zero, suc, inl, inr, Bool, true, false, not, cond, List, [], ◌∷◌, ◌++◌, length, length-append, filter, get_or, slice_get, slice_set, Some, refl, sym, subst, ap, ap₂, arith, add-one, if◌then◌else◌, map, option_map, take, Vec, Global}
use Rattle.std.specs.List.{range_with_len}
use Rattle.std.specs.Vec.{with_items}
use Rattle.std.specs.Ordering.{nat_cmp}
use Rattle.std.specs.FinSet as sets
use Rattle.std.proofs.Math.Seq.{map-set_same}
use Rattle.std.proofs.lemmas.Bool.{cases_lt, eq-eqb, ne_eqb}
use Rattle.std.proofs.lemmas.List.{length-map, map-append, with_items_is}
use Rattle.std.proofs.lemmas.List.Elements.{filter-append}
use Rattle.std.proofs.lemmas.Option.{slice_get-map}
use Rattle.fy_locality.specs.declared.locality.Locality.{Locality}
use Rattle.fy_policy.specs.Tree.{Tree}
use Rattle.fy_policy.specs.Sat.{satisfies}
use Rattle.fy_decide.specs.Safety.{with_set, without_set}
use Rattle.fy_cluster.specs.Setup.{Setup}
use Rattle.fy_cluster.specs.History.{History}
use Rattle.fy_picture.specs.declared.column.Column.{Column}
use Rattle.fy_picture.specs.declared.column.States.{States}
use Rattle.fy_picture.specs.Columns.{AreCounts, AreStates}
use Rattle.fy_picture.specs.Counters.{Counting, counted_in}
use Rattle.fy_picture.specs.Killable.{is_killable, killable_by, killable, killable_at, AreCounted, AreCountsAt, HaveSameLosses, states_in}
use Rattle.fy_picture.specs.Layouts.{ends_of}
use Rattle.fy_picture.proofs.Acking.{after_set}
use Rattle.fy_picture.proofs.Afters.{one_more}
use Rattle.fy_picture.proofs.Moving.{insert_has, remove_has}

-- ---- counting

range_more : (a n : ℕ) → range_with_len a (suc n) ≡ range_with_len a n ++ (a + n) ∷ []
range_more a zero = ap (λ m. m ∷ []) (omega arith)
range_more a (suc n) = ap (λ ms. a ∷ ms) (range_more (a + 1) n ∙ ap (λ m. range_with_len (a + 1) n ++ m ∷ []) (omega arith))

range_next : (n : ℕ) → range_with_len 0 (n + 1) ≡ range_with_len 0 n ++ n ∷ []
range_next n = ap (range_with_len 0) (add-one n) ∙ range_more 0 n ∙ ap (λ m. range_with_len 0 n ++ m ∷ []) (omega arith)

-- how many of the numbers pass
pub count_next : (f : ℕ → Bool) (n : ℕ) → length (filter f (range_with_len 0 (n + 1))) ≡ length (filter f (range_with_len 0 n)) + cond (f n) 1 0
count_next f n = ap (λ ms. length (filter f ms)) (range_next n) ∙ ap length (filter-append f (range_with_len 0 n) (n ∷ [])) ∙ length-append (filter f (range_with_len 0 n)) (filter f (n ∷ [])) ∙ ap (λ k. length (filter f (range_with_len 0 n)) + k) (last (f n))
  where
    last : (b : Bool) → length (cond b (n ∷ []) []) ≡ cond b 1 0
    last true = refl
    last false = refl

-- ---- one policy

or_swap : (a b : Bool) → (a || b) ≡ (b || a)
or_swap true true = refl
or_swap true false = refl
or_swap false true = refl
or_swap false false = refl

and_swap : (a b : Bool) → (a && b) ≡ (b && a)
and_swap true true = refl
and_swap true false = refl
and_swap false true = refl
and_swap false false = refl

with_is : (s : sets.FinSet nat_cmp) (p : ℕ) → sets.contains (sets.insert s p) ≡ with_set (sets.contains s) (λ q. q == p)
with_is s p = λ i q. (insert_has s p q ∙ or_swap (q == p) (sets.contains s q)) i

without_is : (s : sets.FinSet nat_cmp) (p : ℕ) → sets.contains (sets.remove s p) ≡ without_set (sets.contains s) (λ q. q == p)
without_is s p = λ i q. (remove_has s p q ∙ and_swap (not (q == p)) (sets.contains s q)) i

ands : (x y : Bool) → (not x && y) ≡ ((not x && true) && (y && true))
ands true true = refl
ands true false = refl
ands false true = refl
ands false false = refl

module _ (processes : List Locality) (P : Tree) (destroyed left : sets.FinSet nat_cmp) (p : ℕ) where
  abbrev with_it : Bool
  with_it = satisfies processes P (with_set (sets.contains destroyed) (λ q. q == p))

  abbrev without_it : Bool
  without_it = satisfies processes P (without_set (sets.contains left) (λ q. q == p))

  parts : sets.contains left p ≡ true → sets.contains destroyed p ≡ false → (not with_it && without_it) ≡ is_killable processes P (sets.contains destroyed) (sets.contains left) p
  parts is_left is_whole =
      ands with_it without_it
      ∙ sym (ap₂ (λ l d. l && not d && ((not with_it && true) && (without_it && true))) is_left is_whole)

  -- the destroyed with it are short of the policy
  pub goes_by_left : (a b : Bool) → sets.contains left p ≡ true → sets.contains destroyed p ≡ false
      → a ≡ satisfies processes P (sets.contains (sets.insert destroyed p))
      → b ≡ satisfies processes P (sets.contains (sets.remove left p))
      → a ≡ false → b ≡ is_killable processes P (sets.contains destroyed) (sets.contains left) p
  goes_by_left a b is_left is_whole with_is_a without_is_b short =
      without_is_b ∙ ap (λ s. satisfies processes P s) (without_is left p)
      ∙ ap (λ x. not x && without_it) (sym short ∙ with_is_a ∙ ap (λ s. satisfies processes P s) (with_is destroyed p))
      ∙ parts is_left is_whole

  -- they satisfy it
  pub stays : (a : Bool) → sets.contains left p ≡ true → sets.contains destroyed p ≡ false
      → a ≡ satisfies processes P (sets.contains (sets.insert destroyed p))
      → a ≡ true → not a ≡ is_killable processes P (sets.contains destroyed) (sets.contains left) p
  stays a is_left is_whole with_is_a enough =
      ap not enough
      ∙ ap (λ x. not x && without_it) (sym enough ∙ with_is_a ∙ ap (λ s. satisfies processes P s) (with_is destroyed p))
      ∙ parts is_left is_whole

-- the same losses leave the same number
killable_same : (processes : List Locality) (P : Tree) (one other : States) → HaveSameLosses one other → killable_at processes P one ≡ killable_at processes P other
killable_same processes P one other same = λ i. killable_by processes P (sets.contains (same.destroyed i)) (sets.contains (same.left i))

-- the states of a history leave the number of the history
killable_of : (c : Setup) (h : History) (P : Tree) (states : States) → AreStates c h states → killable_at c.processes P states ≡ killable c h P
killable_of c h P states are = λ i. killable_by c.processes P (λ p. are.destroyed p i) (λ p. are.left p i)

-- ---- counters

-- a counter by a policy
abbrev pub counting : List Locality → Tree → Counting
counting processes P = record { processes = processes; policy = P }

map-map : {X Y Z : Type 0} (g : Y → Z) (f : X → Y) (xs : List X) → map g (map f xs) ≡ map (λ x. g (f x)) xs
map-map g f [] = refl
map-map g f (x ∷ xs) = ap (λ rest. g (f x) ∷ rest) (map-map g f xs)

-- a list that stays as it was
pub kept_items : {X : Type 0} (v : Vec X Global) (old new : List X) → new ≡ old → old ≡ v.items → (with_items v new).items ≡ v.items
kept_items v old new is same = with_items_is v new (ap length (is ∙ same) ∙ sym v.ok.0) ∙ is ∙ same

-- the next item's image is put behind those of the items before it
pub mapped_next : {X Y : Type 0} (f : X → Y) (xs : List X) (i : ℕ) (x : X) → i < length xs → x ≡ get_or xs i x → map f (take i xs) ++ f x ∷ [] ≡ map f (take (i + 1) xs)
mapped_next f xs i x within is = sym (map-append f (take i xs) (x ∷ [])) ∙ ap (map f) (sym (one_more xs i x within is))

-- counts by each policy
pub counts_by : (processes : List Locality) (policies : List Tree) (states : States) (counts : List ℕ) → counts ≡ map (counted_in states) (map (counting processes) policies) → AreCountsAt processes policies states counts
counts_by processes policies states counts is =
    let f = λ (P : Tree). killable_at processes P states in
    let all : counts ≡ map f policies = is ∙ map-map (counted_in states) (counting processes) policies in
    record {
      count = ap length all ∙ length-map policies f;
      each = λ place P there. ap (λ ns. slice_get ns place) all ∙ slice_get-map f policies place ∙ ap (option_map f) there;
    }

-- counts at losses that are the same
pub counts_same : (processes : List Locality) (policies : List Tree) (one other : States) (counts : List ℕ) → HaveSameLosses one other → AreCountsAt processes policies one counts → AreCountsAt processes policies other counts
counts_same processes policies one other counts same are = record {
  count = are.count;
  each = λ place P e. are.each place P e ∙ ap Some (killable_same processes P one other same);
}

-- counts in the states of a history
pub counts_of : (c : Setup) (h : History) (states : States) (counts : List ℕ) → AreStates c h states → AreCountsAt c.processes c.policies states counts → AreCounts c h counts
counts_of c h states counts of are = record {
  count = are.count;
  each = λ place P e. are.each place P e ∙ ap Some (killable_of c h P states of);
}

-- one column more has its counts, and all else of the columns stays
pub count_one : (c : Setup) (start now : List Column) (k : ℕ) (own y : Column) → k < length now → own ≡ get_or now k own → y.end ≡ own.end → y.states ≡ own.states → AreCountsAt c.processes c.policies y.states y.counts.items
    → ends_of now ≡ ends_of start → states_in now ≡ states_in start → AreCounted c k now
    → (ends_of (slice_set now k y) ≡ ends_of start) × (states_in (slice_set now k y) ≡ states_in start) × AreCounted c (k + 1) (slice_set now k y)
count_one c start now k own y within is end states counts ends all counted = (
  map-set_same (λ (x : Column). x.end) now k y own (end ∙ ap (λ (x : Column). x.end) is) ∙ ends,
  map-set_same (λ (x : Column). x.states) now k y own (states ∙ ap (λ (x : Column). x.states) is) ∙ all,
  λ j column less there. elim (cases_lt j k) [
    | inl below ↦
        counted j column below
        (sym (after_set now k j y own within (omega arith) ∙ ap (λ b. if b then Some y else slice_get now j) (ne_eqb j k (λ e. omega arith)))
        ∙ there)
    | inr past ↦
        let same : j ≡ k = omega arith in
        let found : Some y ≡ Some column =
        sym (after_set now k j y own within (omega arith) ∙ ap (λ b. if b then Some y else slice_get now j) (eq-eqb j k same)) ∙ there in
        let that : y ≡ column = cc in
        subst (λ (x : Column). AreCountsAt c.processes c.policies x.states x.counts.items) that counts
  ],
)
