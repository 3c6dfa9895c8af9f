-- tallies of one set, one by each policy: sets that come and go, and what is found
use Rattle.std.proofs.Common.{zero, suc, ◌≡◌, ◌↔◌, ℕ, ◌+◌, ◌-◌, ◌<◌, ◌≤◌, Bool, true, false, true≢false, cond, ◌&&◌, ◌||◌, not, eqb, ltb, List, [], ◌∷◌, ◌++◌, length, map, get_or, set, take, drop, Vec, Global, refl, sym, ap, subst, ◌∙◌, arith}
use Rattle.std.specs.Prelude.{Option, Some, None, is_some, IfNone}
use Rattle.std.proofs.lemmas.List.Elements.{All-map}
use Rattle.std.specs.List.{All, list_all, position, position_from, position_or_len}
use Rattle.std.specs.Ordering.{nat_cmp}
use Rattle.std.specs.FinSet as sets
use Rattle.std.specs.Cmp.{nat_cmp_total, unsigned_tied}
use Rattle.std.proofs.lemmas.Bool.Decides.{nat_tests}
use Rattle.std.proofs.lemmas.Iterator.Adapters.{position_from-zero}
use Rattle.std.proofs.lemmas.List.{length-map, with_items_is}
use Rattle.std.specs.Vec.{with_items}
use Rattle.fy_locality.specs.declared.locality.Locality.{Locality}
use Rattle.fy_locality.specs.declared.ProcId.{ProcId}
use Rattle.fy_policy.specs.Counted.{Tallied}
use Rattle.fy_policy.specs.Laws.{TestIsSatisfaction}
use Rattle.fy_policy.specs.Sat.{satisfies}
use Rattle.fy_policy.specs.Tree.{Tree}
use Rattle.fy_decide.specs.declared.dead_book.Loss.{Loss}
use Rattle.fy_decide.specs.declared.dead_book.Loss.TheVariants.{Emptied, Gone}
use Rattle.fy_decide.specs.DeadBook.{Losses, MayLose, may_lose}
use Rattle.fy_decide.specs.Safety.{AreShort, AreSatisfied, all_short, all_satisfied, first_satisfied, first_short, with_set, without_set}
use Rattle.fy_decide.specs.Tallies.{tallied, with_all, without_all}
use Rattle.fy_decide.proofs.Deciding.{union_is, difference_is}

-- ---- a set that is gone through
pub len-smaller : (s : sets.FinSet nat_cmp) (p : ℕ) → sets.contains s p ≡ true → sets.len (sets.remove s p) < sets.len s
len-smaller s p there = less _ _ (sets.len-remove nat_cmp_total s p ∙ ap (λ b. cond b (sets.len s - 1) (sets.len s)) there) (λ none. true≢false (sym there ∙ ap (λ t. sets.contains t p) (sets.empty_of_len s none) ∙ sets.contains-empty nat_cmp p))
  where
    less : (m n : ℕ) → m ≡ n - 1 → (n ≡ 0 → ⊥) → m < n
    less m zero e ne = absurd (ne refl)
    less m (suc n) e ne = omega arith

contains-removed : (s : sets.FinSet nat_cmp) (p q : ℕ) → sets.contains (sets.remove s p) q ≡ (not (eqb q p) && sets.contains s q)
contains-removed s p q = sets.contains-remove nat_cmp_total s p q ∙ ap (λ b. not b && sets.contains s q) (unsigned_tied q p)

same : (s t : sets.FinSet nat_cmp) → ((q : ℕ) → sets.contains s q ≡ sets.contains t q) → s ≡ t
same s t each = sets.same_set nat_cmp_total sets.nat_cmp-IsAntisymmetric s t each

-- where p is still to go, it stands in the rest
moved : (a r : Bool) (e : Bool) → (e ≡ true → r ≡ true) → ((e || a) || (not e && r)) ≡ (a || r)
moved a r true h = sym (ap (λ b. a || b) (h refl) ∙ either a)
  where
    either : (a : Bool) → (a || true) ≡ true
    either true = refl
    either false = refl
moved a r false h = refl

taken : (a r : Bool) (e : Bool) → (e ≡ true → r ≡ true) → ((not e && a) && not (not e && r)) ≡ (a && not r)
taken a r true h = sym (ap (λ b. a && not b) (h refl) ∙ neither a)
  where
    neither : (a : Bool) → (a && false) ≡ false
    neither true = refl
    neither false = refl
taken a r false h = refl

-- those put in already, with the rest, are all
pub put-next : (now rest all : sets.FinSet nat_cmp) (p : ℕ) → sets.contains rest p ≡ true → sets.union now rest ≡ all → sets.union (sets.insert now p) (sets.remove rest p) ≡ all
put-next now rest all p there is = same _ _ (λ q.
    sets.contains-union nat_cmp_total (sets.insert now p) (sets.remove rest p) q
    ∙ (λ i. (sets.contains-insert nat_cmp_total now p q ∙ ap (λ b. b || sets.contains now q) (unsigned_tied q p)) i || contains-removed rest p q i)
    ∙ moved (sets.contains now q) (sets.contains rest q) (eqb q p) (λ e. ap (sets.contains rest) (equal q p e) ∙ there)
    ∙ sym (sets.contains-union nat_cmp_total now rest q)) ∙ is
  where
    equal : (a b : ℕ) → eqb a b ≡ true → a ≡ b
    equal a b e = grind (arith, nat_tests)

pub drop-next : (now rest all : sets.FinSet nat_cmp) (p : ℕ) → sets.contains rest p ≡ true → sets.difference now rest ≡ all → sets.difference (sets.remove now p) (sets.remove rest p) ≡ all
drop-next now rest all p there is = same _ _ (λ q.
    sets.contains-difference nat_cmp_total (sets.remove now p) (sets.remove rest p) q
    ∙ (λ i. contains-removed now p q i && not (contains-removed rest p q i))
    ∙ taken (sets.contains now q) (sets.contains rest q) (eqb q p) (λ e. ap (sets.contains rest) (equal q p e) ∙ there)
    ∙ sym (sets.contains-difference nat_cmp_total now rest q)) ∙ is
  where
    equal : (a b : ℕ) → eqb a b ≡ true → a ≡ b
    equal a b e = grind (arith, nat_tests)

pub put-last : (now rest all : sets.FinSet nat_cmp) → rest ≡ sets.empty → sets.union now rest ≡ all → now ≡ all
put-last now rest all none is = same _ _ (λ q. sym (sets.contains-union nat_cmp_total now rest q ∙ ap (λ t. sets.contains now q || sets.contains t q) none ∙ ap (λ b. sets.contains now q || b) (sets.contains-empty nat_cmp q) ∙ alone (sets.contains now q))) ∙ is
  where
    alone : (a : Bool) → (a || false) ≡ a
    alone true = refl
    alone false = refl

pub drop-last : (now rest all : sets.FinSet nat_cmp) → rest ≡ sets.empty → sets.difference now rest ≡ all → now ≡ all
drop-last now rest all none is = same _ _ (λ q. sym (sets.contains-difference nat_cmp_total now rest q ∙ ap (λ t. sets.contains now q && not (sets.contains t q)) none ∙ ap (λ b. sets.contains now q && not b) (sets.contains-empty nat_cmp q) ∙ alone (sets.contains now q))) ∙ is
  where
    alone : (a : Bool) → (a && true) ≡ a
    alone true = refl
    alone false = refl

pub no_least : (o : Option ProcId) (s : sets.FinSet nat_cmp) → IfNone o (s ≡ sets.empty) → ((p : ProcId) → o ≡ Some p → ⊥) → s ≡ sets.empty
no_least None s none not = none
no_least (Some p) s none not = absurd (not p refl)

-- a set put into the empty one
pub put-in-none : (none s : sets.FinSet nat_cmp) → none ≡ sets.empty → sets.union none s ≡ s
put-in-none none s vacant = same _ _ (λ q. sets.contains-union nat_cmp_total none s q ∙ ap (λ t. sets.contains t q || sets.contains s q) vacant ∙ ap (λ b. b || sets.contains s q) (sets.contains-empty nat_cmp q))

-- without the one process
pub without-one : (s none : sets.FinSet nat_cmp) (p : ℕ) → none ≡ sets.empty → sets.difference s (sets.insert none p) ≡ sets.remove s p
without-one s none p vacant = same _ _ (λ q.
    sets.contains-difference nat_cmp_total s (sets.insert none p) q
    ∙ ap (λ b. sets.contains s q && not b)
    (sets.contains-insert nat_cmp_total none p q ∙ ap (λ b. b || sets.contains none q) (unsigned_tied q p) ∙ ap (λ t. eqb q p || sets.contains t q) vacant ∙ ap (λ b. eqb q p || b) (sets.contains-empty nat_cmp q))
    ∙ swapped (sets.contains s q) (eqb q p)
    ∙ sym (contains-removed s p q))
  where
    swapped : (a b : Bool) → (a && not (b || false)) ≡ (not b && a)
    swapped true true = refl
    swapped true false = refl
    swapped false true = refl
    swapped false false = refl

-- ---- a list of which the first i items are mapped, and the next one is
mapped_next : {X : Type 0} (f : X → X) (xs : List X) (i : ℕ) (d : X) → i < length xs
    → (get_or (map f (take i xs) ++ drop i xs) i d ≡ get_or xs i d) × (set (map f (take i xs) ++ drop i xs) i (f (get_or xs i d)) ≡ map f (take (suc i) xs) ++ drop (suc i) xs)
mapped_next f [] i d within = absurd (omega arith)
mapped_next f (x ∷ xs) zero d within = (refl, refl)
mapped_next f (x ∷ xs) (suc i) d within = let later = mapped_next f xs i d (omega arith) in (later.0, ap (λ rest. f x ∷ rest) later.1)

pub mapped-next : {X : Type 0} (f : X → X) (xs ys : List X) (i : ℕ) (d : X) → i < length xs → ys ≡ map f (take i xs) ++ drop i xs → set ys i (f (get_or ys i d)) ≡ map f (take (suc i) xs) ++ drop (suc i) xs
mapped-next f xs ys i d within is =
    let next = mapped_next f xs i d within in
    ap (λ zs. set zs i (f (get_or zs i d))) is
    ∙ ap (λ x. set (map f (take i xs) ++ drop i xs) i (f x)) next.0
    ∙ next.1

pub mapped-all : {X : Type 0} (f : X → X) (xs : List X) (i : ℕ) → length xs ≤ i → map f (take i xs) ++ drop i xs ≡ map f xs
mapped-all f [] zero past = refl
mapped-all f [] (suc i) past = refl
mapped-all f (x ∷ xs) zero past = absurd (omega arith)
mapped-all f (x ∷ xs) (suc i) past = ap (λ rest. f x ∷ rest) (mapped-all f xs i (omega arith))

-- the next item's image is put behind those of the items before it
pub mapped-push : {X Y : Type 0} (f : X → Y) (xs : List X) (i : ℕ) (d : X) → i < length xs → map f (take i xs) ++ f (get_or xs i d) ∷ [] ≡ map f (take (suc i) xs)
mapped-push f [] i d within = absurd (omega arith)
mapped-push f (x ∷ xs) zero d within = refl
mapped-push f (x ∷ xs) (suc i) d within = ap (λ rest. f x ∷ rest) (mapped-push f xs i d (omega arith))

-- a list's items mapped in place
pub written-back : {X : Type 0} (v : Vec X Global) (old new : List X) (f : X → X) → new ≡ map f old → old ≡ v.items → (with_items v new).items ≡ map f v.items
written-back v old new f is same = with_items_is v new (ap length is ∙ length-map old f ∙ ap length same ∙ sym v.ok.0) ∙ is ∙ ap (map f) same

-- ---- the tallies of a set
module _ (processes : List Locality) where
  pub tallied-with : (policies : List Tree) (d s : sets.FinSet nat_cmp) → map (with_all s) (tallied processes policies d) ≡ tallied processes policies (sets.union d s)
  tallied-with [] d s = refl
  tallied-with (q ∷ qs) d s = ap (λ rest. record { processes = processes; policy = q; set = sets.union d s } ∷ rest) (tallied-with qs d s)

  pub tallied-without : (policies : List Tree) (d s : sets.FinSet nat_cmp) → map (without_all s) (tallied processes policies d) ≡ tallied processes policies (sets.difference d s)
  tallied-without [] d s = refl
  tallied-without (q ∷ qs) d s = ap (λ rest. record { processes = processes; policy = q; set = sets.difference d s } ∷ rest) (tallied-without qs d s)

position_or_len-map : {X Y : Type 0} (f : Y → Bool) (g : X → Y) (xs : List X) → position_or_len f (map g xs) ≡ position_or_len (λ x. f (g x)) xs
position_or_len-map f g [] = refl
position_or_len-map f g (x ∷ xs) = ap (λ n. cond (not (f (g x))) (1 + n) 0) (position_or_len-map f g xs)

position-map : {X Y : Type 0} (f : Y → Bool) (g : X → Y) (xs : List X) → position f (map g xs) ≡ position (λ x. f (g x)) xs
position-map f g xs = λ i. cond (ltb (position_or_len-map f g xs i) (length-map xs g i)) (Some (position_or_len-map f g xs i)) None

module _ (dead : Losses) (s : sets.FinSet nat_cmp) where
  pub first-with : (tallies : List Tallied) → tallies ≡ tallied dead.processes dead.policies dead.destroyed
      → position (λ t. satisfies t.processes t.policy (sets.contains (sets.union t.set s))) tallies ≡ first_satisfied dead.processes dead.policies (with_set (sets.contains dead.destroyed) (sets.contains s))
  first-with tallies are =
      ap (position (λ t. satisfies t.processes t.policy (sets.contains (sets.union t.set s)))) are
      ∙ position-map (λ t. satisfies t.processes t.policy (sets.contains (sets.union t.set s))) (λ P. record { processes = dead.processes; policy = P; set = dead.destroyed }) dead.policies
      ∙ ap (λ t. position (λ P. satisfies dead.processes P t) dead.policies) (union_is dead.destroyed s)

  pub first-without : (tallies : List Tallied) → tallies ≡ tallied dead.processes dead.policies dead.left
      → position (λ t. not (satisfies t.processes t.policy (sets.contains (sets.difference t.set s)))) tallies ≡ first_short dead.processes dead.policies (without_set (sets.contains dead.left) (sets.contains s))
  first-without tallies are =
      ap (position (λ t. not (satisfies t.processes t.policy (sets.contains (sets.difference t.set s))))) are
      ∙ position-map (λ t. not (satisfies t.processes t.policy (sets.contains (sets.difference t.set s)))) (λ P. record { processes = dead.processes; policy = P; set = dead.left }) dead.policies
      ∙ ap (λ t. position (λ P. not (satisfies dead.processes P t)) dead.policies) (difference_is dead.left s)

-- ---- whether a set may be lost, by what is found
found_from : {X : Type 0} (f : X → Bool) (i : ℕ) (xs : List X) → is_some (position_from f i xs) ≡ not (list_all (λ x. not (f x)) xs)
found_from f i [] = refl
found_from f i (x ∷ xs) = go (f x) (found_from f (i + 1) xs)
  where
    go : (b : Bool) → is_some (position_from f (i + 1) xs) ≡ not (list_all (λ y. not (f y)) xs) → is_some (cond b (Some i) (position_from f (i + 1) xs)) ≡ not (not b && list_all (λ y. not (f y)) xs)
    go true later = refl
    go false later = later

found : {X : Type 0} (f : X → Bool) (xs : List X) → is_some (position f xs) ≡ not (list_all (λ x. not (f x)) xs)
found f xs = ap is_some (position_from-zero f xs) ∙ found_from f 0 xs

pub not-not : (b : Bool) → not (not b) ≡ b
not-not true = refl
not-not false = refl

module _ (dead : Losses) (s : ℕ → Bool) where
  pub many_found : is_some (first_satisfied dead.processes dead.policies (with_set (sets.contains dead.destroyed) s)) ≡ not (all_short dead.processes dead.policies (with_set (sets.contains dead.destroyed) s))
  many_found = found (λ P. satisfies dead.processes P (with_set (sets.contains dead.destroyed) s)) dead.policies

  pub few_found : is_some (first_short dead.processes dead.policies (without_set (sets.contains dead.left) s)) ≡ not (all_satisfied dead.processes dead.policies (without_set (sets.contains dead.left) s))
  few_found =
      found (λ P. not (satisfies dead.processes P (without_set (sets.contains dead.left) s))) dead.policies
      ∙ (λ i. not (list_all (λ P. not-not (satisfies dead.processes P (without_set (sets.contains dead.left) s)) i) dead.policies))

  -- some policy is satisfied by the destroyed with the set
  pub refused : (loss : Loss) (many : Bool) → many ≡ not (all_short dead.processes dead.policies (with_set (sets.contains dead.destroyed) s)) → many ≡ true → false ≡ may_lose dead s loss
  refused loss many is passes = go loss
    where
      not-true : (b : Bool) → not b ≡ true → b ≡ false
      not-true true e = absurd (true≢false (sym e))
      not-true false e = refl

      fails : all_short dead.processes dead.policies (with_set (sets.contains dead.destroyed) s) ≡ false
      fails = not-true _ (sym is ∙ passes)

      go : (loss : Loss) → false ≡ may_lose dead s loss
      go Emptied = sym fails
      go Gone = sym (ap (λ b. b && all_satisfied dead.processes dead.policies (without_set (sets.contains dead.left) s)) fails)

  short : (many : Bool) → many ≡ not (all_short dead.processes dead.policies (with_set (sets.contains dead.destroyed) s)) → many ≡ false → all_short dead.processes dead.policies (with_set (sets.contains dead.destroyed) s) ≡ true
  short many is fail = sym (not-not _) ∙ ap not (sym is ∙ fail)

  pub emptied : (loss : Loss) (many : Bool) → loss ≡ Emptied → many ≡ not (all_short dead.processes dead.policies (with_set (sets.contains dead.destroyed) s)) → many ≡ false → true ≡ may_lose dead s loss
  emptied loss many by is fail = sym (ap (may_lose dead s) by ∙ short many is fail)

  pub gone : (loss : Loss) (many few : Bool) → loss ≡ Gone → many ≡ not (all_short dead.processes dead.policies (with_set (sets.contains dead.destroyed) s)) → many ≡ false
      → few ≡ not (all_satisfied dead.processes dead.policies (without_set (sets.contains dead.left) s)) → not few ≡ may_lose dead s loss
  gone loss many few by is fail left =
      ap not left ∙ not-not _
      ∙ sym (ap (may_lose dead s) by ∙ ap (λ b. b && all_satisfied dead.processes dead.policies (without_set (sets.contains dead.left) s)) (short many is fail))

-- the test is the relation, policy by policy
and-first : (a b : Bool) → (a && b) ≡ true → a ≡ true
and-first true b e = refl
and-first false b e = e

and-second : (a b : Bool) → (a && b) ≡ true → b ≡ true
and-second true b e = e
and-second false b e = absurd (true≢false (sym e))

and-both : (a b : Bool) → a ≡ true → b ≡ true → (a && b) ≡ true
and-both a b e f = ap (λ c. c && b) e ∙ f

fails : (A : Type 0) (b : Bool) → (b ≡ true) ↔ A → (not b ≡ true) ↔ (A → ⊥)
fails A true law = (λ e. absurd (true≢false (sym e)), λ none. absurd (none (law.0 refl)))
fails A false law = (λ e it. true≢false (sym (law.1 it)), λ none. refl)

pairs : (A B : Type 0) (a b : Bool) → (a ≡ true) ↔ A → (b ≡ true) ↔ B → ((a && b) ≡ true) ↔ (A × B)
pairs A B a b f g = (λ e. (f.0 (and-first a b e), g.0 (and-second a b e)), λ h. and-both a b (f.1 h.0) (g.1 h.1))

module _ (law : TestIsSatisfaction) where
  short-law : (processes : List Locality) (policies : List Tree) (s : ℕ → Bool) → (all_short processes policies s ≡ true) ↔ AreShort processes policies s
  short-law processes [] s = (λ e. tt, λ e. refl)
  short-law processes (q ∷ qs) s = pairs _ _ (not (satisfies processes q s)) (all_short processes qs s) (fails _ (satisfies processes q s) (law processes q s)) (short-law processes qs s)

  enough-law : (processes : List Locality) (policies : List Tree) (s : ℕ → Bool) → (all_satisfied processes policies s ≡ true) ↔ AreSatisfied processes policies s
  enough-law processes [] s = (λ e. tt, λ e. refl)
  enough-law processes (q ∷ qs) s = pairs _ _ (satisfies processes q s) (all_satisfied processes qs s) (law processes q s) (enough-law processes qs s)

  may-law : (dead : Losses) (s : ℕ → Bool) (loss : Loss) → (may_lose dead s loss ≡ true) ↔ MayLose dead s loss
  may-law dead s Emptied = short-law dead.processes dead.policies (with_set (sets.contains dead.destroyed) s)
  may-law dead s Gone = pairs _ _ _ _ (short-law dead.processes dead.policies (with_set (sets.contains dead.destroyed) s)) (enough-law dead.processes dead.policies (without_set (sets.contains dead.left) s))

  pub may-of-test : (dead : Losses) (s : ℕ → Bool) (loss : Loss) (answer : Bool) → answer ≡ may_lose dead s loss → (answer ≡ true) ↔ MayLose dead s loss
  may-of-test dead s loss answer is = (λ e. (may-law dead s loss).0 (sym is ∙ e), λ h. is ∙ (may-law dead s loss).1 h)

-- ---- the map of each of them
pub all_over : (processes : List Locality) (policies : List Tree) (s : sets.FinSet nat_cmp) (map_of : List Locality) (tallies : List Tallied) → map_of ≡ processes → tallies ≡ tallied processes policies s
    → All (λ (tally : Tallied). map_of ≡ tally.processes) tallies
all_over processes policies s map_of tallies same are =
    subst (All (λ (tally : Tallied). map_of ≡ tally.processes)) (sym are)
    (All-map (λ (tally : Tallied). map_of ≡ tally.processes) (λ P. record { processes = processes; policy = P; set = s }) policies (λ k d within. same))
