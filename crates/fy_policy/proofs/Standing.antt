-- counted trees whose counts are right
use Rattle.std.proofs.Common.{inl, inr, suc, ◌≡◌, ◌≢◌, ℕ, ◌+◌, ◌-◌, ◌<◌, ◌≤◌, Bool, true, false, true≢false, cond, leb, ltb, eqb, ◌&&◌, ◌||◌, not, List, [], ◌∷◌, Vec, Global, Box, length, filter, Option, Some, None, slice_index_or, refl, sym, ap, subst, ◌∙◌, arith}
use Rattle.std.specs.Prelude.{is_some}
use Rattle.std.specs.Vec.{with_items}
use Rattle.std.proofs.lemmas.List.{with_items_is}
use Rattle.std.specs.List.{filter_map, cons_option}
use Rattle.std.specs.Option.{option_eq}
use Rattle.std.specs.Str.{bytes_eq}
use Rattle.std.proofs.lemmas.Bool.{cases_eq}
use Rattle.std.proofs.lemmas.Bool.Decides.{nat_tests}
use Rattle.std.proofs.lemmas.Cmp.{nat_list_eq_equiv}
use Rattle.fy_locality.specs.declared.locality.Locality.{Locality}
use Rattle.fy_locality.specs.declared.key.Key.{Key}
use Rattle.fy_locality.specs.Locality.{has_value, value_of, value_in, values_of, first_seen}
use Rattle.fy_policy.specs.declared.node.Node.{Node, One, Across, Both, Across', Both'}
use Rattle.fy_policy.specs.Sat.{group, satisfies, all_satisfy}
use Rattle.fy_policy.specs.Tree.{Tree, one, across, every, Parts, none, part, IsWellFormed}
use Rattle.fy_policy.specs.Counted.{tree_of_node, number_of, passing, within, toggled, toggled_by, group_at, AreCounts, IsRecounted, recounted, AreCountersOf, IsBuiltFrom, IsTallied, CanToggle, HasGroups}
use Rattle.std.specs.Ordering.{nat_cmp}
use Rattle.std.specs.FinSet as sets
use Rattle.std.specs.Cmp.{nat_cmp_total, unsigned_tied}
use Rattle.fy_policy.proofs.Tests.{ValuesDiffer, ValuesOccur}
use Rattle.fy_policy.proofs.Tallied.{one-number, same_below, number-le, number-toggled, passing-toggled, passing-keyless'}

-- ---- what a node answers
module _ (processes : List Locality) (at : ℕ → ℕ) (s : ℕ → Bool) (node : Node) where
  pub is_satisfied_at-one : (counts : Vec ℕ Global) (g : ℕ) → node ≡ One counts → AreCountersOf processes at s node → g ≤ length processes → (count : ℕ) → count ≡ slice_index_or counts.items g 0
      → ltb 0 count ≡ satisfies processes (tree_of_node node) (within processes at g s)
  unfolding AreCountersOf
  is_satisfied_at-one counts g is right inside count read =
      let r : AreCountersOf processes at s (One counts) = subst (AreCountersOf processes at s) is right in
      ap (ltb 0) (read ∙ r.each g inside)
      ∙ one-number processes (within processes at g s)
      ∙ ap (λ n. satisfies processes (tree_of_node n) (within processes at g s)) (sym is)

  pub is_satisfied_at-across : (wanted : ℕ) (key : Key) (places counts : Vec ℕ Global) (inner : Box Node Global) (g : ℕ) → node ≡ Across wanted key places counts inner → AreCountersOf processes at s node → g ≤ length processes → (count : ℕ) → count ≡ slice_index_or counts.items g 0
      → leb wanted count ≡ satisfies processes (tree_of_node node) (within processes at g s)
  unfolding AreCountersOf satisfies
  is_satisfied_at-across wanted key places counts inner g is right inside count read =
      let r : AreCountersOf processes at s (Across wanted key places counts inner) = subst (AreCountersOf processes at s) is right in
      ap (leb wanted) (read ∙ r.0.each g inside)
      ∙ ap (λ n. satisfies processes (tree_of_node n) (within processes at g s)) (sym is)

  pub both : (first second : Box Node Global) → node ≡ Both first second → AreCountersOf processes at s node → AreCountersOf processes at s first.value × AreCountersOf processes at s second.value
  unfolding AreCountersOf
  both first second is right = subst (AreCountersOf processes at s) is right

  and-true : (a b : Bool) → (a && (b && true)) ≡ (a && b)
  and-true true true = refl
  and-true true false = refl
  and-true false b = refl

  pub is_satisfied_at-both : (first second : Box Node Global) (g : ℕ) → node ≡ Both first second → satisfies processes (tree_of_node node) (within processes at g s) ≡ (satisfies processes (tree_of_node first.value) (within processes at g s) && satisfies processes (tree_of_node second.value) (within processes at g s))
  unfolding satisfies
  is_satisfied_at-both first second g is = ap (λ n. satisfies processes (tree_of_node n) (within processes at g s)) is ∙ and-true _ _

pub and-yes : (a b c d : Bool) → a ≡ c → a ≡ true → b ≡ d → b ≡ (c && d)
and-yes true b true d e h f = f
and-yes true b false d e h f = absurd (let x : ⊥ = cc in x)
and-yes false b c d e h f = absurd (let x : ⊥ = cc in x)

pub and-no : (a c d : Bool) → a ≡ c → a ≡ false → a ≡ (c && d)
and-no true c d e h = absurd (let x : ⊥ = cc in x)
and-no false true d e h = absurd (let x : ⊥ = cc in x)
and-no false false d e h = refl

-- what was read of the node below, at the group that the list gives
pub read-below : (processes : List Locality) (at : ℕ → ℕ) (s : ℕ → Bool) (a b : Node) (g h : ℕ) (answer : Bool)
    → ((processes : List Locality) (at : ℕ → ℕ) (s : ℕ → Bool) → AreCountersOf processes at s a → g ≤ length processes → answer ≡ satisfies processes (tree_of_node a) (within processes at g s))
    → a ≡ b → g ≡ h → AreCountersOf processes at s b → h ≤ length processes → answer ≡ satisfies processes (tree_of_node b) (within processes at h s)
read-below processes at s a b g h answer reads same place right inside =
    reads processes at s (subst (AreCountersOf processes at s) (sym same) right) (subst (λ k. k ≤ length processes) (sym place) inside)
    ∙ ap (λ n. satisfies processes (tree_of_node n) (within processes at g s)) same
    ∙ ap (λ k. satisfies processes (tree_of_node b) (within processes at k s)) place

-- the counts of a node written back
pub recounted-in : (v : Vec ℕ Global) (old new : List ℕ) (g : ℕ) (before after : Bool) → old ≡ v.items → IsRecounted old g before after new → IsRecounted v.items g before after (with_items v new).items
recounted-in v old new g before after is change =
    subst (IsRecounted v.items g before after) (sym (with_items_is v new (change.wide ∙ ap length is ∙ sym v.ok.0)))
    (subst (λ xs. IsRecounted xs g before after new) is change)

-- ---- there are no more values than processes
le-suc : (a b : ℕ) → a ≤ b → a ≤ suc b
le-suc a b h = omega arith

suc-le : (a b : ℕ) → a ≤ b → suc a ≤ suc b
suc-le a b h = omega arith

le-le : (a b c : ℕ) → a ≤ b → b ≤ c → a ≤ c
le-le a b c h k = omega arith

filter-le : {X : Type 0} (f : X → Bool) (xs : List X) → length (filter f xs) ≤ length xs
filter-le f [] = omega arith
filter-le f (x ∷ xs) = elim (f x) as (λ b. length (cond b (x ∷ filter f xs) (filter f xs)) ≤ suc (length xs)) [ true ↦ suc-le _ _ (filter-le f xs) | false ↦ le-suc _ _ (filter-le f xs) ]

first_seen-le : (xs : List (List ℕ)) → length (first_seen xs) ≤ length xs
first_seen-le [] = omega arith
first_seen-le (x ∷ xs) = suc-le _ _ (le-le _ _ _ (filter-le (λ y. not (bytes_eq x y)) (first_seen xs)) (first_seen-le xs))

cons_option-le : {Y : Type 0} (o : Option Y) (ys : List Y) (n : ℕ) → length ys ≤ n → length (cons_option o ys) ≤ suc n
cons_option-le None ys n h = le-suc _ _ h
cons_option-le (Some y) ys n h = suc-le _ _ h

filter_map-le : {X Y : Type 0} (f : X → Option Y) (xs : List X) → length (filter_map f xs) ≤ length xs
filter_map-le f [] = omega arith
filter_map-le f (x ∷ xs) = cons_option-le (f x) (filter_map f xs) (length xs) (filter_map-le f xs)

pub passing-le : (processes : List Locality) (key : Key) (q : Tree) (s : ℕ → Bool) → passing processes key q s ≤ length processes
unfolding values_of
passing-le processes key q s = le-le _ _ _ (filter-le _ (values_of processes key)) (le-le _ _ _ (first_seen-le (filter_map (value_in key) processes)) (filter_map-le (value_in key) processes))

-- ---- one process joins or goes
pub as_sum : (old new : ℕ) (before after : Bool) → (old < 2147483648 → new ≡ recounted old before after) → old < 2147483648 → cond before 1 0 ≤ old + cond after 1 0 → new + cond before 1 0 ≡ old + cond after 1 0
as_sum old new before after is small room = sums old new (cond before 1 0) (cond after 1 0) (is small) room
  where
    sums : (old new b a : ℕ) → new ≡ old + a - b → b ≤ old + a → new + b ≡ old + a
    sums old new b a e h = omega arith

pub counts-toggled : (processes : List Locality) (old new : List ℕ) (f f' : ℕ → ℕ) (g : ℕ) (before after : Bool) → length processes ≤ 1024 → AreCounts processes old f → IsRecounted old g before after new → g ≤ length processes → f g ≤ length processes
    → f' g + cond before 1 0 ≡ f g + cond after 1 0 → ((i : ℕ) → i ≢ g → f' i ≡ f i) → AreCounts processes new f'
counts-toggled processes old new f f' g before after few counts change inside low sum others = record {
  wide = change.wide ∙ counts.wide;
  each = λ i within. elim (cases_eq i g) [
    | inl here ↦ ap (λ j. slice_index_or new j 0) here ∙ same _ _ _ _ _ _ (counts.each g inside) (as_sum _ _ before after change.here (small _ _ _ (counts.each g inside) low few) (room _ _ _ _ _ (counts.each g inside) sum)) sum ∙ ap f' (sym here)
    | inr other ↦ change.others i other ∙ counts.each i within ∙ sym (others i other)
  ];
}
  where
    small : (x y m : ℕ) → x ≡ y → y ≤ m → m ≤ 1024 → x < 2147483648
    small x y m e h k = omega arith

    room : (x y z b a : ℕ) → x ≡ y → z + b ≡ y + a → b ≤ x + a
    room x y z b a e h = omega arith

    same : (x y n z b a : ℕ) → x ≡ y → n + b ≡ x + a → z + b ≡ y + a → n ≡ z
    same x y n z b a e h k = omega arith

module _ (processes : List Locality) (at : ℕ → ℕ) (s : ℕ → Bool) (p : ℕ) (joins : Bool) where
  pub within-apart : (g q : ℕ) → q ≢ p → within processes at g s q ≡ within processes at g (toggled s p joins) q
  within-apart g q apart = keep q p (ltb q (length processes)) (eqb (at q) g) (s q) joins apart
    where
      keep : (q p : ℕ) (a b c d : Bool) → q ≢ p → (a && (b && c)) ≡ (a && (b && cond (eqb q p) d c))
      keep q p a b c d ne = grind (arith, nat_tests)

  within-other : (g : ℕ) → at p ≢ g → within processes at g s ≡ within processes at g (toggled s p joins)
  within-other g other = λ i q. each q i
    where
      lost : (u g : ℕ) (a c d : Bool) → u ≢ g → (a && (eqb u g && c)) ≡ (a && (eqb u g && d))
      lost u g a c d ne = grind (arith, nat_tests)

      each : (q : ℕ) → within processes at g s q ≡ within processes at g (toggled s p joins) q
      each q = elim (cases_eq q p) [
        | inl here ↦ lost (at q) g (ltb q (length processes)) (s q) (toggled s p joins q) (λ e. other (ap at (sym here) ∙ e))
        | inr apart ↦ within-apart g q apart
      ]

  module _ (g : ℕ) (few : length processes ≤ 1024) (small : p < length processes) (here : at p ≡ g) (inside : g ≤ length processes) (was : s p ≡ not joins) where
    pub its-own : (t : ℕ → Bool) (b : Bool) → t p ≡ b → within processes at g t p ≡ b
    its-own t b e = own p (length processes) (at p) g (t p) b small here e
      where
        own : (p n u g : ℕ) (c b : Bool) → p < n → u ≡ g → c ≡ b → (ltb p n && (eqb u g && c)) ≡ b
        own p n u g c b h e f = grind (arith, nat_tests)

    pub now-is : toggled s p joins p ≡ joins
    now-is = itself p joins (s p)
      where
        itself : (p : ℕ) (a b : Bool) → cond (eqb p p) a b ≡ a
        itself p a b = grind (arith, nat_tests)

    pub one-toggled : (node : Node) (counts counts' : Vec ℕ Global) → node ≡ One counts → AreCountersOf processes at s node → IsRecounted counts.items g (not joins) joins counts'.items → AreCountersOf processes at (toggled s p joins) (One counts')
    unfolding AreCountersOf
    one-toggled node counts counts' is right change =
        let r : AreCountersOf processes at s (One counts) = subst (AreCountersOf processes at s) is right in
        counts-toggled processes counts.items counts'.items _ (λ i. number_of (within processes at i (toggled s p joins)) (length processes)) g (not joins) joins few r change inside (number-le _ _)
        (ap (λ b. number_of (within processes at g (toggled s p joins)) (length processes) + cond b 1 0) (sym (its-own s (not joins) was))
        ∙ number-toggled (within processes at g s) (within processes at g (toggled s p joins)) (length processes) p small (λ q apart. within-apart g q apart)
        ∙ ap (λ b. number_of (within processes at g s) (length processes) + cond b 1 0) (its-own (toggled s p joins) joins now-is))
        (λ i other. ap (λ t. number_of t (length processes)) (sym (within-other i (λ e. other (sym e ∙ here)))))

    module _ (node : Node) (wanted : ℕ) (key : Key) (places counts : Vec ℕ Global) (inner : Box Node Global) (is : node ≡ Across wanted key places counts inner) (right : AreCountersOf processes at s node) where
      r : AreCountersOf processes at s (Across wanted key places counts inner)
      r = subst (AreCountersOf processes at s) is right

      pub inner-right : AreCountersOf processes (group_at places.items) s inner.value
      unfolding AreCountersOf
      inner-right = r.3

      pub place-fits : group_at places.items p ≤ length processes
      unfolding AreCountersOf
      place-fits = r.2.fits p small

      -- the process has a value of the key
      pub regroup : (v : List ℕ) → value_of processes key p ≡ Some v → (t : ℕ → Bool) → group processes key v (within processes at g t) ≡ within processes (group_at places.items) (group_at places.items p) t
      unfolding AreCountersOf
      regroup v has t = λ i q. each q (ltb q (length processes)) refl i
        where
          below : (q : ℕ) → ltb q (length processes) ≡ true → q < length processes
          below q e = grind (arith, nat_tests)

          mix : (x y z w : Bool) → x ≡ (y && z) → ((true && (y && w)) && z) ≡ (true && (x && w))
          mix x y z w e = grind arith

          each : (q : ℕ) (b : Bool) → ltb q (length processes) ≡ b → group processes key v (within processes at g t) q ≡ within processes (group_at places.items) (group_at places.items p) t q
          each q true e =
              ap (λ b. (b && (eqb (at q) g && t q)) && has_value processes key v q) e
              ∙ mix _ _ _ _ (r.2.same p q v small (below q e) has ∙ ap (λ u. eqb (at q) u && has_value processes key v q) here)
              ∙ ap (λ b. b && (eqb (group_at places.items q) (group_at places.items p) && t q)) (sym e)
          each q false e = ap (λ b. (b && (eqb (at q) g && t q)) && has_value processes key v q) e ∙ ap (λ b. b && (eqb (group_at places.items q) (group_at places.items p) && t q)) (sym e)

      pub across-toggled : ValuesDiffer → ValuesOccur → (counts' : Vec ℕ Global) (inner' : Box Node Global) (before after : Bool) → is_some (value_of processes key p) ≡ true
          → before ≡ satisfies processes (tree_of_node inner.value) (within processes (group_at places.items) (group_at places.items p) s)
          → after ≡ satisfies processes (tree_of_node inner'.value) (within processes (group_at places.items) (group_at places.items p) (toggled s p joins))
          → tree_of_node inner'.value ≡ tree_of_node inner.value → AreCountersOf processes (group_at places.items) (toggled s p joins) inner'.value
          → IsRecounted counts.items g before after counts'.items → AreCountersOf processes at (toggled s p joins) (Across wanted key places counts' inner')
      unfolding AreCountersOf
      across-toggled differ occur counts' inner' before after some b a same right' change = go (value_of processes key p) refl some
        where
          s' : ℕ → Bool
          s' = toggled s p joins

          q : Tree
          q = tree_of_node inner.value

          go : (o : Option (List ℕ)) → value_of processes key p ≡ o → is_some o ≡ true → AreCountersOf processes at (toggled s p joins) (Across wanted key places counts' inner')
          go None e h = absurd (true≢false (sym h))
          go (Some v) has h =
              let itself : has_value processes key v p ≡ true = ap (λ o. option_eq bytes_eq o (Some v)) has ∙ nat_list_eq_equiv.refl v in
              let sum : passing processes key (tree_of_node inner.value) (within processes at g (toggled s p joins)) + cond before 1 0 ≡ passing processes key (tree_of_node inner.value) (within processes at g s) + cond after 1 0 =
              ap (λ b. passing processes key (tree_of_node inner.value) (within processes at g (toggled s p joins)) + cond b 1 0) (b ∙ ap (satisfies processes (tree_of_node inner.value)) (sym (regroup v has s)))
              ∙ passing-toggled processes key (tree_of_node inner.value) differ occur r.1 (within processes at g s) (within processes at g (toggled s p joins)) p v has (λ x lacks. within-apart g x (λ e. true≢false (sym itself ∙ ap (has_value processes key v) (sym e) ∙ lacks)))
              ∙ ap (λ b. passing processes key (tree_of_node inner.value) (within processes at g s) + cond b 1 0) (ap (satisfies processes (tree_of_node inner.value)) (regroup v has (toggled s p joins)) ∙ ap (λ u. satisfies processes u (within processes (group_at places.items) (group_at places.items p) (toggled s p joins))) (sym same) ∙ sym a) in (
                counts-toggled processes counts.items counts'.items _ (λ i. passing processes key (tree_of_node inner'.value) (within processes at i (toggled s p joins))) g before after few r.0 change inside (passing-le processes key _ _)
                    (ap (λ u. passing processes key u (within processes at g (toggled s p joins)) + cond before 1 0) same ∙ sum)
                    (λ i other. (λ j. passing processes key (same j) (sym (within-other i (λ e. other (sym e ∙ here))) j))),
                subst IsWellFormed (sym same) r.1,
                r.2,
                right',
              )

      pub across-keyless : (inner' : Box Node Global) → is_some (value_of processes key p) ≡ false → tree_of_node inner'.value ≡ tree_of_node inner.value → AreCountersOf processes (group_at places.items) (toggled s p joins) inner'.value
          → AreCountersOf processes at (toggled s p joins) (Across wanted key places counts inner')
      unfolding AreCountersOf
      across-keyless inner' lacks same right' = (
        record {
          wide = r.0.wide;
          each = λ i within'. r.0.each i within' ∙ alike i ∙ ap (λ u. passing processes key u (within processes at i (toggled s p joins))) (sym same);
        },
        subst IsWellFormed (sym same) r.1,
        r.2,
        right',
      )
        where
          without : (o : Option (List ℕ)) → is_some o ≡ false → o ≡ None
          without None e = refl
          without (Some v) e = absurd (true≢false e)

          alike : (i : ℕ) → passing processes key (tree_of_node inner.value) (within processes at i s) ≡ passing processes key (tree_of_node inner.value) (within processes at i (toggled s p joins))
          alike i = passing-keyless' processes key (tree_of_node inner.value) (within processes at i s) (within processes at i (toggled s p joins)) p (without _ lacks) (λ x apart. within-apart i x apart)

pub both-right : (processes : List Locality) (at : ℕ → ℕ) (s : ℕ → Bool) (first second : Box Node Global) → AreCountersOf processes at s first.value → AreCountersOf processes at s second.value → AreCountersOf processes at s (Both first second)
unfolding AreCountersOf
both-right processes at s first second a b = (a, b)

-- ---- lists of groups
-- ---- the one group of the root has every process
know : (a b h : Bool) → ((a && (true && b)) && h) ≡ (a && (true && (b && h)))
know true b h = refl
know false b h = refl

mutual
  unfolding satisfies

  pub root-same : (processes : List Locality) (q : Tree) (s : ℕ → Bool) → satisfies processes q (within processes (λ _. 0) 0 s) ≡ satisfies processes q s
  root-same processes one s =
      sym (one-number processes (within processes (λ _. 0) 0 s))
      ∙ ap (ltb 0) (same_below (within processes (λ _. 0) 0 s) s (length processes) (λ x h. inside x (length processes) (s x) h))
      ∙ one-number processes s
    where
      inside : (x n : ℕ) (b : Bool) → x < n → (ltb x n && (true && b)) ≡ b
      inside x n b h = grind (arith, nat_tests)
  root-same processes (across n key q) s =
      λ i. leb n (length (filter (λ v. ((λ j. satisfies processes q (λ x. know (ltb x (length processes)) (s x) (has_value processes key v x) j)) ∙ root-same processes q (group processes key v s)) i) (values_of processes key)))
  root-same processes (every qs) s = root-all processes qs s

  root-all : (processes : List Locality) (qs : Parts) (s : ℕ → Bool) → all_satisfy processes qs (within processes (λ _. 0) 0 s) ≡ all_satisfy processes qs s
  root-all processes none s = refl
  root-all processes (part q qs) s = λ i. root-same processes q s i && root-all processes qs s i

-- ---- a tally begins with nobody
pub tallied-first : (processes m : List Locality) (policy p tree : Tree) (all set : sets.FinSet nat_cmp) (places : List ℕ) (node : Node) → m ≡ processes → p ≡ policy → tree ≡ policy → set ≡ sets.empty → ((i : ℕ) → slice_index_or places i 0 ≡ 0) → length processes ≤ 1024
    → ((q : ℕ) → sets.contains all q ≡ ltb q (length processes)) → IsBuiltFrom processes (group_at places) tree node → IsTallied m all p set node
tallied-first processes m policy p tree all set places node map_is policy_is tree_is vacant zeros few whole build_counters =
    subst (λ x. IsTallied x all p set node) (sym map_is)
    (subst (λ x. IsTallied processes all x set node) (tree_is ∙ sym policy_is)
    (record {
      few = few;
      everyone = whole;
      same = build_counters.same;
      groups = build_counters.groups;
      right =
          subst (λ s. AreCountersOf processes (λ _. 0) s node) (λ i q. nobody q i)
          (subst (λ at. AreCountersOf processes at (λ _. false) node) (λ i q. zeros q i) build_counters.right);
    }))
  where
    nobody : (q : ℕ) → false ≡ sets.contains set q
    nobody q = sym (ap (λ s. sets.contains s q) vacant ∙ sets.contains-empty nat_cmp q)

-- ---- what a tree counts are processes of the map alone
within-alike : (processes : List Locality) (at : ℕ → ℕ) (s t : ℕ → Bool) → ((x : ℕ) → x < length processes → s x ≡ t x) → (g : ℕ) → within processes at g s ≡ within processes at g t
within-alike processes at s t alike g = λ i x. go x (ltb x (length processes)) refl i
  where
    below : (x : ℕ) → ltb x (length processes) ≡ true → x < length processes
    below x e = grind (arith, nat_tests)

    go : (x : ℕ) (b : Bool) → ltb x (length processes) ≡ b → within processes at g s x ≡ within processes at g t x
    go x true e = ap (λ b. ltb x (length processes) && (eqb (at x) g && b)) (alike x (below x e))
    go x false e = ap (λ b. b && (eqb (at x) g && s x)) e ∙ sym (ap (λ b. b && (eqb (at x) g && t x)) e)

pub right-alike : (processes : List Locality) (at : ℕ → ℕ) (s t : ℕ → Bool) → ((x : ℕ) → x < length processes → s x ≡ t x) → (node : Node) → AreCountersOf processes at s node → AreCountersOf processes at t node
unfolding AreCountersOf
right-alike processes at s t alike (One counts) h = record { wide = h.wide; each = λ g inside. h.each g inside ∙ ap (λ u. number_of u (length processes)) (within-alike processes at s t alike g) }
right-alike processes at s t alike (Across' n key places counts ptr inner) h = (
  record { wide = h.0.wide; each = λ g inside. h.0.each g inside ∙ ap (passing processes key (tree_of_node inner)) (within-alike processes at s t alike g) },
  h.1,
  h.2,
  right-alike processes (group_at places.items) s t alike inner h.3,
)
right-alike processes at s t alike (Both' p a q b) h = (right-alike processes at s t alike a h.0, right-alike processes at s t alike b h.1)

pub toggled-put : (set : sets.FinSet nat_cmp) (p x : ℕ) → toggled (sets.contains set) p true x ≡ sets.contains (sets.insert set p) x
toggled-put set p x = put (eqb x p) (sets.contains set x) ∙ sym (sets.contains-insert nat_cmp_total set p x ∙ ap (λ b. b || sets.contains set x) (unsigned_tied x p))
  where
    put : (a b : Bool) → cond a true b ≡ (a || b)
    put true b = refl
    put false b = refl

pub toggled-dropped : (set : sets.FinSet nat_cmp) (p x : ℕ) → toggled (sets.contains set) p false x ≡ sets.contains (sets.remove set p) x
toggled-dropped set p x = drop (eqb x p) (sets.contains set x) ∙ sym (sets.contains-remove nat_cmp_total set p x ∙ ap (λ b. not b && sets.contains set x) (unsigned_tied x p))
  where
    drop : (a b : Bool) → cond a false b ≡ (not a && b)
    drop true b = refl
    drop false b = refl

-- the set after a process came or went, with its counts
pub tallied-toggled : (processes : List Locality) (all : sets.FinSet nat_cmp) (policy : Tree) (set set' : sets.FinSet nat_cmp) (node node' : Node) (p : ℕ) (joins : Bool) → IsTallied processes all policy set node → HasGroups (length processes) node' → tree_of_node node' ≡ tree_of_node node → AreCountersOf processes (λ _. 0) (toggled (sets.contains set) p joins) node'
    → ((x : ℕ) → toggled (sets.contains set) p joins x ≡ sets.contains set' x) → IsTallied processes all policy set' node'
tallied-toggled processes all policy set set' node node' p joins was groups same right is = record {
  few = was.few;
  everyone = was.everyone;
  same = λ s. ap (λ t. satisfies processes t s) same ∙ was.same s;
  groups = groups;
  right = right-alike processes (λ _. 0) (toggled (sets.contains set) p joins) (sets.contains set') (λ x _. is x) node' right;
}

-- a process that was there, or is none of the map, turns none of the map
pub unturned : (set : sets.FinSet nat_cmp) (p n : ℕ) (joins : Bool) → (p < n → sets.contains set p ≡ joins) → (x : ℕ) → x < n → sets.contains set x ≡ toggled (sets.contains set) p joins x
unturned set p n joins there x small = elim (cases_eq x p) [ inl here ↦ kept x p joins (sets.contains set x) here (ap (sets.contains set) here ∙ there (moved x p n here small)) | inr other ↦ left x p joins (sets.contains set x) other ]
  where
    moved : (x p n : ℕ) → x ≡ p → x < n → p < n
    moved x p n e h = omega arith

    kept : (x p : ℕ) (c b : Bool) → x ≡ p → b ≡ c → b ≡ cond (eqb x p) c b
    kept x p c b e f = grind (arith, nat_tests)

    left : (x p : ℕ) (c b : Bool) → x ≢ p → b ≡ cond (eqb x p) c b
    left x p c b ne = grind (arith, nat_tests)

-- nothing was counted: the process was there, or is none of the map
pub tallied-kept : (processes : List Locality) (all : sets.FinSet nat_cmp) (policy : Tree) (set set' : sets.FinSet nat_cmp) (node : Node) (p : ℕ) (joins : Bool) → IsTallied processes all policy set node → ((x : ℕ) → toggled (sets.contains set) p joins x ≡ sets.contains set' x)
    → (p < length processes → sets.contains set p ≡ joins) → IsTallied processes all policy set' node
tallied-kept processes all policy set set' node p joins was is there = record {
  few = was.few;
  everyone = was.everyone;
  same = was.same;
  groups = was.groups;
  right = right-alike processes (λ _. 0) (sets.contains set) (sets.contains set') (λ x small. unturned set p (length processes) joins there x small ∙ is x) node was.right;
}

pub came : (all has here : Bool) (p n : ℕ) → (all && not has) ≡ true → all ≡ ltb p n → has ≡ here → (here ≡ false) × (p < n)
came true true here p n e f g = absurd (true≢false (sym e))
came true false here p n e f g = (sym g, below p n f)
  where
    below : (p n : ℕ) → true ≡ ltb p n → p < n
    below p n e = grind (arith, nat_tests)
came false has here p n e f g = absurd (true≢false (sym e))

pub stayed : (all has here : Bool) (p n : ℕ) → (all && not has) ≡ false → all ≡ ltb p n → has ≡ here → p < n → here ≡ true
stayed true true here p n e f g h = sym g
stayed true false here p n e f g h = absurd (true≢false e)
stayed false has here p n e f g h = absurd (past p n f h)
  where
    past : (p n : ℕ) → false ≡ ltb p n → p < n → ⊥
    past p n e h = grind (arith, nat_tests)

pub not-not : (b : Bool) → not (not b) ≡ b
not-not true = refl
not-not false = refl

-- ---- what a tree answers of a set that has these processes of the map
pub asked : (processes : List Locality) (all : sets.FinSet nat_cmp) (policy : Tree) (set : sets.FinSet nat_cmp) (node : Node) → IsTallied processes all policy set node
    → (s : ℕ → Bool) (answer : sets.FinSet nat_cmp) (result : Bool)
    → ((q : ℕ) → q < length processes → s q ≡ sets.contains answer q)
    → result ≡ satisfies processes (tree_of_node node) (within processes (λ _. 0) 0 s)
    → result ≡ satisfies processes policy (sets.contains answer)
asked processes all policy set node was s answer result alike is =
    is
    ∙ ap (satisfies processes (tree_of_node node)) (within-alike processes (λ _. 0) s (sets.contains answer) alike 0)
    ∙ was.same _
    ∙ root-same processes policy (sets.contains answer)

-- ---- the set with some, and without some
module _ (processes : List Locality) (all : sets.FinSet nat_cmp) (policy : Tree) (set given : sets.FinSet nat_cmp) (node : Node) (was : IsTallied processes all policy set node) where
  known : (q : ℕ) → sets.contains all q ≡ true → q < length processes
  known q e = low q (length processes) (sym (was.everyone q) ∙ e)
    where
      low : (q n : ℕ) → ltb q n ≡ true → q < n
      low q n e = grind (arith, nat_tests)

  present : (q : ℕ) → q < length processes → sets.contains all q ≡ true
  present q low = was.everyone q ∙ high q (length processes) low
    where
      high : (q n : ℕ) → q < n → ltb q n ≡ true
      high q n h = grind (arith, nat_tests)

  first : (a b c : Bool) → ((a && b) && c) ≡ true → b ≡ true
  first true b true e = and-first b true e
    where
      and-first : (a b : Bool) → (a && b) ≡ true → a ≡ true
      and-first true b e = refl
      and-first false b e = e
  first true true false e = refl
  first true false false e = e
  first false b c e = absurd (true≢false (sym e))

  last : (a b c : Bool) → ((a && b) && c) ≡ true → c ≡ true
  last true true c e = e
  last true false c e = absurd (true≢false (sym e))
  last false b c e = absurd (true≢false (sym e))

  of-not : (b : Bool) → not b ≡ true → b ≡ false
  of-not true e = absurd (true≢false (sym e))
  of-not false e = refl

  module _ (known_of comers : sets.FinSet nat_cmp) (cut : known_of ≡ sets.intersection given all) (is : comers ≡ sets.difference known_of set) where
    in-comers : (q : ℕ) → sets.contains comers q ≡ ((sets.contains given q && sets.contains all q) && not (sets.contains set q))
    in-comers q = ap (λ t. sets.contains t q) is ∙ sets.contains-difference nat_cmp_total known_of set q ∙ ap (λ b. b && not (sets.contains set q)) (ap (λ t. sets.contains t q) cut ∙ sets.contains-intersection nat_cmp_total given all q)

    pub comers-can : CanToggle processes (λ _. 0) 0 (sets.contains set) (sets.contains comers) true
    comers-can = record {
      known = λ q e. known q (first (sets.contains given q) (sets.contains all q) (not (sets.contains set q)) (sym (in-comers q) ∙ e));
      here = λ q e. refl;
      were = λ q e. of-not _ (last (sets.contains given q) (sets.contains all q) (not (sets.contains set q)) (sym (in-comers q) ∙ e));
    }

    pub with-comers : (result : Bool) → result ≡ satisfies processes (tree_of_node node) (within processes (λ _. 0) 0 (toggled_by (sets.contains set) (sets.contains comers) true))
        → result ≡ satisfies processes policy (sets.contains (sets.union set given))
    with-comers result e = asked processes all policy set node was (toggled_by (sets.contains set) (sets.contains comers) true) (sets.union set given) result (λ q low.
        ap (λ b. cond b true (sets.contains set q)) (in-comers q ∙ ap (λ b. (sets.contains given q && b) && not (sets.contains set q)) (present q low))
        ∙ joined (sets.contains given q) (sets.contains set q)
        ∙ sym (sets.contains-union nat_cmp_total set given q)) e
      where
        joined : (g s : Bool) → cond ((g && true) && not s) true s ≡ (s || g)
        joined true true = refl
        joined true false = refl
        joined false true = refl
        joined false false = refl

  module _ (known_of goers : sets.FinSet nat_cmp) (cut : known_of ≡ sets.intersection given all) (is : goers ≡ sets.intersection known_of set) where
    in-goers : (q : ℕ) → sets.contains goers q ≡ ((sets.contains given q && sets.contains all q) && sets.contains set q)
    in-goers q = ap (λ t. sets.contains t q) is ∙ sets.contains-intersection nat_cmp_total known_of set q ∙ ap (λ b. b && sets.contains set q) (ap (λ t. sets.contains t q) cut ∙ sets.contains-intersection nat_cmp_total given all q)

    pub goers-can : CanToggle processes (λ _. 0) 0 (sets.contains set) (sets.contains goers) false
    goers-can = record {
      known = λ q e. known q (first (sets.contains given q) (sets.contains all q) (sets.contains set q) (sym (in-goers q) ∙ e));
      here = λ q e. refl;
      were = λ q e. last (sets.contains given q) (sets.contains all q) (sets.contains set q) (sym (in-goers q) ∙ e);
    }

    pub without-goers : (result : Bool) → result ≡ satisfies processes (tree_of_node node) (within processes (λ _. 0) 0 (toggled_by (sets.contains set) (sets.contains goers) false))
        → result ≡ satisfies processes policy (sets.contains (sets.difference set given))
    without-goers result e = asked processes all policy set node was (toggled_by (sets.contains set) (sets.contains goers) false) (sets.difference set given) result (λ q low.
        ap (λ b. cond b false (sets.contains set q)) (in-goers q ∙ ap (λ b. (sets.contains given q && b) && sets.contains set q) (present q low))
        ∙ representatives_by_key (sets.contains given q) (sets.contains set q)
        ∙ sym (sets.contains-difference nat_cmp_total set given q)) e
      where
        representatives_by_key : (g s : Bool) → cond ((g && true) && s) false s ≡ (s && not g)
        representatives_by_key true true = refl
        representatives_by_key true false = refl
        representatives_by_key false true = refl
        representatives_by_key false false = refl
