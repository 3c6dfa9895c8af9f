-- counted trees for nobody
use Rattle.std.proofs.Common.{◌≡◌, ℕ, ◌+◌, ◌<◌, ◌≤◌, Bool, true, false, true≢false, eqb, ltb, leb, filter, ◌&&◌, List, [], ◌∷◌, ◌++◌, Vec, Global, Box, length, take, get_or, slice_index_or, Option, Some, None, MatchOption, refl, sym, ap, subst, ◌∙◌, arith}
use Rattle.std.specs.List.{list_all}
use Rattle.std.specs.Option.{option_eq}
use Rattle.std.specs.Str.{bytes_eq}
use Rattle.std.proofs.lemmas.Bool.Decides.{nat_tests}
use Rattle.std.proofs.lemmas.Slice.Eq.{bytes_eq-Decides}
use Rattle.std.proofs.lemmas.List.{take_more, take_all}
use Rattle.fy_locality.specs.declared.locality.Locality.{Locality}
use Rattle.fy_locality.specs.declared.key.Key.{Key}
use Rattle.fy_locality.specs.Locality.{has_value, value_of, values_of}
use Rattle.fy_policy.specs.declared.node.Node.{Node, One, Across, Both}
use Rattle.fy_policy.specs.declared.shape.Shape.{Shape, And}
use Rattle.fy_policy.specs.Shape.{tree_of}
use Rattle.fy_policy.specs.Sat.{group, satisfies}
use Rattle.fy_policy.specs.Tree.{Tree, one, across, every, IsWellFormed}
use Rattle.fy_policy.specs.Counted.{tree_of_node, IsBothOf, group_at, IsSplitByKey, IsRepresentative, IsRepresentativeOf, AreCountersOf, IsBuiltFrom, HasGroups}
use Rattle.fy_policy.proofs.Counts.{count-none}
use Rattle.fy_policy.proofs.Tests.{satisfies-none}
use Rattle.fy_policy.proofs.Shapes.{satisfies-And, parts_from, tree_of-And}
use Rattle.fy_policy.proofs.Tallied.{number-none}

nobody-within : (a b : Bool) → (a && (b && false)) ≡ false
nobody-within true true = refl
nobody-within true false = refl
nobody-within false b = refl

pub one-build_counters : (processes : List Locality) (at : ℕ → ℕ) (counts : Vec ℕ Global) → length counts.items ≡ length processes + 1 → ((i : ℕ) → slice_index_or counts.items i 0 ≡ 0) → IsBuiltFrom processes at one (One counts)
unfolding AreCountersOf
one-build_counters processes at counts wide zeros = record {
  same = λ s. refl;
  counted = tt;
  groups = wide;
  right = record {
    wide = wide;
    each = λ g h. zeros g ∙ sym (number-none _ (length processes) (λ p below. nobody-within (ltb p (length processes)) (eqb (at p) g)));
  };
}

-- leaders part a group by the values of a key
pub leaders-part : (processes : List Locality) (key : Key) (at below : ℕ → ℕ) → ((p : ℕ) → p < length processes → IsRepresentative processes key at p (below p)) → IsSplitByKey processes key at below
leaders-part processes key at below leaders = record {
  fits = λ p small. low _ _ (leaders p small).fits;
  same = λ p q v p_small q_small has. go p q v (leaders p p_small) (leaders q q_small) has (value_of processes key q) refl;
}
  where
    low : (a b : ℕ) → a < b → a ≤ b
    low a b h = omega arith

    eqb-no : (a b : ℕ) → (a ≡ b → ⊥) → eqb a b ≡ false
    eqb-no a b ne = grind (arith, nat_tests)

    eqb-is : (a b : ℕ) → eqb a b ≡ true → a ≡ b
    eqb-is a b e = grind (arith, nat_tests)

    eqb-yes : (a b : ℕ) → a ≡ b → eqb a b ≡ true
    eqb-yes a b e = grind (arith, nat_tests)

    one_of : (v w : List ℕ) (l : ℕ) → has_value processes key v l ≡ true → has_value processes key w l ≡ true → v ≡ w
    one_of v w l h k = at-value (value_of processes key l) h k
      where
        at-value : (o : Option (List ℕ)) → option_eq bytes_eq o (Some v) ≡ true → option_eq bytes_eq o (Some w) ≡ true → v ≡ w
        at-value None h k = absurd (true≢false (sym h))
        at-value (Some u) h k = sym ((bytes_eq-Decides u v).0 h) ∙ (bytes_eq-Decides u w).0 k

    and-false : (a : Bool) → (a && false) ≡ false
    and-false true = refl
    and-false false = refl

    go : (p q : ℕ) (v : List ℕ) → IsRepresentative processes key at p (below p) → IsRepresentative processes key at q (below q) → value_of processes key p ≡ Some v → (o : Option (List ℕ)) → value_of processes key q ≡ o
        → eqb (below q) (below p) ≡ (eqb (at q) (at p) && has_value processes key v q)
    go p q v lp lq has None lacks =
        let off : has_value processes key v q ≡ false = ap (λ o. option_eq bytes_eq o (Some v)) lacks in
        eqb-no _ _ (λ same. true≢false (sym (lp.leads v has).has ∙ ap (has_value processes key v) (sym same ∙ lq.alone lacks) ∙ off))
        ∙ sym (ap (λ b. eqb (at q) (at p) && b) off ∙ and-false _)
    go p q v lp lq has (Some w) own =
        let hp = lp.leads v has in
        let hq = lq.leads w own in
        test (eqb (at q) (at p)) refl (bytes_eq w v) refl hp hq
      where
        apart : (IsRepresentativeOf processes key at p v (below p)) → (IsRepresentativeOf processes key at q w (below q)) → ((eqb (at q) (at p) && has_value processes key v q) ≡ true → ⊥) → eqb (below q) (below p) ≡ false
        apart hp hq not =
            eqb-no _ _ (λ same.
            let vw : v ≡ w = one_of v w (below p) hp.has (ap (has_value processes key w) (sym same) ∙ hq.has) in
            let stand : at q ≡ at p = sym (eqb-is _ _ hq.together) ∙ ap at same ∙ eqb-is _ _ hp.together in
            not (both _ _ (eqb-yes _ _ stand) (ap (λ o. option_eq bytes_eq o (Some v)) (own ∙ ap Some (sym vw)) ∙ itself v)))
          where
            both : (a b : Bool) → a ≡ true → b ≡ true → (a && b) ≡ true
            both true true e f = refl
            both true false e f = f
            both false b e f = e

            itself : (v : List ℕ) → bytes_eq v v ≡ true
            itself v = (bytes_eq-Decides v v).1 refl

        least : (a b : ℕ) → (a < b → ⊥) → (b < a → ⊥) → a ≡ b
        least a b h k = omega arith

        test : (x : Bool) → eqb (at q) (at p) ≡ x → (y : Bool) → bytes_eq w v ≡ y → IsRepresentativeOf processes key at p v (below p) → IsRepresentativeOf processes key at q w (below q) → eqb (below q) (below p) ≡ (eqb (at q) (at p) && has_value processes key v q)
        test true together true alike hp hq =
            let wv : w ≡ v = (bytes_eq-Decides w v).0 alike in
            let stand : at q ≡ at p = eqb-is _ _ together in
            eqb-yes _ _
            (least _ _
            (λ h. true≢false (sym (yes _ _ (eqb-yes _ _ (eqb-is _ _ hq.together ∙ stand)) (ap (λ u. has_value processes key u (below q)) (sym wv) ∙ hq.has)) ∙ hp.none_below (below q) h))
            (λ h. true≢false (sym (yes _ _ (eqb-yes _ _ (eqb-is _ _ hp.together ∙ sym stand)) (ap (λ u. has_value processes key u (below p)) wv ∙ hp.has)) ∙ hq.none_below (below p) h)))
            ∙ sym (yes _ _ together (ap (λ o. option_eq bytes_eq o (Some v)) own ∙ alike))
          where
            yes : (a b : Bool) → a ≡ true → b ≡ true → (a && b) ≡ true
            yes true true e f = refl
            yes true false e f = f
            yes false b e f = e
        test true together false differ hp hq =
            let off : has_value processes key v q ≡ false = ap (λ o. option_eq bytes_eq o (Some v)) own ∙ differ in
            let none : (eqb (at q) (at p) && has_value processes key v q) ≡ false = ap (λ b. eqb (at q) (at p) && b) off ∙ and-false _ in
            apart hp hq (λ h. true≢false (sym h ∙ none)) ∙ sym none
        test false differ y e hp hq =
            let none : (eqb (at q) (at p) && has_value processes key v q) ≡ false = ap (λ b. b && has_value processes key v q) differ in
            apart hp hq (λ h. true≢false (sym h ∙ none)) ∙ sym none

pub across-build_counters : (processes : List Locality) (at : ℕ → ℕ) (n : ℕ) (key : Key) (tree : Tree) (places counts : Vec ℕ Global) (inner : Box Node Global) → (1 ≤ n) × (n ≤ 1024) → length places.items ≡ length processes → ((p : ℕ) → p < length processes → IsRepresentative processes key at p (group_at places.items p))
    → IsBuiltFrom processes (group_at places.items) tree inner.value → length counts.items ≡ length processes + 1 → ((i : ℕ) → slice_index_or counts.items i 0 ≡ 0) → IsBuiltFrom processes at (across n key tree) (Across n key places counts inner)
unfolding AreCountersOf satisfies
across-build_counters processes at n key tree places counts inner fit long leaders below wide zeros = record {
  same = λ s. λ i. leb n (length (filter (λ v. below.same (group processes key v s) i) (values_of processes key)));
  counted = (fit.0, fit.1, below.counted);
  groups = (wide, record { wide = long; fits = λ p small. low _ _ (leaders p small).fits }, below.groups);
  right = (
    record {
      wide = wide;
      each = λ g h. zeros g ∙ sym (count-none _ (values_of processes key) (λ v. satisfies-none processes (tree_of_node inner.value) _ below.counted (λ x small. off (has_value processes key v x) _ (nobody-within (ltb x (length processes)) (eqb (at x) g)))));
    },
    below.counted,
    leaders-part processes key at (group_at places.items) leaders,
    below.right,
  );
}
  where
    low : (a b : ℕ) → a < b → a ≤ b
    low a b h = omega arith

    off : (b c : Bool) → c ≡ false → (c && b) ≡ false
    off b c e = ap (λ d. d && b) e

-- ---- several policies at once
-- the parts before place k, one after another
pub record AreJoined (processes : List Locality) (at : ℕ → ℕ) (items : List Shape) (k : ℕ) (node : Node) : Type 0 where
  pub same : (s : ℕ → Bool) → satisfies processes (tree_of_node node) s ≡ list_all (λ q. satisfies processes (tree_of q) s) (take k items)
  pub counted : IsWellFormed (tree_of_node node)
  pub groups : HasGroups (length processes) node
  pub right : AreCountersOf processes at (λ _. false) node

all-pushed : (f : Shape → Bool) (xs : List Shape) (x : Shape) → list_all f (xs ++ x ∷ []) ≡ (list_all f xs && (f x && true))
all-pushed f [] x = refl
all-pushed f (y ∷ ys) x = ap (λ b. f y && b) (all-pushed f ys x) ∙ both (f y) _ _
  where
    both : (a b c : Bool) → (a && (b && c)) ≡ ((a && b) && c)
    both true b c = refl
    both false b c = refl

module _ (processes : List Locality) (at : ℕ → ℕ) (items : List Shape) (k : ℕ) (x : Shape) (within' : k < length items) (is : x ≡ get_or items k x) (next : Node) (build_counters : IsBuiltFrom processes at (tree_of x) next) where
  more : (s : ℕ → Bool) → list_all (λ q. satisfies processes (tree_of q) s) (take (k + 1) items) ≡ (list_all (λ q. satisfies processes (tree_of q) s) (take k items) && (satisfies processes (tree_of x) s && true))
  more s =
      ap (list_all (λ q. satisfies processes (tree_of q) s)) (take_more items k x within')
      ∙ all-pushed (λ q. satisfies processes (tree_of q) s) (take k items) (get_or items k x)
      ∙ ap (λ y. list_all (λ q. satisfies processes (tree_of q) s) (take k items) && (satisfies processes (tree_of y) s && true)) (sym is)

  pub joined-first : k ≡ 0 → AreJoined processes at items (k + 1) next
  joined-first none = record {
    same = λ s. build_counters.same s ∙ sym (more s ∙ ap (λ j. list_all (λ q. satisfies processes (tree_of q) s) (take j items) && (satisfies processes (tree_of x) s && true)) none ∙ alone _);
    counted = build_counters.counted;
    groups = build_counters.groups;
    right = build_counters.right;
  }
    where
      alone : (b : Bool) → (true && (b && true)) ≡ b
      alone true = refl
      alone false = refl

  pub joined-next : (first second : Box Node Global) → AreJoined processes at items k first.value → second.value ≡ next → AreJoined processes at items (k + 1) (Both first second)
  unfolding AreCountersOf satisfies
  joined-next first second before e = record {
    same = λ s. (λ i. before.same s i && ((ap (λ n. satisfies processes (tree_of_node n) s) e ∙ build_counters.same s) i && true)) ∙ sym (more s);
    counted = (tt, (before.counted, (subst (λ n. IsWellFormed (tree_of_node n)) (sym e) build_counters.counted, tt)));
    groups = (before.groups, subst (HasGroups (length processes)) (sym e) build_counters.groups);
    right = (before.right, subst (AreCountersOf processes at (λ _. false)) (sym e) build_counters.right);
  }

pub joined-with : (processes : List Locality) (at : ℕ → ℕ) (items : List Shape) (k : ℕ) (x : Shape) → k < length items → x ≡ get_or items k x → (next : Node) → IsBuiltFrom processes at (tree_of x) next
    → (so_far : Option Node) (node : Node) → MatchOption so_far (k ≡ 0) (AreJoined processes at items k) → IsBothOf so_far next node → AreJoined processes at items (k + 1) node
joined-with processes at items k x below is next built None node none alone = subst (AreJoined processes at items (k + 1)) (sym alone) (joined-first processes at items k x below is next built none)
joined-with processes at items k x below is next built (Some first) node joined (a, b, before, after, both) =
    subst (AreJoined processes at items (k + 1)) (sym both) (joined-next processes at items k x below is next built a b (subst (AreJoined processes at items k) (sym before) joined) after)

joined-all : (processes : List Locality) (at : ℕ → ℕ) (shape : Shape) (parts : Vec Shape Global) (items : List Shape) (k : ℕ) (node : Node) → shape ≡ And parts → items ≡ parts.items → length items ≤ k → AreJoined processes at items k node → IsBuiltFrom processes at (tree_of shape) node
joined-all processes at shape parts items k node is same past joined = record {
  same = λ s. joined.same s ∙ ap (list_all (λ q. satisfies processes (tree_of q) s)) (take_all k items past ∙ same) ∙ sym (ap (λ q. satisfies processes (tree_of q) s) is ∙ satisfies-And processes s parts);
  counted = joined.counted;
  groups = joined.groups;
  right = joined.right;
}

no_parts : (shape : Shape) (parts : Vec Shape Global) (items : List Shape) (k : ℕ) → shape ≡ And parts → items ≡ parts.items → length items ≤ k → k ≡ 0 → IsWellFormed (tree_of shape) → ⊥
no_parts shape parts items k is same past none counted = go parts.items refl (low _ _ _ (ap length same) past none)
  where
    low : (a b k : ℕ) → a ≡ b → a ≤ k → k ≡ 0 → b ≡ 0
    low a b k e h z = omega arith

    go : (qs : List Shape) → parts.items ≡ qs → length parts.items ≡ 0 → ⊥
    go [] e h = let c : IsWellFormed (every (parts_from [])) = subst (λ q. IsWellFormed q) (ap tree_of is ∙ tree_of-And parts ∙ ap (λ qs. every (parts_from qs)) e) counted in c.0
    go (q ∷ qs) e h = let l : length (q ∷ qs) ≡ 0 = ap length (sym e) ∙ h in absurd (omega arith)

-- where each And has a part, the parts joined are the policy
pub build_counters-all : (processes : List Locality) (at : ℕ → ℕ) (shape : Shape) (parts : Vec Shape Global) (items : List Shape) (k : ℕ) → shape ≡ And parts → items ≡ parts.items → length items ≤ k → IsWellFormed (tree_of shape) → (found : Option Node) → MatchOption found (k ≡ 0) (AreJoined processes at items k) → MatchOption found ⊥ (IsBuiltFrom processes at (tree_of shape))
build_counters-all processes at shape parts items k is same past counted None none = no_parts shape parts items k is same past none counted
build_counters-all processes at shape parts items k is same past counted (Some node) joined = joined-all processes at shape parts items k node is same past joined
