-- counts where several processes of a group come or go together
use Rattle.std.proofs.Common.{inl, inr, zero, suc, ◌≡◌, ◌≢◌, ℕ, ◌+◌, ◌-◌, ◌<◌, ◌≤◌, Bool, true, false, true≢false, cond, leb, ltb, eqb, ◌&&◌, ◌||◌, not, List, Vec, Global, Box, length, Option, Some, None, slice_index_or, refl, sym, ap, subst, ◌∙◌, arith}
use Rattle.std.specs.Prelude.{is_some}
use Rattle.std.specs.Ordering.{nat_cmp}
use Rattle.std.specs.FinSet as sets
use Rattle.std.specs.Cmp.{nat_cmp_total, unsigned_tied}
use Rattle.std.specs.Option.{option_eq}
use Rattle.std.specs.Str.{bytes_eq}
use Rattle.std.proofs.lemmas.Bool.{cases_eq}
use Rattle.std.proofs.lemmas.Bool.Decides.{nat_tests}
use Rattle.std.proofs.lemmas.Cmp.{nat_list_eq_equiv}
use Rattle.fy_locality.specs.declared.locality.Locality.{Locality}
use Rattle.fy_locality.specs.declared.key.Key.{Key}
use Rattle.fy_locality.specs.Locality.{has_value, value_of}
use Rattle.fy_policy.specs.declared.node.Node.{Node, One, Across, Both}
use Rattle.fy_policy.specs.Sat.{group, satisfies}
use Rattle.fy_policy.specs.Tree.{Tree, one, IsWellFormed}
use Rattle.fy_policy.specs.Counted.{tree_of_node, number_of, passing, within, toggled, toggled_by, group_at, CanToggle, AreCountersOf, AreCountersAt}
use Rattle.fy_policy.proofs.Tallied.{one-number, number-toggled, passing-toggled, passing-keyless'}
use Rattle.fy_policy.proofs.Tests.{ValuesDiffer, ValuesOccur}
use Rattle.fy_policy.proofs.Standing.{regroup, passing-le, is_satisfied_at-both, within-apart, its-own, now-is}
use Rattle.fy_policy.proofs.Walk.{has_none, has_one}

-- ---- how many of two tests together
pub number-sum : (f g h : ℕ → Bool) (n : ℕ) → ((q : ℕ) → q < n → cond (f q) 1 0 + cond (h q) 1 0 ≡ cond (g q) 1 0) → number_of f n + number_of h n ≡ number_of g n
number-sum f g h zero each = refl
number-sum f g h (suc n) each = sums (cond (f n) 1 0) (cond (g n) 1 0) (cond (h n) 1 0) _ _ _ (each n (omega arith)) (number-sum f g h n (λ q low. each q (omega arith)))
  where
    sums : (a b c x y z : ℕ) → a + c ≡ b → x + z ≡ y → a + x + (c + z) ≡ b + y
    sums a b c x y z e f = omega arith

-- a set has as many as there are numbers in it
upto : sets.FinSet nat_cmp → ℕ → sets.FinSet nat_cmp
upto s zero = sets.empty
upto s (suc n) = cond (sets.contains s n) (sets.insert (upto s n) n) (upto s n)

contains-upto : (s : sets.FinSet nat_cmp) (n q : ℕ) → sets.contains (upto s n) q ≡ (ltb q n && sets.contains s q)
unfolding upto
contains-upto s zero q = sets.contains-empty nat_cmp q ∙ nothing q (sets.contains s q)
  where
    nothing : (q : ℕ) (b : Bool) → false ≡ (ltb q 0 && b)
    nothing q b = grind (arith, nat_tests)
contains-upto s (suc n) q = go (contains-upto s n q) (sets.contains s n) refl
  where
    here : (q n : ℕ) (b : Bool) → q ≡ n → b ≡ true → (eqb q n || (ltb q n && b)) ≡ (ltb q (suc n) && b)
    here q n b e is = grind (arith, nat_tests)

    there : (q n : ℕ) (b : Bool) → q ≢ n → (eqb q n || (ltb q n && b)) ≡ (ltb q (suc n) && b)
    there q n b e = grind (arith, nat_tests)

    absent : (q n : ℕ) (b : Bool) → q ≡ n → b ≡ false → (ltb q n && b) ≡ (ltb q (suc n) && b)
    absent q n b e is = grind (arith, nat_tests)

    apart : (q n : ℕ) (b : Bool) → q ≢ n → (ltb q n && b) ≡ (ltb q (suc n) && b)
    apart q n b e = grind (arith, nat_tests)

    go : sets.contains (upto s n) q ≡ (ltb q n && sets.contains s q) → (b : Bool) → sets.contains s n ≡ b → sets.contains (cond b (sets.insert (upto s n) n) (upto s n)) q ≡ (ltb q (suc n) && sets.contains s q)
    go before true is =
        sets.contains-insert nat_cmp_total (upto s n) n q
        ∙ ap (λ b. b || sets.contains (upto s n) q) (unsigned_tied q n)
        ∙ ap (λ b. eqb q n || b) before
        ∙ (elim (cases_eq q n) [ inl same ↦ here q n _ same (ap (sets.contains s) same ∙ is) | inr other ↦ there q n _ other ])
    go before false is =
        before
        ∙ (elim (cases_eq q n) [ inl same ↦ absent q n _ same (ap (sets.contains s) same ∙ is) | inr other ↦ apart q n _ other ])

len-upto : (s : sets.FinSet nat_cmp) (n : ℕ) → sets.len (upto s n) ≡ number_of (sets.contains s) n
unfolding upto
len-upto s zero = sets.len-empty nat_cmp
len-upto s (suc n) = go (len-upto s n) (sets.contains s n)
  where
    fresh : sets.contains (upto s n) n ≡ false
    fresh = contains-upto s n n ∙ itself n (sets.contains s n)
      where
        itself : (n : ℕ) (b : Bool) → (ltb n n && b) ≡ false
        itself n b = grind (arith, nat_tests)

    one-more : (a b : ℕ) → a ≡ b → a + 1 ≡ 1 + b
    one-more a b e = omega arith

    no-more : (a b : ℕ) → a ≡ b → a ≡ 0 + b
    no-more a b e = omega arith

    go : sets.len (upto s n) ≡ number_of (sets.contains s) n → (b : Bool) → sets.len (cond b (sets.insert (upto s n) n) (upto s n)) ≡ cond b 1 0 + number_of (sets.contains s) n
    go below true = sets.len-insert nat_cmp_total (upto s n) n ∙ ap (λ b. cond b (sets.len (upto s n)) (sets.len (upto s n) + 1)) fresh ∙ one-more _ _ below
    go below false = no-more _ _ below

pub number-len : (s : sets.FinSet nat_cmp) (n : ℕ) → ((q : ℕ) → sets.contains s q ≡ true → q < n) → number_of (sets.contains s) n ≡ sets.len s
number-len s n small = sym (len-upto s n) ∙ ap sets.len (sets.same_set nat_cmp_total sets.nat_cmp-IsAntisymmetric (upto s n) s (λ q. contains-upto s n q ∙ all q (sets.contains s q) (small q)))
  where
    all : (q : ℕ) (b : Bool) → (b ≡ true → q < n) → (ltb q n && b) ≡ b
    all q true h = let low : q < n = h refl in grind (arith, nat_tests)
    all q false h = none (ltb q n)
      where
        none : (b : Bool) → (b && false) ≡ false
        none true = refl
        none false = refl

-- ---- one process suffices
module _ (processes : List Locality) (at : ℕ → ℕ) (g : ℕ) (s : ℕ → Bool) (those : sets.FinSet nat_cmp) where
  one-came : CanToggle processes at g s (sets.contains those) true
      → number_of (within processes at g s) (length processes) + sets.len those ≡ number_of (within processes at g (toggled_by s (sets.contains those) true)) (length processes)
  one-came can =
      ap (λ k. number_of (within processes at g s) (length processes) + k) (sym (number-len those (length processes) can.known))
      ∙ number-sum (within processes at g s) (within processes at g (toggled_by s (sets.contains those) true)) (sets.contains those) (length processes) (λ q low. each q low (sets.contains those q) refl)
    where
      put : (q n u : ℕ) (b : Bool) → q < n → u ≡ g → b ≡ false → cond (ltb q n && (eqb u g && b)) 1 0 + 1 ≡ cond (ltb q n && (eqb u g && true)) 1 0
      put q n u b low e is = grind (arith, nat_tests)

      kept : (b : Bool) → cond b 1 0 + 0 ≡ cond b 1 0
      kept true = refl
      kept false = refl

      each : (q : ℕ) → q < length processes → (b : Bool) → sets.contains those q ≡ b
          → cond (within processes at g s q) 1 0 + cond b 1 0 ≡ cond (ltb q (length processes) && (eqb (at q) g && cond b true (s q))) 1 0
      each q low true is = put q (length processes) (at q) (s q) low (can.here q is) (can.were q is)
      each q low false is = kept (within processes at g s q)

  one-went : CanToggle processes at g s (sets.contains those) false
      → number_of (within processes at g (toggled_by s (sets.contains those) false)) (length processes) + sets.len those ≡ number_of (within processes at g s) (length processes)
  one-went can =
      ap (λ k. number_of (within processes at g (toggled_by s (sets.contains those) false)) (length processes) + k) (sym (number-len those (length processes) can.known))
      ∙ number-sum (within processes at g (toggled_by s (sets.contains those) false)) (within processes at g s) (sets.contains those) (length processes) (λ q low. each q low (sets.contains those q) refl)
    where
      taken : (q n u : ℕ) (b : Bool) → q < n → u ≡ g → b ≡ true → cond (ltb q n && (eqb u g && false)) 1 0 + 1 ≡ cond (ltb q n && (eqb u g && b)) 1 0
      taken q n u b low e is = grind (arith, nat_tests)

      kept : (b : Bool) → cond b 1 0 + 0 ≡ cond b 1 0
      kept true = refl
      kept false = refl

      each : (q : ℕ) → q < length processes → (b : Bool) → sets.contains those q ≡ b
          → cond (ltb q (length processes) && (eqb (at q) g && cond b false (s q))) 1 0 + cond b 1 0 ≡ cond (within processes at g s q) 1 0
      each q low true is = taken q (length processes) (at q) (s q) low (can.here q is) (can.were q is)
      each q low false is = kept (within processes at g s q)

  pub some-toggled : (node : Node) (counts : Vec ℕ Global) (joins : Bool) → node ≡ One counts → AreCountersOf processes at s node → g ≤ length processes → CanToggle processes at g s (sets.contains those) joins
      → (count : ℕ) → count ≡ slice_index_or counts.items g 0 → (answer : Bool)
      → (joins ≡ true → answer ≡ ltb 0 (count + sets.len those)) → (joins ≡ false → answer ≡ ltb (sets.len those) count)
      → answer ≡ satisfies processes (tree_of_node node) (within processes at g (toggled_by s (sets.contains those) joins))
  unfolding AreCountersOf
  some-toggled node counts joins is right inside can count read answer more less = go joins can more less ∙ ap (λ n. satisfies processes (tree_of_node n) (within processes at g (toggled_by s (sets.contains those) joins))) (sym is)
    where
      r : AreCountersOf processes at s (One counts)
      r = subst (AreCountersOf processes at s) is right

      now : count ≡ number_of (within processes at g s) (length processes)
      now = read ∙ r.each g inside

      left : (l c n m : ℕ) → c ≡ n → m + l ≡ n → ltb l c ≡ ltb 0 m
      left l c n m e f = grind (arith, nat_tests)

      go : (joins : Bool) → CanToggle processes at g s (sets.contains those) joins → (joins ≡ true → answer ≡ ltb 0 (count + sets.len those)) → (joins ≡ false → answer ≡ ltb (sets.len those) count)
          → answer ≡ satisfies processes one (within processes at g (toggled_by s (sets.contains those) joins))
      go true can more less = more refl ∙ ap (λ c. ltb 0 (c + sets.len those)) now ∙ ap (ltb 0) (one-came can) ∙ one-number processes _
      go false can more less = less refl ∙ left (sets.len those) count _ _ now (one-went can) ∙ one-number processes _

-- ---- across a key: value by value
-- those of the group that were looked at already
abbrev pub done : (ℕ → Bool) → (ℕ → Bool) → ℕ → Bool
done those rest q = those q && not (rest q)

-- the processes of some values came or went already, and those of the others are the rest
pub record Halfway (processes : List Locality) (at : ℕ → ℕ) (g : ℕ) (s : ℕ → Bool) (key : Key) (tree : Tree) (those : ℕ → Bool) (joins : Bool) (rest : ℕ → Bool) (count : ℕ) : Type 0 where
  pub of_those : (q : ℕ) → rest q ≡ true → those q ≡ true
  pub whole : (q x : ℕ) (v : List ℕ) → those q ≡ true → rest q ≡ false → rest x ≡ true → value_of processes key x ≡ Some v → has_value processes key v q ≡ false
  pub counted : count ≡ passing processes key tree (within processes at g (toggled_by s (done those rest) joins))

module _ (processes : List Locality) (at : ℕ → ℕ) (g : ℕ) (s : ℕ → Bool) (key : Key) (tree : Tree) (those : ℕ → Bool) (joins : Bool) where
  none-and : (b : Bool) → (b && not b) ≡ false
  none-and true = refl
  none-and false = refl

  pub halfway-first : (count : ℕ) → count ≡ passing processes key tree (within processes at g s) → Halfway processes at g s key tree those joins those count
  halfway-first count is = record {
    of_those = λ q e. e;
    whole = λ q x v there gone. absurd (true≢false (sym there ∙ gone));
    counted = is ∙ sym (λ i. passing processes key tree (within processes at g (λ q. cond (none-and (those q) i) joins (s q))));
  }

  pub halfway-last : (rest : sets.FinSet nat_cmp) (count : ℕ) → rest ≡ sets.empty → Halfway processes at g s key tree those joins (sets.contains rest) count → count ≡ passing processes key tree (within processes at g (toggled_by s those joins))
  halfway-last rest count none half = half.counted ∙ (λ i. passing processes key tree (within processes at g (λ q. cond (all q i) joins (s q))))
    where
      with-none : (b c : Bool) → c ≡ false → (b && not c) ≡ b
      with-none true true e = absurd (true≢false e)
      with-none true false e = refl
      with-none false c e = refl

      all : (q : ℕ) → done those (sets.contains rest) q ≡ those q
      all q = with-none (those q) (sets.contains rest q) (ap (λ t. sets.contains t q) none ∙ sets.contains-empty nat_cmp q)

  -- a process without the key is dropped
  pub halfway-keyless : (rest rest' : sets.FinSet nat_cmp) (count p : ℕ) → rest' ≡ sets.remove rest p → value_of processes key p ≡ None
      → Halfway processes at g s key tree those joins (sets.contains rest) count → Halfway processes at g s key tree those joins (sets.contains rest') count
  halfway-keyless rest rest' count p is keyless half = record {
    of_those = λ q e. half.of_those q (second (eqb q p) (sets.contains rest q) (sym (left q) ∙ e));
    whole = λ q x v there gone now has. elim (cases_eq q p) [
      | inl same ↦ has_none processes key v q (ap (value_of processes key) same ∙ keyless)
      | inr other ↦ half.whole q x v there (sym (apart q other) ∙ gone) (second (eqb x p) (sets.contains rest x) (sym (left x) ∙ now)) has
    ];
    counted =
        half.counted
        ∙ passing-keyless' processes key tree _ (within processes at g (toggled_by s (done those (sets.contains rest')) joins)) p keyless
        (λ x other. ap (λ b. ltb x (length processes) && (eqb (at x) g && cond (those x && not b) joins (s x))) (sym (apart x other)));
  }
    where
      left : (x : ℕ) → sets.contains rest' x ≡ (not (eqb x p) && sets.contains rest x)
      left x = ap (λ t. sets.contains t x) is ∙ sets.contains-remove nat_cmp_total rest p x ∙ ap (λ b. not b && sets.contains rest x) (unsigned_tied x p)

      second : (b c : Bool) → (not b && c) ≡ true → c ≡ true
      second true c e = absurd (true≢false (sym e))
      second false c e = e

      keep : (x p : ℕ) (b : Bool) → x ≢ p → (not (eqb x p) && b) ≡ b
      keep x p b ne = grind (arith, nat_tests)

      apart : (x : ℕ) → x ≢ p → sets.contains rest' x ≡ sets.contains rest x
      apart x other = left x ∙ keep x p _ other

  -- the processes of one value
  module _ (rest peers part rest' : sets.FinSet nat_cmp) (p : ℕ) (v : List ℕ) (has : value_of processes key p ≡ Some v)
      (are : (x : ℕ) → sets.contains peers x ≡ has_value processes key v x) (representatives_by_key : part ≡ sets.intersection rest peers) (left : rest' ≡ sets.difference rest part) where
    in-part : (x : ℕ) → sets.contains part x ≡ (sets.contains rest x && has_value processes key v x)
    in-part x = ap (λ t. sets.contains t x) representatives_by_key ∙ sets.contains-intersection nat_cmp_total rest peers x ∙ ap (λ b. sets.contains rest x && b) (are x)

    in-rest : (x : ℕ) → sets.contains rest' x ≡ (sets.contains rest x && not (has_value processes key v x))
    in-rest x = ap (λ t. sets.contains t x) left ∙ sets.contains-difference nat_cmp_total rest part x ∙ ap (λ b. sets.contains rest x && not b) (in-part x) ∙ once (sets.contains rest x) (has_value processes key v x)
      where
        once : (a b : Bool) → (a && not (a && b)) ≡ (a && not b)
        once true b = refl
        once false b = refl

    and-first : (a b : Bool) → (a && b) ≡ true → a ≡ true
    and-first true b e = refl
    and-first false b e = e

    and-second : (a b : Bool) → (a && b) ≡ true → b ≡ true
    and-second true b e = e
    and-second false b e = absurd (true≢false (sym e))

    not-true : (b : Bool) → not b ≡ true → b ≡ false
    not-true true e = absurd (true≢false (sym e))
    not-true false e = refl

    itself : has_value processes key v p ≡ true
    itself = ap (λ o. option_eq bytes_eq o (Some v)) has ∙ nat_list_eq_equiv.refl v

    -- what stands in the part stands together below
    pub part-can : (below : ℕ → ℕ) (present : sets.contains rest p ≡ true) (count : ℕ) → CanToggle processes at g s those joins → Halfway processes at g s key tree those joins (sets.contains rest) count
        → ((q : ℕ) → q < length processes → eqb (below q) (below p) ≡ (eqb (at q) (at p) && has_value processes key v q))
        → CanToggle processes below (below p) s (sets.contains part) joins
    part-can below present count can half same = record {
      known = λ q e. can.known q (of q e);
      here = λ q e. equal (below q) (below p) (same q (can.known q (of q e)) ∙ together q (can.here q (of q e)) (can.here p (half.of_those p present)) (and-second _ _ (sym (in-part q) ∙ e)));
      were = λ q e. can.were q (of q e);
    }
      where
        of : (q : ℕ) → sets.contains part q ≡ true → those q ≡ true
        of q e = half.of_those q (and-first _ _ (sym (in-part q) ∙ e))

        equal : (a b : ℕ) → eqb a b ≡ true → a ≡ b
        equal a b e = grind (arith, nat_tests)

        both : (a b : ℕ) (c : Bool) → a ≡ g → b ≡ g → c ≡ true → (eqb a b && c) ≡ true
        both a b c e f is = grind (arith, nat_tests)

        together : (q : ℕ) → at q ≡ g → at p ≡ g → has_value processes key v q ≡ true → (eqb (at q) (at p) && has_value processes key v q) ≡ true
        together q e f is = both (at q) (at p) _ e f is

    module _ (count : ℕ) (half : Halfway processes at g s key tree those joins (sets.contains rest) count) (present : sets.contains rest p ≡ true) where
      abbrev before : ℕ → Bool
      before = toggled_by s (done those (sets.contains rest)) joins

      abbrev pub after : ℕ → Bool
      after = toggled_by s (done those (sets.contains rest')) joins

      -- of the value's own processes none was looked at before, and all are after
      own-before : group processes key v (within processes at g before) ≡ group processes key v (within processes at g s)
      own-before = λ i x. each x (has_value processes key v x) refl i
        where
          nothing : (a : Bool) → (a && false) ≡ false
          nothing true = refl
          nothing false = refl

          none : (t r : Bool) (c d : Bool) → (t ≡ true → r ≡ false → ⊥) → cond (t && not r) c d ≡ d
          none true true c d h = refl
          none true false c d h = absurd (h refl refl)
          none false r c d h = refl

          each : (x : ℕ) (b : Bool) → has_value processes key v x ≡ b → (within processes at g before x && has_value processes key v x) ≡ (within processes at g s x && has_value processes key v x)
          each x true e = ap (λ b. (ltb x (length processes) && (eqb (at x) g && b)) && has_value processes key v x) (none (those x) (sets.contains rest x) joins (s x) (λ t r. true≢false (sym e ∙ half.whole x p v t r present has)))
          each x false e = ap (λ b. within processes at g before x && b) e ∙ nothing _ ∙ sym (nothing _) ∙ ap (λ b. within processes at g s x && b) (sym e)

      own-after : group processes key v (within processes at g after) ≡ group processes key v (within processes at g (toggled_by s (sets.contains part) joins))
      own-after = λ i x. each x (has_value processes key v x) refl i
        where
          nothing : (a : Bool) → (a && false) ≡ false
          nothing true = refl
          nothing false = refl

          all : (t r : Bool) → (t ≡ true → r ≡ false → ⊥) → (r ≡ true → t ≡ true) → (t && not (r && not true)) ≡ (r && true)
          all true true h k = refl
          all true false h k = absurd (h refl refl)
          all false true h k = absurd (true≢false (sym (k refl)))
          all false false h k = refl

          each : (x : ℕ) (b : Bool) → has_value processes key v x ≡ b → (within processes at g after x && has_value processes key v x) ≡ (within processes at g (toggled_by s (sets.contains part) joins) x && has_value processes key v x)
          each x true e = ap (λ b. (ltb x (length processes) && (eqb (at x) g && cond b joins (s x))) && has_value processes key v x)
              (ap (λ b. those x && not b) (in-rest x) ∙ ap (λ b. those x && not (sets.contains rest x && not b)) e
              ∙ all (those x) (sets.contains rest x) (λ t r. true≢false (sym e ∙ half.whole x p v t r present has)) (half.of_those x)
              ∙ ap (λ b. sets.contains rest x && b) (sym e) ∙ sym (in-part x))
          each x false e = ap (λ b. within processes at g after x && b) e ∙ nothing _ ∙ sym (nothing _) ∙ ap (λ b. within processes at g (toggled_by s (sets.contains part) joins) x && b) (sym e)

      others : (x : ℕ) → has_value processes key v x ≡ false → within processes at g before x ≡ within processes at g after x
      others x lacks = ap (λ b. ltb x (length processes) && (eqb (at x) g && cond (those x && not b) joins (s x))) (sym (in-rest x ∙ ap (λ b. sets.contains rest x && not b) lacks ∙ same (sets.contains rest x)))
        where
          same : (b : Bool) → (b && true) ≡ b
          same true = refl
          same false = refl

      pub exchanged : ValuesDiffer → ValuesOccur → IsWellFormed tree → (was is : Bool)
          → was ≡ satisfies processes tree (group processes key v (within processes at g s))
          → is ≡ satisfies processes tree (group processes key v (within processes at g (toggled_by s (sets.contains part) joins)))
          → passing processes key tree (within processes at g after) + cond was 1 0 ≡ count + cond is 1 0
      exchanged differ occur formed was is e f =
          ap (λ b. passing processes key tree (within processes at g after) + cond b 1 0) (e ∙ ap (satisfies processes tree) (sym own-before))
          ∙ passing-toggled processes key tree differ occur formed (within processes at g before) (within processes at g after) p v has others
          ∙ (λ i. (sym half.counted) i + cond (satisfies processes tree (own-after i)) 1 0)
          ∙ ap (λ b. count + cond b 1 0) (sym f)

      pub halfway-next : (count' : ℕ) (was is : Bool) → length processes ≤ 1024
          → (count < 2147483648 → cond was 1 0 ≤ count + cond is 1 0 → count' + cond was 1 0 ≡ count + cond is 1 0)
          → passing processes key tree (within processes at g after) + cond was 1 0 ≡ count + cond is 1 0
          → Halfway processes at g s key tree those joins (sets.contains rest') count'
      halfway-next count' was is few change sum = record {
        of_those = λ q e. half.of_those q (and-first _ _ (sym (in-rest q) ∙ e));
        whole = λ q x w there gone now at-x. keep q x w there (sets.contains rest q) refl (has_value processes key v q) refl gone (and-first _ _ (sym (in-rest x) ∙ now)) (not-true _ (and-second _ _ (sym (in-rest x) ∙ now))) at-x;
        counted = same _ _ _ _ _ (change (small _ _ _ half.counted (passing-le processes key tree _) few) (room _ _ _ _ sum)) sum;
      }
        where
          small : (x y m : ℕ) → x ≡ y → y ≤ m → m ≤ 1024 → x < 2147483648
          small x y m e h k = omega arith

          room : (n a b c : ℕ) → n + a ≡ b + c → a ≤ b + c
          room n a b c e = omega arith

          same : (x n a b c : ℕ) → x + a ≡ b + c → n + a ≡ b + c → x ≡ n
          same x n a b c e f = omega arith

          keep : (q x : ℕ) (w : List ℕ) → those q ≡ true → (r : Bool) → sets.contains rest q ≡ r → (h : Bool) → has_value processes key v q ≡ h → sets.contains rest' q ≡ false
              → sets.contains rest x ≡ true → has_value processes key v x ≡ false → value_of processes key x ≡ Some w → has_value processes key w q ≡ false
          keep q x w there false r h e gone now lacks at-x = half.whole q x w there r now at-x
          keep q x w there true r false e gone now lacks at-x = absurd (true≢false (sym (in-rest q ∙ (λ i. r i && not (e i))) ∙ gone))
          keep q x w there true r true e gone now lacks at-x =
              last (has_value processes key w q) (has_value processes key v q) (has_one processes key w v q (sym (ap (λ o. option_eq bytes_eq o (Some v)) at-x) ∙ lacks)) e
            where
              last : (a b : Bool) → (a && b) ≡ false → b ≡ true → a ≡ false
              last true true f e = absurd (true≢false f)
              last true false f e = absurd (true≢false (sym e))
              last false b f e = refl

-- ---- an Across node, and a Both
module _ (processes : List Locality) (at : ℕ → ℕ) (g : ℕ) (node : Node) where
  pub across-toggled-by : (wanted : ℕ) (key : Key) (places counts : Vec ℕ Global) (inner : Box Node Global) → node ≡ Across wanted key places counts inner → (t : ℕ → Bool) (count : ℕ)
      → count ≡ passing processes key (tree_of_node inner.value) (within processes at g t) → leb wanted count ≡ satisfies processes (tree_of_node node) (within processes at g t)
  unfolding satisfies
  across-toggled-by wanted key places counts inner is t count e = ap (leb wanted) e ∙ ap (λ n. satisfies processes (tree_of_node n) (within processes at g t)) (sym is)

pub is_satisfied_at-both-by : (processes : List Locality) (at : ℕ → ℕ) (g : ℕ) (t : ℕ → Bool) (node : Node) (first second : Box Node Global) → node ≡ Both first second
    → satisfies processes (tree_of_node node) (within processes at g t) ≡ (satisfies processes (tree_of_node first.value) (within processes at g t) && satisfies processes (tree_of_node second.value) (within processes at g t))
is_satisfied_at-both-by processes at g t node first second is = is_satisfied_at-both processes at t node first second g is

module _ (processes : List Locality) (at : ℕ → ℕ) (s : ℕ → Bool) (g : ℕ) where
  pub across-count : (node : Node) (wanted : ℕ) (key : Key) (places counts : Vec ℕ Global) (inner : Box Node Global) → node ≡ Across wanted key places counts inner → AreCountersOf processes at s node → g ≤ length processes
      → (count : ℕ) → count ≡ slice_index_or counts.items g 0 → count ≡ passing processes key (tree_of_node inner.value) (within processes at g s)
  unfolding AreCountersOf
  across-count node wanted key places counts inner is right inside count read =
      let r : AreCountersOf processes at s (Across wanted key places counts inner) = subst (AreCountersOf processes at s) is right in
      read ∙ r.0.each g inside

  module _ (few : length processes ≤ 1024) (inside : g ≤ length processes) (node : Node) (wanted : ℕ) (key : Key) (places counts : Vec ℕ Global) (inner : Box Node Global) (is : node ≡ Across wanted key places counts inner) (right : AreCountersOf processes at s node)
      (those : sets.FinSet nat_cmp) (joins : Bool) (rest peers part rest' : sets.FinSet nat_cmp) (p : ℕ) (v : List ℕ) (has : value_of processes key p ≡ Some v)
      (are : (x : ℕ) → sets.contains peers x ≡ has_value processes key v x) (representatives_by_key : part ≡ sets.intersection rest peers) (left : rest' ≡ sets.difference rest part)
      (can : CanToggle processes at g s (sets.contains those) joins) (count : ℕ) (half : Halfway processes at g s key (tree_of_node inner.value) (sets.contains those) joins (sets.contains rest) count) (present : sets.contains rest p ≡ true) where
    r : AreCountersOf processes at s (Across wanted key places counts inner)
    r = subst (AreCountersOf processes at s) is right

    one-of : sets.contains those p ≡ true
    one-of = half.of_those p present

    small : p < length processes
    small = can.known p one-of

    its-group : (t : ℕ → Bool) → group processes key v (within processes at g t) ≡ within processes (group_at places.items) (group_at places.items p) t
    its-group t = regroup processes at s p joins g few small (can.here p one-of) inside (can.were p one-of) node wanted key places counts inner is right v has t

    below-can : CanToggle processes (group_at places.items) (group_at places.items p) s (sets.contains part) joins
    unfolding AreCountersOf
    below-can = part-can processes at g s key (tree_of_node inner.value) (sets.contains those) joins rest peers part rest' p v has are representatives_by_key left (group_at places.items) present count can half (λ q low. r.2.same p q v small low has)

    fits : group_at places.items p ≤ length processes
    unfolding AreCountersOf
    fits = r.2.fits p small

    inner-right : AreCountersOf processes (group_at places.items) s inner.value
    unfolding AreCountersOf
    inner-right = r.3

    formed : IsWellFormed (tree_of_node inner.value)
    unfolding AreCountersOf
    formed = r.1

    pub across-next : ValuesDiffer → ValuesOccur → (below : ℕ) → below ≡ group_at places.items p
        → (a : Node) → a ≡ inner.value → (was : Bool) → ((processes : List Locality) (at : ℕ → ℕ) (s : ℕ → Bool) → AreCountersOf processes at s a → below ≤ length processes → was ≡ satisfies processes (tree_of_node a) (within processes at below s))
        → (b : Node) → b ≡ inner.value → (now : Bool) → ((at : ℕ → ℕ) (s : ℕ → Bool) → AreCountersAt processes at s below b → CanToggle processes at below s (sets.contains part) joins
        → now ≡ satisfies processes (tree_of_node b) (within processes at below (toggled_by s (sets.contains part) joins)))
        → (count' : ℕ) → (count < 2147483648 → cond was 1 0 ≤ count + cond now 1 0 → count' + cond was 1 0 ≡ count + cond now 1 0)
        → Halfway processes at g s key (tree_of_node inner.value) (sets.contains those) joins (sets.contains rest') count'
    across-next differ occur below place a a-is was reads b b-is now asks count' change =
        halfway-next processes at g s key (tree_of_node inner.value) (sets.contains those) joins rest peers part rest' p v has are representatives_by_key left count half present count' was now few change
        (exchanged processes at g s key (tree_of_node inner.value) (sets.contains those) joins rest peers part rest' p v has are representatives_by_key left count half present differ occur formed was now
        (reads processes (group_at places.items) s (subst (AreCountersOf processes (group_at places.items) s) (sym a-is) inner-right) low
        ∙ (λ i. satisfies processes (tree_of_node (a-is i)) (within processes (group_at places.items) (place i) s))
        ∙ ap (satisfies processes (tree_of_node inner.value)) (sym (its-group s)))
        (asks (group_at places.items) s (record { few = few; right = subst (AreCountersOf processes (group_at places.items) s) (sym b-is) inner-right; inside = low }) (subst (λ k. CanToggle processes (group_at places.items) k s (sets.contains part) joins) (sym place) below-can)
        ∙ (λ i. satisfies processes (tree_of_node (b-is i)) (within processes (group_at places.items) (place i) (toggled_by s (sets.contains part) joins)))
        ∙ ap (satisfies processes (tree_of_node inner.value)) (sym (its-group (toggled_by s (sets.contains part) joins)))))
      where
        low : below ≤ length processes
        low = subst (λ k. k ≤ length processes) (sym place) fits

-- ---- each process changes a count by one at most
module _ (processes : List Locality) (at : ℕ → ℕ) (g : ℕ) (s : ℕ → Bool) (key : Key) (tree : Tree) (differ : ValuesDiffer) (occur : ValuesOccur) (formed : IsWellFormed tree) (f : ℕ → Bool) (joins : Bool) where
  -- those below m came or went
  abbrev some : ℕ → ℕ → Bool
  some m = toggled_by s (λ q. f q && ltb q m) joins

  abbrev all : (ℕ → Bool) → ℕ
  all t = passing processes key tree (within processes at g t)

  none-yet : all (some 0) ≡ all s
  none-yet = λ i. all (λ q. cond (nobody q (f q) i) joins (s q))
    where
      nobody : (q : ℕ) (b : Bool) → (b && ltb q 0) ≡ false
      nobody q b = grind (arith, nat_tests)

  by-one : (a b c : ℕ) (d e : Bool) → a + cond d 1 0 ≡ b + cond e 1 0 → (a ≤ b + 1) × (b ≤ a + 1)
  by-one a b c true true h = (omega arith, omega arith)
  by-one a b c true false h = (omega arith, omega arith)
  by-one a b c false true h = (omega arith, omega arith)
  by-one a b c false false h = (omega arith, omega arith)

  next : (m : ℕ) → (all (some (suc m)) ≤ all (some m) + cond (f m) 1 0) × (all (some m) ≤ all (some (suc m)) + cond (f m) 1 0)
  next m = go (f m) refl
    where
      level : (a b : ℕ) → a ≡ b → (a ≤ b + 0) × (b ≤ a + 0)
      level a b e = (omega arith, omega arith)

      near : (a b : ℕ) → a ≡ b → (a ≤ b + 1) × (b ≤ a + 1)
      near a b e = (omega arith, omega arith)

      kept : (q m : ℕ) (b : Bool) → q ≢ m → (b && ltb q (suc m)) ≡ (b && ltb q m)
      kept q m b ne = grind (arith, nat_tests)

      apart : (q : ℕ) → q ≢ m → within processes at g (some m) q ≡ within processes at g (some (suc m)) q
      apart q other = ap (λ b. ltb q (length processes) && (eqb (at q) g && cond b joins (s q))) (sym (kept q m (f q) other))

      lacks : (q : ℕ) (b : Bool) → b ≡ false → (b && ltb q (suc m)) ≡ (b && ltb q m)
      lacks q b e = grind arith

      keyed : (o : Option (List ℕ)) → value_of processes key m ≡ o → (all (some (suc m)) ≤ all (some m) + 1) × (all (some m) ≤ all (some (suc m)) + 1)
      keyed None keyless = near _ _ (sym (passing-keyless' processes key tree (within processes at g (some m)) (within processes at g (some (suc m))) m keyless apart))
      keyed (Some v) has =
          by-one _ _ 0 _ _
          (passing-toggled processes key tree differ occur formed (within processes at g (some m)) (within processes at g (some (suc m))) m v has
          (λ x off. apart x (λ same. true≢false (sym (ap (λ o. option_eq bytes_eq o (Some v)) has ∙ nat_list_eq_equiv.refl v) ∙ ap (has_value processes key v) (sym same) ∙ off))))

      go : (b : Bool) → f m ≡ b → (all (some (suc m)) ≤ all (some m) + cond b 1 0) × (all (some m) ≤ all (some (suc m)) + cond b 1 0)
      go true e = keyed (value_of processes key m) refl
      go false e = level _ _ (λ i. all (λ q. cond (same q i) joins (s q)))
        where
          same : (q : ℕ) → (f q && ltb q (suc m)) ≡ (f q && ltb q m)
          same q = elim (cases_eq q m) [ inl here ↦ lacks q (f q) (ap f here ∙ e) | inr other ↦ kept q m (f q) other ]

  near-some : (m : ℕ) → (all (some m) ≤ all s + number_of f m) × (all s ≤ all (some m) + number_of f m)
  near-some zero = level (all (some 0)) (all s) none-yet
    where
      level : (a b : ℕ) → a ≡ b → (a ≤ b + 0) × (b ≤ a + 0)
      level a b e = (omega arith, omega arith)
  near-some (suc m) = sums (all (some (suc m))) (all (some m)) (all s) (cond (f m) 1 0) (number_of f m) (next m) (near-some m)
    where
      sums : (a b c d e : ℕ) → (a ≤ b + d) × (b ≤ a + d) → (b ≤ c + e) × (c ≤ b + e) → (a ≤ c + (d + e)) × (c ≤ a + (d + e))
      sums a b c d e h k = (let x : a ≤ b + d = h.0 in let y : b ≤ c + e = k.0 in omega arith, let x : b ≤ a + d = h.1 in let y : c ≤ b + e = k.1 in omega arith)

  pub near-all : ((q : ℕ) → f q ≡ true → q < length processes) → (all (toggled_by s f joins) ≤ all s + number_of f (length processes)) × (all s ≤ all (toggled_by s f joins) + number_of f (length processes))
  near-all known =
      subst (λ n. (n ≤ all s + number_of f (length processes)) × (all s ≤ n + number_of f (length processes)))
      (λ i. all (λ q. cond (each q (f q) (known q) i) joins (s q))) (near-some (length processes))
    where
      each : (q : ℕ) (b : Bool) → (b ≡ true → q < length processes) → (b && ltb q (length processes)) ≡ b
      each q true h = let low : q < length processes = h refl in grind (arith, nat_tests)
      each q false h = refl

-- a count that so few can't change enough
module _ (processes : List Locality) (at : ℕ → ℕ) (s : ℕ → Bool) (g : ℕ) (node : Node) (wanted : ℕ) (key : Key) (places counts : Vec ℕ Global) (inner : Box Node Global) (is : node ≡ Across wanted key places counts inner) (right : AreCountersOf processes at s node) where
  pub out-of-reach : ValuesDiffer → ValuesOccur → g ≤ length processes → (those : sets.FinSet nat_cmp) (joins : Bool) → CanToggle processes at g s (sets.contains those) joins
      → (count : ℕ) → count ≡ slice_index_or counts.items g 0
      → (joins ≡ true → count + sets.len those < wanted) → (joins ≡ false → wanted + sets.len those ≤ count)
      → not joins ≡ satisfies processes (tree_of_node node) (within processes at g (toggled_by s (sets.contains those) joins))
  unfolding AreCountersOf
  out-of-reach differ occur inside those joins can count read more less =
      go joins (passing processes key (tree_of_node inner.value) (within processes at g (toggled_by s (sets.contains those) joins))) more less
      (subst (λ k. (passing processes key (tree_of_node inner.value) (within processes at g (toggled_by s (sets.contains those) joins)) ≤ passing processes key (tree_of_node inner.value) (within processes at g s) + k)
      × (passing processes key (tree_of_node inner.value) (within processes at g s) ≤ passing processes key (tree_of_node inner.value) (within processes at g (toggled_by s (sets.contains those) joins)) + k)) (number-len those (length processes) can.known)
      (near-all processes at g s key (tree_of_node inner.value) differ occur r.1 (sets.contains those) joins can.known))
      ∙ across-toggled-by processes at g node wanted key places counts inner is (toggled_by s (sets.contains those) joins) _ refl
    where
      r : AreCountersOf processes at s (Across wanted key places counts inner)
      r = subst (AreCountersOf processes at s) is right

      now : count ≡ passing processes key (tree_of_node inner.value) (within processes at g s)
      now = read ∙ r.0.each g inside

      short : (c n l m w : ℕ) → c ≡ n → m ≤ n + l → c + l < w → false ≡ leb w m
      short c n l m w e h k = grind (arith, nat_tests)

      enough : (c n l m w : ℕ) → c ≡ n → n ≤ m + l → w + l ≤ c → true ≡ leb w m
      enough c n l m w e h k = grind (arith, nat_tests)

      go : (joins : Bool) (after : ℕ) → (joins ≡ true → count + sets.len those < wanted) → (joins ≡ false → wanted + sets.len those ≤ count)
          → (after ≤ passing processes key (tree_of_node inner.value) (within processes at g s) + sets.len those) × (passing processes key (tree_of_node inner.value) (within processes at g s) ≤ after + sets.len those)
          → not joins ≡ leb wanted after
      go true after more less near = short count _ (sets.len those) after wanted now near.0 (more refl)
      go false after more less near = enough count _ (sets.len those) after wanted now near.1 (less refl)

-- ---- one process alone
module _ (processes : List Locality) (at : ℕ → ℕ) (s : ℕ → Bool) (p : ℕ) (joins : Bool) (g : ℕ) (few : length processes ≤ 1024) (small : p < length processes) (here : at p ≡ g) (inside : g ≤ length processes) (was : s p ≡ not joins) (node : Node) where
  pub one-alone : (counts : Vec ℕ Global) → node ≡ One counts → AreCountersOf processes at s node → (count : ℕ) → count ≡ slice_index_or counts.items g 0 → (answer : Bool) → answer ≡ (joins || ltb 1 count)
      → answer ≡ satisfies processes (tree_of_node node) (within processes at g (toggled s p joins))
  unfolding AreCountersOf
  one-alone counts is right count read answer told =
      told
      ∙ beside joins count _ _ (read ∙ r.each g inside)
      (ap (λ b. number_of (within processes at g (toggled s p joins)) (length processes) + cond b 1 0) (sym (its-own processes at s p joins g few small here inside was s (not joins) was))
      ∙ number-toggled (within processes at g s) (within processes at g (toggled s p joins)) (length processes) p small (λ q apart. within-apart processes at s p joins g q apart)
      ∙ ap (λ b. number_of (within processes at g s) (length processes) + cond b 1 0) (its-own processes at s p joins g few small here inside was (toggled s p joins) joins (now-is processes at s p joins g few small here inside was)))
      ∙ one-number processes (within processes at g (toggled s p joins))
      ∙ ap (λ n. satisfies processes (tree_of_node n) (within processes at g (toggled s p joins))) (sym is)
    where
      r : AreCountersOf processes at s (One counts)
      r = subst (AreCountersOf processes at s) is right

      more : (n m : ℕ) → m + 0 ≡ n + 1 → true ≡ ltb 0 m
      more n m e = grind (arith, nat_tests)

      less : (c n m : ℕ) → c ≡ n → m + 1 ≡ n + 0 → ltb 1 c ≡ ltb 0 m
      less c n m e f = grind (arith, nat_tests)

      beside : (joins : Bool) (c n m : ℕ) → c ≡ n → m + cond (not joins) 1 0 ≡ n + cond joins 1 0 → (joins || ltb 1 c) ≡ ltb 0 m
      beside true c n m e f = more n m f
      beside false c n m e f = less c n m e f

  module _ (wanted : ℕ) (key : Key) (places counts : Vec ℕ Global) (inner : Box Node Global) (is : node ≡ Across wanted key places counts inner) (right : AreCountersOf processes at s node) (count : ℕ) (read : count ≡ slice_index_or counts.items g 0) where
    now-count : count ≡ passing processes key (tree_of_node inner.value) (within processes at g s)
    now-count = across-count processes at s g node wanted key places counts inner is right inside count read

    formed-below : IsWellFormed (tree_of_node inner.value)
    unfolding AreCountersOf
    formed-below =
        let r : AreCountersOf processes at s (Across wanted key places counts inner) = subst (AreCountersOf processes at s) is right in
        r.1

    pub keyless-alone : is_some (value_of processes key p) ≡ false → leb wanted count ≡ satisfies processes (tree_of_node node) (within processes at g (toggled s p joins))
    keyless-alone lacks =
        across-toggled-by processes at g node wanted key places counts inner is (toggled s p joins) count
        (now-count ∙ passing-keyless' processes key (tree_of_node inner.value) (within processes at g s) (within processes at g (toggled s p joins)) p (without _ lacks) (λ x apart. within-apart processes at s p joins g x apart))
      where
        without : (o : Option (List ℕ)) → is_some o ≡ false → o ≡ None
        without None e = refl
        without (Some v) e = absurd (true≢false e)

    pub keyed-alone : ValuesDiffer → ValuesOccur → is_some (value_of processes key p) ≡ true → (before after : Bool)
        → before ≡ satisfies processes (tree_of_node inner.value) (within processes (group_at places.items) (group_at places.items p) s)
        → after ≡ satisfies processes (tree_of_node inner.value) (within processes (group_at places.items) (group_at places.items p) (toggled s p joins))
        → (count' : ℕ) → (count < 2147483648 → cond before 1 0 ≤ count + cond after 1 0 → count' + cond before 1 0 ≡ count + cond after 1 0)
        → leb wanted count' ≡ satisfies processes (tree_of_node node) (within processes at g (toggled s p joins))
    keyed-alone differ occur some before after b a count' change = go (value_of processes key p) refl some
      where
        small-count : (x y m : ℕ) → x ≡ y → y ≤ m → m ≤ 1024 → x < 2147483648
        small-count x y m e h k = omega arith

        room : (n a b c : ℕ) → n + a ≡ b + c → a ≤ b + c
        room n a b c e = omega arith

        same : (x n a b c : ℕ) → x + a ≡ b + c → n + a ≡ b + c → x ≡ n
        same x n a b c e f = omega arith

        go : (o : Option (List ℕ)) → value_of processes key p ≡ o → is_some o ≡ true → leb wanted count' ≡ satisfies processes (tree_of_node node) (within processes at g (toggled s p joins))
        go None e h = absurd (true≢false (sym h))
        go (Some v) has h =
            let itself : has_value processes key v p ≡ true = ap (λ o. option_eq bytes_eq o (Some v)) has ∙ nat_list_eq_equiv.refl v in
            let group-is = λ (t : ℕ → Bool). regroup processes at s p joins g few small here inside was node wanted key places counts inner is right v has t in
            let sum : passing processes key (tree_of_node inner.value) (within processes at g (toggled s p joins)) + cond before 1 0 ≡ count + cond after 1 0 =
            ap (λ b. passing processes key (tree_of_node inner.value) (within processes at g (toggled s p joins)) + cond b 1 0) (b ∙ ap (satisfies processes (tree_of_node inner.value)) (sym (group-is s)))
            ∙ passing-toggled processes key (tree_of_node inner.value) differ occur formed-below (within processes at g s) (within processes at g (toggled s p joins)) p v has (λ x lacks. within-apart processes at s p joins g x (λ e. true≢false (sym itself ∙ ap (has_value processes key v) (sym e) ∙ lacks)))
            ∙ (λ i. (sym now-count) i + cond (satisfies processes (tree_of_node inner.value) (group-is (toggled s p joins) i)) 1 0)
            ∙ ap (λ b. count + cond b 1 0) (sym a) in
            across-toggled-by processes at g node wanted key places counts inner is (toggled s p joins) count'
            (same _ _ _ _ _ (change (small-count _ _ _ now-count (passing-le processes key (tree_of_node inner.value) _) few) (room _ _ _ _ sum)) sum)

    -- the count changes by one at most
    pub out-of-reach-alone : ValuesDiffer → ValuesOccur → (joins ≡ true → count + 1 < wanted) → (joins ≡ false → wanted + 1 ≤ count)
        → not joins ≡ satisfies processes (tree_of_node node) (within processes at g (toggled s p joins))
    out-of-reach-alone differ occur more less = go (is_some (value_of processes key p)) refl
      where
        tree : Tree
        tree = tree_of_node inner.value

        before : Bool
        before = satisfies processes tree (within processes (group_at places.items) (group_at places.items p) s)

        after : Bool
        after = satisfies processes tree (within processes (group_at places.items) (group_at places.items p) (toggled s p joins))

        stays : (joins : Bool) (c w : ℕ) (b a : Bool) → (joins ≡ true → c + 1 < w) → (joins ≡ false → w + 1 ≤ c) → not joins ≡ leb w (c + cond a 1 0 - cond b 1 0)
        stays true c w b a more less = low c w b a (more refl)
          where
            low : (c w : ℕ) (b a : Bool) → c + 1 < w → false ≡ leb w (c + cond a 1 0 - cond b 1 0)
            low c w true true h = grind (arith, nat_tests)
            low c w true false h = grind (arith, nat_tests)
            low c w false true h = grind (arith, nat_tests)
            low c w false false h = grind (arith, nat_tests)
        stays false c w b a more less = high c w b a (less refl)
          where
            high : (c w : ℕ) (b a : Bool) → w + 1 ≤ c → true ≡ leb w (c + cond a 1 0 - cond b 1 0)
            high c w true true h = grind (arith, nat_tests)
            high c w true false h = grind (arith, nat_tests)
            high c w false true h = grind (arith, nat_tests)
            high c w false false h = grind (arith, nat_tests)

        still : (joins : Bool) (c w : ℕ) → (joins ≡ true → c + 1 < w) → (joins ≡ false → w + 1 ≤ c) → not joins ≡ leb w c
        still true c w more less = low c w (more refl)
          where
            low : (c w : ℕ) → c + 1 < w → false ≡ leb w c
            low c w h = grind (arith, nat_tests)
        still false c w more less = high c w (less refl)
          where
            high : (c w : ℕ) → w + 1 ≤ c → true ≡ leb w c
            high c w h = grind (arith, nat_tests)

        back : (c b a : ℕ) → b ≤ c + a → c + a - b + b ≡ c + a
        back c b a h = omega arith

        go : (some : Bool) → is_some (value_of processes key p) ≡ some → not joins ≡ satisfies processes (tree_of_node node) (within processes at g (toggled s p joins))
        go true some = stays joins count wanted before after more less ∙ keyed-alone differ occur some before after refl refl (count + cond after 1 0 - cond before 1 0) (λ _ room. back count (cond before 1 0) (cond after 1 0) room)
        go false none = still joins count wanted more less ∙ keyless-alone none
