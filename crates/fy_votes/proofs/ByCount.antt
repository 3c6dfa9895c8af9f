-- how many may forget, where both policies count processes
use Rattle.std.proofs.Common.{◌≡◌, ℕ, zero, suc, ◌+◌, ◌-◌, ◌<◌, ◌≤◌, inl, inr, Bool, true, false, cond, eqb, not, ◌&&◌, ◌||◌, Option, Some, None, List, [], ◌∷◌, length, refl, sym, ap, subst, ◌∙◌, arith}
use Rattle.std.specs.Prelude.{nat_lt}
use Rattle.std.specs.List.{IsDistinct, AllByRecursion}
use Rattle.std.specs.Option.{option_eq}
use Rattle.std.specs.Str.{bytes_eq}
use Rattle.std.proofs.lemmas.Bool.{false≢true, both_ways, cases_lt}
use Rattle.std.proofs.lemmas.Bool.Decides.{nat_tests}
use Rattle.std.proofs.lemmas.Slice.Eq.{bytes_eq-Decides}
use Rattle.fy_locality.specs.declared.locality.Locality.{Locality}
use Rattle.fy_locality.specs.declared.key.Key.TheVariants.{Process}
use Rattle.fy_locality.specs.Locality.{NamesDiffer, has_value, value_of}
use Rattle.fy_policy.specs.Counted.{number_of}
use Rattle.fy_policy.specs.Laws.{AQuorumIsLeft, TestIsSatisfaction}
use Rattle.fy_policy.specs.Sat.{Sat, IsValueOf, group, satisfies}
use Rattle.fy_policy.specs.Tree.{one}
use Rattle.fy_policy.proofs.Tallied.{number-toggled}
use Rattle.fy_policy.proofs.Toggling.{number-sum}
use Rattle.fy_votes.specs.Counting.{any_of, ByCounts, MostMayForget}
use Rattle.fy_votes.specs.Votes.{MayForget}
use Rattle.fy_votes.proofs.Numbers.{all_told, meet_by_number}

-- ---- whoever satisfies such a policy has as many processes as it counts
-- a process of the set has the name
record IsNamed (processes : List Locality) (n : ℕ) (s : ℕ → Bool) (name : List ℕ) : Type 0 where
  process : ℕ
  below : process < n
  inside : s process ≡ true
  has : value_of processes Process process ≡ Some name

pub without : (ℕ → Bool) → ℕ → ℕ → Bool
without s p q = s q && not (eqb q p)

pub without_is : (s : ℕ → Bool) (p q : ℕ) → without s p q ≡ (s q && not (eqb q p))
unfolding without
without_is s p q = refl

pub others_stay : (s : ℕ → Bool) (p q : ℕ) → (q ≡ p → ⊥) → s q ≡ without s p q
unfolding without
others_stay s p q other = grind (arith, nat_tests)

pub it_is_out : (s : ℕ → Bool) (p : ℕ) → without s p p ≡ false
unfolding without
it_is_out s p = grind (arith, nat_tests)

others_named : (processes : List Locality) (n : ℕ) (s : ℕ → Bool) (p : ℕ) (name : List ℕ) → value_of processes Process p ≡ Some name → (names : List (List ℕ)) → AllByRecursion (λ w. bytes_eq name w ≡ false) names → AllByRecursion (IsNamed processes n s) names → AllByRecursion (IsNamed processes n (without s p)) names
others_named processes n s p name at [] apart named = tt
others_named processes n s p name at (w ∷ ws) apart named = (
  record {
    process = named.0.process;
    below = named.0.below;
    inside = sym (others_stay s p named.0.process other) ∙ named.0.inside;
    has = named.0.has;
  },
  others_named processes n s p name at ws apart.1 named.1,
)
  where
    other : named.0.process ≡ p → ⊥
    other same =
        let found : Some name ≡ Some w = sym at ∙ ap (value_of processes Process) (sym same) ∙ named.0.has in
        let equal : name ≡ w = cc in
        both_ways _ apart.0 ((bytes_eq-Decides name w).1 equal)

no_more : (processes : List Locality) (n : ℕ) (names : List (List ℕ)) (s : ℕ → Bool) → IsDistinct bytes_eq names → AllByRecursion (IsNamed processes n s) names → length names ≤ number_of s n
unfolding IsDistinct
no_more processes n [] s different named = omega arith
no_more processes n (name ∷ names) s different named =
    let p : ℕ = named.0.process in
    let rest : length names ≤ number_of (without s p) n = no_more processes n names (without s p) different.1 (others_named processes n s p name named.0.has names different.0 named.1) in
    let toggled : number_of (without s p) n + cond (s p) 1 0 ≡ number_of s n + cond (without s p p) 1 0 = number-toggled s (without s p) n p named.0.below (λ q other. others_stay s p q other) in
    counts _ _ _ (number_of s n) (length names) rest toggled (ap (λ b. cond b 1 0) named.0.inside) (ap (λ b. cond b 1 0) (it_is_out s p))
  where
    counts : (less one' none' all names : ℕ) → names ≤ less → less + one' ≡ all + none' → one' ≡ 1 → none' ≡ 0 → suc names ≤ all
    counts less one' none' all names a b c d = omega arith

has_name : (processes : List Locality) (name : List ℕ) (p : ℕ) (o : Option (List ℕ)) → option_eq bytes_eq o (Some name) ≡ true → o ≡ Some name
has_name processes name p None e = absurd (false≢true e)
has_name processes name p (Some v) e = ap Some ((bytes_eq-Decides v name).0 e)

both_are : (a b : Bool) → (a && b) ≡ true → (a ≡ true) × (b ≡ true)
both_are true b e = (refl, e)
both_are false b e = absurd (false≢true e)

each_named : (processes : List Locality) (s : ℕ → Bool) (names : List (List ℕ)) → AllByRecursion (λ v. IsValueOf processes Process v × Sat processes one (group processes Process v s)) names → AllByRecursion (IsNamed processes (length processes) s) names
unfolding Sat
each_named processes s [] each = tt
each_named processes s (v ∷ vs) each =
    let found = each.0.1 in
    let is = both_are (s found.0) (has_value processes Process v found.0) found.2 in (
      record {
        process = found.0;
        below = found.1;
        inside = is.0;
        has = has_name processes v found.0 _ is.1;
      },
      each_named processes s vs each.1,
    )

pub has_so_many : (processes : List Locality) (k : ℕ) (s : ℕ → Bool) → Sat processes (any_of k) s → k ≤ number_of s (length processes)
unfolding Sat
has_so_many processes k s sat =
    let found : length sat.names ≤ number_of s (length processes) = no_more processes (length processes) sat.names s sat.different (each_named processes s sat.names sat.each) in
    let many : k ≤ length sat.names = sat.many in
    omega arith

-- ---- and a set of so many satisfies it
pub so_many_satisfy : AQuorumIsLeft → TestIsSatisfaction → (processes : List Locality) (k : ℕ) (s : ℕ → Bool) → NamesDiffer processes → k ≤ number_of s (length processes) → Sat processes (any_of k) s
so_many_satisfy quorum tested processes k s differ many = go (satisfies processes (any_of k) s) refl
  where
    go : (b : Bool) → satisfies processes (any_of k) s ≡ b → Sat processes (any_of k) s
    go true is = (tested processes (any_of k) s).0 is
    go false is =
        let left : length processes + 1 ≤ number_of (λ p. not (s p)) (length processes) + k = quorum processes k s differ (λ sat. both_ways _ is ((tested processes (any_of k) s).1 sat)) in
        let all : number_of s (length processes) + number_of (λ p. not (s p)) (length processes) ≡ length processes = all_told s (length processes) in
        absurd (omega arith)

-- ---- two groups that have no more in common than they must
-- a place below which so many pass
reach : (f : ℕ → Bool) (n t : ℕ) → t ≤ number_of f n → (m : ℕ) × (m ≤ n) × (number_of f m ≡ t)
reach f zero t few = (0, omega arith, omega arith)
reach f (suc n) t few = elim (cases_lt (number_of f n) t) [
  | inl over ↦ (suc n, omega arith, all (f n) over few)
  | inr within ↦ let before = reach f n t within in (before.0, (let low : before.0 ≤ n = before.1 in omega arith), before.2)
]
  where
    all : (b : Bool) → number_of f n < t → t ≤ cond b 1 0 + number_of f n → cond b 1 0 + number_of f n ≡ t
    all true over few = omega arith
    all false over few = omega arith

-- those that pass below a place
number_below : (f : ℕ → Bool) (m n : ℕ) → m ≤ n → number_of (λ p. f p && nat_lt p m) n ≡ number_of f m
number_below f m zero within = (let none : m ≡ 0 = omega arith in sym (ap (number_of f) none))
number_below f m (suc n) within = elim (cases_lt n m) [
  | inl last ↦ (let all : m ≡ suc n = omega arith in subst (λ k. number_of (λ p. f p && nat_lt p k) (suc n) ≡ number_of f k) (sym all) (whole (suc n) (omega arith)))
  | inr below ↦ one_out (f n) (nat_lt n m) (not_below n m below) (number_below f m n below)
]
  where
    not_below : (n m : ℕ) → m ≤ n → nat_lt n m ≡ false
    not_below n m h = grind (arith, nat_tests)

    below_too : (p k : ℕ) → p < k → nat_lt p k ≡ true
    below_too p k h = grind (arith, nat_tests)

    one_out : (a b : Bool) → b ≡ false → number_of (λ p. f p && nat_lt p m) n ≡ number_of f m → cond (a && b) 1 0 + number_of (λ p. f p && nat_lt p m) n ≡ number_of f m
    one_out true true e rest = absurd (false≢true (sym e))
    one_out true false e rest = omega arith
    one_out false b e rest = omega arith

    kept : (a b : Bool) → b ≡ true → (a && b) ≡ a
    kept true b e = e
    kept false b e = refl

    whole_to : (k j : ℕ) → j ≤ k → number_of (λ p. f p && nat_lt p k) j ≡ number_of f j
    whole_to k zero h = refl
    whole_to k (suc j) h = λ i. cond (kept (f j) (nat_lt j k) (below_too j k (omega arith)) i) 1 0 + whole_to k j (omega arith) i

    whole : (k : ℕ) → k ≤ k → number_of (λ p. f p && nat_lt p k) k ≡ number_of f k
    whole k h = whole_to k k h

module _ (quorum : AQuorumIsLeft) (tested : TestIsSatisfaction) (processes : List Locality) (w e : ℕ) (forgetful : ℕ → Bool) (differ : NamesDiffer processes) (w_few : w ≤ length processes) (e_few : e ≤ length processes) where
  abbrev count : ℕ
  count = length processes

  abbrev others : ℕ → Bool
  others p = not (forgetful p)

  too_many : w + e ≤ number_of forgetful count + count → MayForget processes (any_of w) (any_of e) forgetful → ⊥
  too_many many may =
      let all : number_of forgetful count + number_of others count ≡ count = all_told forgetful count in
      let place = reach others count (w - number_of forgetful count) (omega arith) in
      let m : ℕ = place.0 in
      let taken : ℕ → Bool = λ p. others p && nat_lt p m in
      let writers : ℕ → Bool = λ p. forgetful p || (others p && nat_lt p m) in
      let voters : ℕ → Bool = λ p. forgetful p || (others p && not (nat_lt p m)) in
      let taken_is : number_of taken count ≡ w - number_of forgetful count = number_below others m count place.1 ∙ place.2 in
      let writers_are : number_of forgetful count + number_of taken count ≡ number_of writers count = number-sum forgetful writers taken count (λ q below. apart (forgetful q) (nat_lt q m)) in
      let voters_are : number_of voters count + number_of taken count ≡ number_of (λ p. true) count = number-sum voters (λ p. true) taken count (λ q below. rest (forgetful q) (nat_lt q m)) in
      let everyone : number_of (λ p. true) count ≡ count = number_all count in
      let met = may writers voters (so_many_satisfy quorum tested processes w writers differ (omega arith)) (so_many_satisfy quorum tested processes e voters differ (omega arith)) in
      nobody (forgetful met.process) (nat_lt met.process m) met.remembers met.wrote met.votes
    where
      apart : (f l : Bool) → cond f 1 0 + cond (not f && l) 1 0 ≡ cond (f || (not f && l)) 1 0
      apart true l = refl
      apart false true = refl
      apart false false = refl

      rest : (f l : Bool) → cond (f || (not f && not l)) 1 0 + cond (not f && l) 1 0 ≡ 1
      rest true l = refl
      rest false true = refl
      rest false false = refl

      nobody : (f l : Bool) → f ≡ false → (f || (not f && l)) ≡ true → (f || (not f && not l)) ≡ true → ⊥
      nobody true l a b c = false≢true (sym a)
      nobody false true a b c = false≢true c
      nobody false false a b c = false≢true b

      number_all : (n : ℕ) → number_of (λ p. true) n ≡ n
      number_all zero = refl
      number_all (suc n) = let below : number_of (λ p. true) n ≡ n = number_all n in (let r : 1 + number_of (λ p. true) n ≡ suc n = omega arith in r)

  only_few : MayForget processes (any_of w) (any_of e) forgetful → number_of forgetful count + count < w + e
  only_few may = elim (cases_lt (number_of forgetful count + count) (w + e)) [
    | inl few ↦ few
    | inr many ↦ absurd (too_many many may)
  ]

  few_may : number_of forgetful count + count < w + e → MayForget processes (any_of w) (any_of e) forgetful
  few_may few writers voters wrote voted =
      let a : w ≤ number_of writers count = has_so_many processes w writers wrote in
      let b : e ≤ number_of voters count = has_so_many processes e voters voted in
      meet_by_number processes writers voters forgetful (omega arith)

pub by_counts : AQuorumIsLeft → TestIsSatisfaction → ByCounts
by_counts quorum tested processes w e forgetful differ w_few e_few = (
  only_few quorum tested processes w e forgetful differ w_few e_few,
  few_may quorum tested processes w e forgetful differ w_few e_few,
)

pub most_may_forget : AQuorumIsLeft → TestIsSatisfaction → (count w e most : ℕ) → w ≤ count → e ≤ count → w + e ≡ most + count + 1 → MostMayForget count w e most
most_may_forget quorum tested count w e most w_few e_few sum processes forgetful differ many =
    let so = by_counts quorum tested processes w e forgetful differ (omega arith) (omega arith) in
    let same : number_of forgetful (length processes) ≡ number_of forgetful count = ap (number_of forgetful) many in (
      (λ may. (let few : number_of forgetful (length processes) + length processes < w + e = so.0 may in omega arith)),
      (λ few. so.1 (let small : number_of forgetful count ≤ most = few in omega arith)),
    )
