-- who is left where the destroyed don't satisfy a policy
use Rattle.std.proofs.Common.{◌≡◌, ℕ, ◌+◌, ◌<◌, ◌≤◌, zero, suc, Bool, true, false, cond, not, ◌&&◌, ◌||◌, Some, List, [], ◌∷◌, length, inl, inr, refl, sym, ap, ◌∙◌, true≢false, arith}
use Rattle.std.specs.Prelude.{option_and_then}
use Rattle.std.specs.Option.{option_eq}
use Rattle.std.proofs.lemmas.Option.{slice_get_cases}
use Rattle.std.specs.List.{IsDistinct, AllByRecursion, list_any, range_with_len}
use Rattle.std.specs.Str.{bytes_eq}
use Rattle.std.proofs.lemmas.Bool.{cases_lt}
use Rattle.std.proofs.lemmas.Slice.Eq.{bytes_eq-Decides}
use Rattle.fy_locality.specs.declared.locality.Locality.{Locality}
use Rattle.fy_locality.specs.declared.key.Key.TheVariants.{Process}
use Rattle.fy_locality.specs.Locality.{NamesDiffer, has_value, value_in, value_of}
use Rattle.fy_policy.specs.Counted.{number_of}
use Rattle.fy_policy.specs.Laws.{SomeHolderIsLeft, AQuorumIsLeft}
use Rattle.fy_policy.specs.Sat.{Sat, IsValueOf, group}
use Rattle.fy_policy.specs.Tree.{one, across}
use Rattle.fy_policy.proofs.Counts.{any_found, found_any}
use Rattle.fy_policy.proofs.SatLaws.{Sat-more-below}

-- ---- some holder is left
held : (holds gone : Bool) → (holds && not gone) ≡ true → (holds ≡ true) × (gone ≡ false)
held true true e = absurd (true≢false (sym e))
held true false e = (refl, refl)
held false gone e = absurd (true≢false (sym e))

-- who is in either set and not a holder that is left is destroyed
gone_too : (holds gone : Bool) → ((holds && not gone) ≡ true → ⊥) → (holds || gone) ≡ true → gone ≡ true
gone_too holds true none e = refl
gone_too true false none e = absurd (none refl)
gone_too false false none e = absurd (true≢false (sym e))

pub holder_left : SomeHolderIsLeft
holder_left processes policy holders destroyed is_satisfied_at short = go (list_any left (range_with_len 0 (length processes))) refl
  where
    left : ℕ → Bool
    left = λ p. holders p && not (destroyed p)

    go : (b : Bool) → list_any left (range_with_len 0 (length processes)) ≡ b → (p : ℕ) × (p < length processes) × (holders p ≡ true) × (destroyed p ≡ false)
    go true is =
        let found = any_found left 0 (length processes) is in
        let below : found.0 < 0 + length processes = found.2 in
        let both = held (holders found.0) (destroyed found.0) found.3 in
        (found.0, omega arith, both.0, both.1)
    go false is = absurd (short (Sat-more-below processes policy _ destroyed (λ p below e.
        gone_too (holders p) (destroyed p) (λ h. true≢false (sym (found_any left 0 (length processes) p (omega arith) (omega arith) h) ∙ is)) e) is_satisfied_at))

-- ---- a quorum is left
-- different names, one for each of the first n processes that pass
record Named (processes : List Locality) (s : ℕ → Bool) (n : ℕ) : Type 0 where
  names : List (List ℕ)
  many : length names ≡ number_of s n
  different : IsDistinct bytes_eq names
  each : AllByRecursion (λ v. (p : ℕ) × (p < n) × (s p ≡ true) × (value_of processes Process p ≡ Some v)) names

a_name : (processes : List Locality) (n : ℕ) → n < length processes → (v : List ℕ) × (value_of processes Process n ≡ Some v)
a_name processes n below = elim (slice_get_cases processes n).1 [
  | inl at ↦ (at.0.process, ap (λ found. option_and_then (value_in Process) found) at.2)
  | inr past ↦ absurd (omega arith)
]

-- a name of its own differs from those of the processes before
apart : (processes : List Locality) (s : ℕ → Bool) (n : ℕ) (v : List ℕ) → NamesDiffer processes → value_of processes Process n ≡ Some v → (names : List (List ℕ)) → AllByRecursion (λ w. (p : ℕ) × (p < n) × (s p ≡ true) × (value_of processes Process p ≡ Some w)) names → AllByRecursion (λ w. bytes_eq v w ≡ false) names
apart processes s n v differ is [] each = tt
apart processes s n v differ is (w ∷ ws) each = (other (bytes_eq v w) refl, apart processes s n v differ is ws each.1)
  where
    other : (b : Bool) → bytes_eq v w ≡ b → b ≡ false
    other true e =
        let same : v ≡ w = (bytes_eq-Decides v w).0 e in
        let one_process : each.0.0 ≡ n = differ each.0.0 n v (each.0.3 ∙ ap Some (sym same)) is in
        let before : each.0.0 < n = each.0.1 in
        absurd (omega arith)
    other false e = refl

further : (processes : List Locality) (s : ℕ → Bool) (n : ℕ) (names : List (List ℕ)) → AllByRecursion (λ w. (p : ℕ) × (p < n) × (s p ≡ true) × (value_of processes Process p ≡ Some w)) names → AllByRecursion (λ w. (p : ℕ) × (p < suc n) × (s p ≡ true) × (value_of processes Process p ≡ Some w)) names
further processes s n [] each = tt
further processes s n (w ∷ ws) each = ((each.0.0, (let before : each.0.0 < n = each.0.1 in omega arith), each.0.2, each.0.3), further processes s n ws each.1)

named : (processes : List Locality) (s : ℕ → Bool) → NamesDiffer processes → (n : ℕ) → n ≤ length processes → Named processes s n
unfolding IsDistinct
named processes s differ zero within = record { names = []; many = refl; different = tt; each = tt }
named processes s differ (suc n) within = go (named processes s differ n (omega arith)) (s n) refl
  where
    go : Named processes s n → (b : Bool) → s n ≡ b → Named processes s (suc n)
    go before true is =
        let name = a_name processes n (omega arith) in
        record {
          names = name.0 ∷ before.names;
          many = (let count : length before.names ≡ number_of s n = before.many in let r : suc (length before.names) ≡ 1 + number_of s n = omega arith in r) ∙ ap (λ b. cond b 1 0 + number_of s n) (sym is);
          different = (apart processes s n name.0 differ name.1 before.names before.each, before.different);
          each = ((n, omega arith, is, name.1), further processes s n before.names before.each);
        }
    go before false is = record {
      names = before.names;
      many = (let count : length before.names ≡ number_of s n = before.many in let r : length before.names ≡ 0 + number_of s n = omega arith in r) ∙ ap (λ b. cond b 1 0 + number_of s n) (sym is);
      different = before.different;
      each = further processes s n before.names before.each;
    }

-- each name of a process of the set is a value whose group has that process
each_value : (processes : List Locality) (s : ℕ → Bool) (n : ℕ) → n ≤ length processes → (names : List (List ℕ)) → AllByRecursion (λ w. (p : ℕ) × (p < n) × (s p ≡ true) × (value_of processes Process p ≡ Some w)) names → AllByRecursion (λ w. IsValueOf processes Process w × Sat processes one (group processes Process w s)) names
unfolding Sat
each_value processes s n within [] each = tt
each_value processes s n within (w ∷ ws) each =
    let before : each.0.0 < n = each.0.1 in
    let has : has_value processes Process w each.0.0 ≡ true = ap (λ v. option_eq bytes_eq v (Some w)) each.0.3 ∙ (bytes_eq-Decides w w).1 refl in
    let in_group : group processes Process w s each.0.0 ≡ true = ap (λ b. b && has_value processes Process w each.0.0) each.0.2 ∙ has in
    (((each.0.0, each.0.3), (each.0.0, omega arith, in_group)), each_value processes s n within ws each.1)

-- a set of k processes or more satisfies Across(k,processid,One())
enough : (processes : List Locality) (k : ℕ) (s : ℕ → Bool) → NamesDiffer processes → k ≤ number_of s (length processes) → Sat processes (across k Process one) s
unfolding Sat
enough processes k s differ many =
    let all = named processes s differ (length processes) (omega arith) in
    record {
      names = all.names;
      many = (let count : length all.names ≡ number_of s (length processes) = all.many in omega arith);
      different = all.different;
      each = each_value processes s (length processes) (omega arith) all.names all.each;
    }

-- those of a set and the others are all
all_told : (s : ℕ → Bool) (n : ℕ) → number_of s n + number_of (λ p. not (s p)) n ≡ n
all_told s zero = refl
all_told s (suc n) = let rest : number_of s n + number_of (λ p. not (s p)) n ≡ n = all_told s n in go (s n) rest
  where
    go : (b : Bool) → number_of s n + number_of (λ p. not (s p)) n ≡ n → (cond b 1 0 + number_of s n) + (cond (not b) 1 0 + number_of (λ p. not (s p)) n) ≡ suc n
    go true rest = omega arith
    go false rest = omega arith

pub quorum_left : AQuorumIsLeft
quorum_left processes k destroyed differ short = elim (cases_lt (number_of destroyed (length processes)) k) [
  | inl fewer ↦ (let all : number_of destroyed (length processes) + number_of (λ p. not (destroyed p)) (length processes) ≡ length processes = all_told destroyed (length processes) in omega arith)
  | inr many ↦ absurd (short (enough processes k destroyed differ many))
]
