-- what zones show of a history
use Rattle.std.proofs.Common.{inl, inr, ◌⊎◌, ◌≡◌, ℕ, ◌+◌, ◌*◌, ◌<◌, ◌≤◌, ◌==◌, min, cond, List, [], ◌∷◌, ◌++◌, length, take, get_or, Some, None, Option, refl, sym, ap, subst, ◌∙◌, arith, All, IsPermutation, IfNone}
use Rattle.std.specs.List.{Contains, AllPairs}
use Rattle.std.proofs.lemmas.List.{get_or_default, take_more}
use Rattle.std.proofs.lemmas.List.Elements.{Contains-push, Contains-push_cases, Contains-append_left, All-contains}
use Rattle.std.proofs.lemmas.List.Sorted.{Contains-permutation, IsPermutation-sym, sum_by-IsPermutation}
use Rattle.fy_registers.specs.declared.operation.Act.TheVariants.{Read}
use Rattle.fy_registers.specs.declared.operation.Operation.{Operation}
use Rattle.fy_registers.specs.declared.evidence.Span.{Span}
use Rattle.fy_registers.specs.declared.evidence.Evidence.{Evidence}
use Rattle.fy_registers.specs.declared.evidence.Evidence.TheVariants.{Nothing, Conflict}
use Rattle.fy_registers.specs.declared.zone.Zone.{Zone}
use Rattle.fy_registers.specs.Linear.{HasEnded, IsHistory, IsWrittenOnce, IsLinearizable}
use Rattle.fy_registers.specs.Evidence.{IsReadOf, IsSpanOf, Shows}
use Rattle.fy_registers.specs.Zones.{IsZone, AreZones, AreTorn, IsLastOfNothing, IsNothingFirst, MayPrecede}
use Rattle.fy_registers.proofs.Lists.{pairs_apart}
use Rattle.fy_registers.proofs.Seeing.{began_before}
use Rattle.fy_registers.proofs.Refuting.{evidence_refutes}
use Rattle.fy_registers.proofs.Building.{linearizable}

-- ---- the last read that found nothing
module _ (h : List Operation) (history : IsHistory h) (i : ℕ) (d0 : Operation) (below : i < length h) where
  abbrev next : Operation
  next = get_or h i d0

  next_is : take (i + 1) h ≡ take i h ++ next ∷ []
  next_is = take_more h i d0 below

  grown : (answer : Option ℕ) (o : Operation) → IsReadOf (take i h) answer o → IsReadOf (take (i + 1) h) answer o
  grown answer o read = record {
    within = subst (λ xs. Contains xs o) (sym next_is) (Contains-append_left (take i h) (next ∷ []) o read.within);
    act = read.act;
    ended = read.ended;
  }

  older : (answer : Option ℕ) (o : Operation) → IsReadOf (take (i + 1) h) answer o → IsReadOf (take i h) answer o ⊎ (next ≡ o)
  older answer o read = go (Contains-push_cases (take i h) next o (subst (λ xs. Contains xs o) next_is read.within))
    where
      go : Contains (take i h) o ⊎ (next ≡ o) → IsReadOf (take i h) answer o ⊎ (next ≡ o)
      go (inl there) = inl (record { within = there; act = read.act; ended = read.ended })
      go (inr same) = inr same

  pub last_same : (last : Option Operation) → IsLastOfNothing (take i h) last → (next.act ≡ Read None → HasEnded next → ⊥) → IsLastOfNothing (take (i + 1) h) last
  last_same last so_far other = record {
    found = λ r e. grown None r (so_far.found r e);
    latest = λ o read. go o read (older None o read);
  }
    where
      go : (o : Operation) → IsReadOf (take (i + 1) h) None o → IsReadOf (take i h) None o ⊎ (next ≡ o) → (r : Operation) × (last ≡ Some r) × (o.began ≤ r.began)
      go o read (inl old) = so_far.latest o old
      go o read (inr same) = absurd (other (ap (λ (q : Operation). q.act) same ∙ read.act) (subst HasEnded (sym same) read.ended))

  pub last_more : (last : Option Operation) → IsLastOfNothing (take i h) last → next.act ≡ Read None → HasEnded next → IsLastOfNothing (take (i + 1) h) (Some next)
  last_more last so_far act ended = record {
    found = λ r e. let same : next ≡ r = cc in subst (λ q. IsReadOf (take (i + 1) h) None q) same (record {
      within = subst (λ xs. Contains xs next) (sym next_is) (Contains-push (take i h) next);
      act = act;
      ended = ended;
    });
    latest = λ o read. (next, refl, go o (older None o read));
  }
    where
      go : (o : Operation) → IsReadOf (take i h) None o ⊎ (next ≡ o) → o.began ≤ next.began
      go o (inl old) = let less = began_before h history i next below (λ d. get_or_default h i d d0 below) o old.within in omega arith
      go o (inr same) = let equal : next.began ≡ o.began = ap (λ (q : Operation). q.began) same in omega arith

-- ---- where nothing was found
module _ (h : List Operation) (zones : List Zone) (last : Option Operation) (is_last : IsLastOfNothing h last) where
  pub first_without : last ≡ None → IsNothingFirst h zones
  first_without none r read z among = let some = is_last.latest r read in let x : None ≡ Some some.0 = sym none ∙ some.1 in absurd (let y : ⊥ = cc in y)

  pub first_with : (r : Operation) → last ≡ Some r → All (λ z. r.began ≤ z.end) zones → IsNothingFirst h zones
  first_with r is all o read z among =
      let its = is_last.latest o read in
      let both : Some r ≡ Some its.0 = sym is ∙ its.1 in
      let same : r ≡ its.0 = cc in
      let began : r.began ≡ its.0.began = ap (λ (q : Operation). q.began) same in
      let low = All-contains (λ z. r.began ≤ z.end) zones z all among in
      let late = its.2 in omega arith

  pub nothing_shown : AreZones h zones → (r : Operation) → last ≡ Some r → (z : Zone) → Contains zones z → z.end < r.began → Shows h (Nothing z.first r)
  nothing_shown are r is z among before =
      let zone = are.each z among in
      (z.value, zone.first, zone.first_value, is_last.found r is, (z.end, zone.first_end, before))

-- ---- a row of zones
-- the first zones may stand in a row, and one of them has the last begin
pub record RowSoFar (zones : List Zone) (i latest : ℕ) : Type 0 where
  pub within : latest < i
  pub last : (k : ℕ) (d : Zone) → k < i → (get_or zones k d).last.began ≤ (get_or zones latest d).last.began
  pub row : (a b : ℕ) (d : Zone) → a < b → b < i → MayPrecede (get_or zones a d) (get_or zones b d)

-- ---- the zones in another order
pub zones_moved : (h : List Operation) (zones moved : List Zone) → IsPermutation zones moved → AreZones h zones → AreZones h moved
zones_moved h zones moved perm are = record {
  each = λ z among. are.each z (Contains-permutation moved zones z (IsPermutation-sym zones moved perm) among);
  all = λ o within done v value. let its = are.all o within done v value in (its.0, Contains-permutation zones moved its.0 perm its.1, its.2);
  apart = λ v. subst (λ n. n ≤ 1) (sym (sum_by-IsPermutation (λ (z : Zone). cond (z.value == v) 1 0) zones moved perm)) (are.apart v);
}

module _ (h : List Operation) (zones : List Zone) (are : AreZones h zones) where
  span_is : (z : Zone) → IsZone h z → IsSpanOf h z.value (record { first = z.first; last = z.last })
  span_is z zone = record {
    first = zone.first;
    first_value = zone.first_value;
    last = zone.last;
    last_value = zone.last_value;
    last_done = zone.last_done;
  }

  -- each of two torn zones comes before the other
  both_ways : (e b e' b' : ℕ) → e' < b → min (e * 2 + 1) (b * 2) ≤ min (e' * 2 + 1) (b' * 2) → e < b'
  both_ways e b e' b' late ordered = omega arith

  pub conflict_shown : (one other : Zone) → AreTorn zones one other → Shows h (Conflict (record { first = one.first; last = one.last }) (record { first = other.first; last = other.last }))
  conflict_shown one other torn = go torn.places
    where
      go : (i j : ℕ) × (i < j) × (j < length zones) × (get_or zones i one ≡ one) × (get_or zones j other ≡ other) → Shows h (Conflict (record { first = one.first; last = one.last }) (record { first = other.first; last = other.last }))
      go (i, j, less, below, one_at, other_at) =
          let one_in : Contains zones one = (i, omega arith, one_at) in
          let other_in : Contains zones other = (j, below, other_at) in
          let one_is = are.each one one_in in
          let other_is = are.each other other_in in
          let there : get_or zones j one ≡ other = get_or_default zones j one other below ∙ other_at in
          let apart = pairs_apart (λ (z : Zone). z.value) zones are.apart i j one less below in (
            one.value,
            other.value,
            (λ same. apart (ap (λ (z : Zone). z.value) one_at ∙ same ∙ sym (ap (λ (z : Zone). z.value) there))),
            span_is one one_is,
            span_is other other_is,
            (one.end, one_is.first_end, both_ways one.end one.last.began other.end other.last.began torn.late torn.ordered),
            (other.end, other_is.first_end, torn.late),
          )

  pub judged_conflict : IsWrittenOnce h → (one other : Zone) → AreTorn zones one other → (span : Span) → span ≡ record { first = one.first; last = one.last } → (span' : Span) → span' ≡ record { first = other.first; last = other.last }
      → IsWrittenOnce h × Shows h (Conflict span span') × (IsLinearizable h → ⊥)
  judged_conflict once one other torn span is span' is' =
      let shows = subst (λ s. Shows h (Conflict s span')) (sym is) (subst (λ s. Shows h (Conflict (record { first = one.first; last = one.last }) s)) (sym is') (conflict_shown one other torn)) in
      (once, shows, evidence_refutes h (Conflict span span') once shows)

pub judged_shown : (h : List Operation) → IsWrittenOnce h → (evidence : Evidence) → Shows h evidence → IsWrittenOnce h × Shows h evidence × (IsLinearizable h → ⊥)
judged_shown h once evidence shows = (once, shows, evidence_refutes h evidence once shows)

pub judged_linearizable : (h : List Operation) → IsHistory h → IsWrittenOnce h → (zones moved : List Zone) → IsPermutation zones moved → AreZones h zones → IsNothingFirst h zones → AllPairs MayPrecede moved → IsWrittenOnce h × IsLinearizable h
judged_linearizable h history once zones moved perm are first precede =
    (once, linearizable h history once moved (zones_moved h zones moved perm are) precede (λ r read z among. first r read z (Contains-permutation moved zones z (IsPermutation-sym zones moved perm) among)))

pub if_none : {A : Type 0} (P : Type 0) (r : Option A) → P → IfNone r P
if_none P None p = p
if_none P (Some x) p = tt
