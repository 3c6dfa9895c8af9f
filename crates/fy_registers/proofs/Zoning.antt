-- zones of what is seen
use Rattle.std.proofs.Common.{zero, inl, inr, ◌⊎◌, ◌≡◌, ℕ, ◌+◌, ◌<◌, ◌≤◌, ◌==◌, cond, List, [], ◌∷◌, ◌++◌, length, get_or, Some, None, Option, refl, sym, ap, subst, ◌∙◌, arith, count_by, eqb-true, eq-eqb, ne_eqb}
use Rattle.std.specs.List.{Contains, filter}
use Rattle.std.proofs.lemmas.List.{get_or_default}
use Rattle.std.proofs.lemmas.List.Sums.{sum_by-append, length-filter}
use Rattle.std.proofs.lemmas.List.Elements.{Contains-push, Contains-push_cases, Contains-append_left}
use Rattle.std.proofs.lemmas.Bool.{cases_eq}
use Rattle.fy_registers.specs.declared.operation.Act.{Act}
use Rattle.fy_registers.specs.declared.operation.Act.TheVariants.{Write, Read}
use Rattle.fy_registers.specs.declared.operation.Operation.{Operation}
use Rattle.fy_registers.specs.declared.evidence.Evidence.{Evidence}
use Rattle.fy_registers.specs.declared.evidence.Evidence.TheVariants.{Unwritten, BeforeWrite, Nothing, Conflict}
use Rattle.fy_registers.specs.declared.zone.Ended.{Ended}
use Rattle.fy_registers.specs.declared.zone.Seen.{Seen}
use Rattle.fy_registers.specs.declared.zone.Zone.{Zone}
use Rattle.fy_registers.specs.Linear.{value_in, value_of, HasEnded, IsHistory, IsWrittenOnce, IsLinearizable}
use Rattle.fy_registers.specs.Evidence.{IsReadOf, IsWriteOf, Shows}
use Rattle.fy_registers.specs.Zones.{AreEnded, IsSeen, AreSeen, IsZone, IsZoneOf, IsNoZoneOf, AreZones}
use Rattle.fy_registers.proofs.Lists.{contains_here, from_filter}
use Rattle.fy_registers.proofs.Refuting.{evidence_refutes}
use Rattle.fy_registers.proofs.Histories.{ends_late}

module _ (h : List Operation) (v : ℕ) (s : Seen) (seen : IsSeen h v s) where
  -- what is seen makes a zone
  pub zone_is : (z : Zone) → IsZoneOf v s (Some z) → IsZone h z
  zone_is z (e, ended, write, value, first, end, written, after_write, after_last, last) = record {
    write = record { within = its_write.within; act = its_write.act ∙ ap Write (sym value) };
    first = subst (λ o. Contains h o) (sym first) are.first;
    first_value = ap value_of first ∙ are.first_value ∙ ap Some (sym value);
    first_end = ap (λ (o : Operation). o.ended) first ∙ are.first_end ∙ ap Some (sym end);
    least = λ o within is at stops. let low = are.least o within (is ∙ ap Some value) at stops in omega arith;
    last = within_last last;
    last_value = last_value last;
    last_done = last_done last;
    latest = λ o within is done. let low = are.latest o within (is ∙ ap Some value) done in omega arith;
    after_write = after_write;
    written = written;
  }
    where
      are : AreEnded h v e
      are = seen.ended e ended

      its_write : IsWriteOf h v z.write
      its_write = seen.write z.write write

      within_last : (z.last ≡ e.last) ⊎ (z.last ≡ z.write) → Contains h z.last
      within_last (inl is) = subst (λ o. Contains h o) (sym is) are.last
      within_last (inr is) = subst (λ o. Contains h o) (sym is) its_write.within

      last_value : (z.last ≡ e.last) ⊎ (z.last ≡ z.write) → value_of z.last ≡ Some z.value
      last_value (inl is) = ap value_of is ∙ are.last_value ∙ ap Some (sym value)
      last_value (inr is) = ap value_of is ∙ ap value_in its_write.act ∙ ap Some (sym value)

      last_done : (z.last ≡ e.last) ⊎ (z.last ≡ z.write) → HasEnded z.last ⊎ (z.last.act ≡ Write z.value)
      last_done (inl is) = inl (subst HasEnded (sym is) are.last_ended)
      last_done (inr is) = inr (ap (λ (o : Operation). o.act) is ∙ its_write.act ∙ ap Write (sym value))

  -- an operation of a value is a write or a read of it
  write_or_read : (o : Operation) → Contains h o → value_of o ≡ Some v → (act : Act) → o.act ≡ act → IsWriteOf h v o ⊎ (o.act ≡ Read (Some v))
  write_or_read o within value (Write u) is =
      let both : Some u ≡ Some v = ap value_in (sym is) ∙ value in let equal : u ≡ v = cc in
      inl (record { within = within; act = is ∙ ap Write equal })
  write_or_read o within value (Read answer) is = inr (is ∙ ap Read (ap value_in (sym is) ∙ value))

  read_is : (e : Ended) → AreEnded h v e → (IsWriteOf h v e.first → ⊥) → IsReadOf h (Some v) e.first
  read_is e are never = go (write_or_read e.first are.first are.first_value e.first.act refl)
    where
      go : IsWriteOf h v e.first ⊎ (e.first.act ≡ Read (Some v)) → IsReadOf h (Some v) e.first
      go (inl writes) = absurd (never writes)
      go (inr act) = record { within = are.first; act = act; ended = (e.end, are.first_end) }

  -- what is seen makes no zone
  pub shown : IsHistory h → IsWrittenOnce h → (evidence : Evidence) → IsNoZoneOf s evidence → Shows h evidence
  shown history once (Unwritten read) (e, ended, none, is) =
      (v, subst (λ o. IsReadOf h (Some v) o) (sym is) (read_is e (seen.ended e ended) (λ writes. never e.first writes)), never)
    where
      never : (o : Operation) → IsWriteOf h v o → ⊥
      never o writes = let some = seen.written o writes in let no : None ≡ Some some.0 = sym none ∙ some.1 in let x : ⊥ = cc in x
  shown history once (BeforeWrite read write) (e, ended, writes, is, before) =
      (v, subst (λ o. IsReadOf h (Some v) o) (sym is) (read_is e are never), its_write, (e.end, ap (λ (o : Operation). o.ended) is ∙ are.first_end, before))
    where
      are : AreEnded h v e
      are = seen.ended e ended

      its_write : IsWriteOf h v write
      its_write = seen.write write writes

      never : IsWriteOf h v e.first → ⊥
      never first =
          let same : e.first ≡ write = once e.first write v first.within its_write.within first.act its_write.act in
          let began : e.first.began ≡ write.began = ap (λ (o : Operation). o.began) same in
          let low = ends_late h history e.first are.first e.end are.first_end in omega arith
  shown history once (Nothing ended read) x = absurd x
  shown history once (Conflict one other) x = absurd x

-- ---- the zones so far
pub record ZonesSoFar (h : List Operation) (table : List Seen) (i : ℕ) (zones : List Zone) : Type 0 where
  pub each : (z : Zone) → Contains zones z → IsZone h z
  pub all : (v : ℕ) (d : Seen) (e : Ended) → v < i → (get_or table v d).ended ≡ Some e → (z : Zone) × Contains zones z × (z.value ≡ v)
  pub apart : (v : ℕ) → count_by (λ z. z.value == v) zones ≤ 1
  pub below : (z : Zone) → Contains zones z → z.value < i

none_of : (zones : List Zone) (v : ℕ) → ((z : Zone) → Contains zones z → z.value ≡ v → ⊥) → count_by (λ z. z.value == v) zones ≡ 0
none_of zones v never = go (filter (λ z. z.value == v) zones) refl
  where
    go : (kept : List Zone) → filter (λ z. z.value == v) zones ≡ kept → count_by (λ z. z.value == v) zones ≡ 0
    go [] e = sym (length-filter (λ z. z.value == v) zones) ∙ ap length e
    go (z ∷ kept) e =
        let found = from_filter (λ z. z.value == v) zones z (subst (λ zs. Contains zs z) (sym e) (contains_here z kept)) in
        absurd (never z found.0 (eqb-true z.value v found.1))

module _ (h : List Operation) (table : List Seen) (i : ℕ) (d0 : Seen) (below : i < length table) (zones : List Zone) (so_far : ZonesSoFar h table i zones) where
  -- the next value has no zone
  pub zones_same : (get_or table i d0).ended ≡ None → ZonesSoFar h table (i + 1) zones
  zones_same none = record {
    each = so_far.each;
    all = λ v d e less is. go v d e less is (cases_eq v i);
    apart = so_far.apart;
    below = λ z among. let less = so_far.below z among in omega arith;
  }
    where
      go : (v : ℕ) (d : Seen) (e : Ended) → v < i + 1 → (get_or table v d).ended ≡ Some e → (v ≡ i) ⊎ (v ≡ i → ⊥) → (z : Zone) × Contains zones z × (z.value ≡ v)
      go v d e less is (inl same) =
          let some : None ≡ Some e = sym none ∙ ap (λ (s : Seen). s.ended) (get_or_default table i d0 d below) ∙ ap (λ q. (get_or table q d).ended) (sym same) ∙ is in
          absurd (let x : ⊥ = cc in x)
      go v d e less is (inr other) = so_far.all v d e (omega arith) is

  -- the next value has a zone
  pub zones_more : (z : Zone) → IsZone h z → z.value ≡ i → ZonesSoFar h table (i + 1) (zones ++ z ∷ [])
  zones_more z zone value = record {
    each = λ y among. each y (Contains-push_cases zones z y among);
    all = λ v d e less is. all v d e less is (cases_eq v i);
    apart = λ v. apart v (cases_eq z.value v);
    below = λ y among. less y (Contains-push_cases zones z y among);
  }
    where
      each : (y : Zone) → Contains zones y ⊎ (z ≡ y) → IsZone h y
      each y (inl there) = so_far.each y there
      each y (inr same) = subst (λ q. IsZone h q) same zone

      all : (v : ℕ) (d : Seen) (e : Ended) → v < i + 1 → (get_or table v d).ended ≡ Some e → (v ≡ i) ⊎ (v ≡ i → ⊥) → (y : Zone) × Contains (zones ++ z ∷ []) y × (y.value ≡ v)
      all v d e less is (inl same) = (z, Contains-push zones z, value ∙ sym same)
      all v d e less is (inr other) = let its = so_far.all v d e (omega arith) is in (its.0, Contains-append_left zones (z ∷ []) its.0 its.1, its.2)

      less : (y : Zone) → Contains zones y ⊎ (z ≡ y) → y.value < i + 1
      less y (inl there) = let low = so_far.below y there in omega arith
      less y (inr same) = let equal : z.value ≡ y.value = ap (λ (q : Zone). q.value) same in omega arith

      joined : (v : ℕ) → count_by (λ q. q.value == v) (zones ++ z ∷ []) ≡ count_by (λ q. q.value == v) zones + cond (z.value == v) 1 0
      joined v = let e = sum_by-append (λ (q : Zone). cond (q.value == v) 1 0) zones (z ∷ []) in omega arith

      apart : (v : ℕ) → (z.value ≡ v) ⊎ (z.value ≡ v → ⊥) → count_by (λ q. q.value == v) (zones ++ z ∷ []) ≤ 1
      apart v (inl same) =
          let none = none_of zones v (λ y among equal. let low = so_far.below y among in omega arith) in
          let both = joined v in
          let few : cond (z.value == v) 1 0 ≤ 1 = rw (eq-eqb z.value v same) (omega arith) in
          omega arith
      apart v (inr other) =
          let some = so_far.apart v in
          let both = joined v in
          let few : cond (z.value == v) 1 0 ≡ zero = rw (ne_eqb z.value v other) refl in
          omega arith

pub zones_end : (h : List Operation) → (table : List Seen) → AreSeen h table → (d : Seen) (zones : List Zone) → ZonesSoFar h table (length table) zones → AreZones h zones
zones_end h table seen d zones so_far = record {
  each = so_far.each;
  all = all;
  apart = so_far.apart;
}
  where
    all : (o : Operation) → Contains h o → HasEnded o → (v : ℕ) → value_of o ≡ Some v → (z : Zone) × Contains zones z × (z.value ≡ v)
    all o within done v value =
        let inside = seen.room o within v value in
        let some = (seen.each v d inside).all_ended o within value done in
        so_far.all v d some.0 inside some.1

-- ---- a step of the loop
module _ (h : List Operation) (table : List Seen) (seen : AreSeen h table) (i : ℕ) (d0 : Seen) (below : i < length table) where
  pub judged_not : IsHistory h → IsWrittenOnce h → (evidence : Evidence) → IsNoZoneOf (get_or table i d0) evidence → IsWrittenOnce h × Shows h evidence × (IsLinearizable h → ⊥)
  judged_not history once evidence none =
      let shows = shown h i (get_or table i d0) (seen.each i d0 below) history once evidence none in
      (once, shows, evidence_refutes h evidence once shows)

  pub zones_step : (zones : List Zone) → ZonesSoFar h table i zones → (z : Zone) → IsZoneOf i (get_or table i d0) (Some z) → ZonesSoFar h table (i + 1) (zones ++ z ∷ [])
  zones_step zones so_far z of = zones_more h table i d0 below zones so_far z (zone_is h i (get_or table i d0) (seen.each i d0 below) z of) of.3

  pub zones_skip : (zones : List Zone) → ZonesSoFar h table i zones → (found : Option Zone) → IsZoneOf i (get_or table i d0) found → found ≡ None → ZonesSoFar h table (i + 1) zones
  zones_skip zones so_far found of none = zones_same h table i d0 below zones so_far (subst (λ f. IsZoneOf i (get_or table i d0) f) none of)

  pub zones_step_found : (zones : List Zone) → ZonesSoFar h table i zones → (found : Option Zone) → IsZoneOf i (get_or table i d0) found → (z : Zone) → found ≡ Some z → ZonesSoFar h table (i + 1) (zones ++ z ∷ [])
  zones_step_found zones so_far found of z some = zones_step zones so_far z (subst (λ f. IsZoneOf i (get_or table i d0) f) some of)
