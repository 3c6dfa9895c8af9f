-- marks that are joined and taken, place by place
use Rattle.std.proofs.Common.{◌≡◌, ◌∙◌, ◌+◌, ◌-◌, ◌<◌, ◌≤◌, ◌==◌, ◌&&◌, ◌||◌, ℕ, zero, suc, inl, inr, Bool, true, false, not, cond, List, [], ◌∷◌, ◌++◌, length, length-set, replicate, Some, slice_get, slice_set, refl, sym, ap, ap₂, subst, arith, if◌then◌else◌}
use Rattle.std.specs.Prelude.{◌≢◌, MatchOption, nat_lt}
use Rattle.std.specs.List.{filter}
use Rattle.std.specs.Ordering.{nat_cmp}
use Rattle.std.specs.FinSet as sets
use Rattle.std.proofs.lemmas.Bool.{cases_eq, cases_lt, eq-eqb, le-ltb, lt-ltb, ltb-true, ne_eqb}
use Rattle.std.proofs.lemmas.List.{append_assoc}
use Rattle.std.proofs.lemmas.Option.{slice_get_past}
use Rattle.fy_locality.specs.declared.TheConstants.{MOST_PROCESSES}
use Rattle.fy_cluster.specs.History.{some_is}
use Rattle.fy_picture.proofs.Moving.{insert_has, remove_has}
use Rattle.fy_svg.specs.declared.glyphs.Mark.{Mark}
use Rattle.fy_svg.specs.Marks.{AreMarked, JoinsMark, has_mark, is_mark, joined, marks_in, no_mark}

-- ---- one place is written

-- what stands at another place
other_place : (ms : List Mark) (p q : ℕ) (m : Mark) → (q ≡ p → ⊥) → slice_get (slice_set ms p m) q ≡ slice_get ms q
other_place [] p q m apart = refl
other_place (x ∷ ms) zero zero m apart = absurd (apart refl)
other_place (x ∷ ms) zero (suc q) m apart = refl
other_place (x ∷ ms) (suc p) zero m apart = refl
other_place (x ∷ ms) (suc p) (suc q) m apart = other_place ms p q m (λ e. apart (ap suc e))

own_place : (ms : List Mark) (p : ℕ) (m : Mark) → p < length ms → slice_get (slice_set ms p m) p ≡ Some m
own_place [] p m within = absurd (omega arith)
own_place (x ∷ ms) zero m within = refl
own_place (x ∷ ms) (suc p) m within = own_place ms p m (omega arith)

-- a place that was cleared has no mark
cleared : (ms : List Mark) (p : ℕ) → has_mark (slice_set ms p no_mark) p ≡ false
cleared [] p = refl
cleared (x ∷ ms) zero = refl
cleared (x ∷ ms) (suc p) = cleared ms p

-- no place of so many that are empty has one
pub none_marked : (n p : ℕ) → has_mark (replicate n no_mark) p ≡ false
none_marked zero p = refl
none_marked (suc n) zero = refl
none_marked (suc n) (suc p) = none_marked n p

-- ---- which processes have a mark

pub begun_marked : (n : ℕ) → n ≤ MOST_PROCESSES + 1 → length (replicate n no_mark) ≡ n → AreMarked (replicate n no_mark) sets.empty
begun_marked n few long = record {
  few = subst (λ k. k ≤ MOST_PROCESSES + 1) (sym long) few;
  each = λ p small. sets.contains-empty nat_cmp p ∙ sym (none_marked n p);
}

-- a place is cleared
cleared_marked : (ms : List Mark) (old now : sets.FinSet nat_cmp) (p : ℕ) → AreMarked ms old → ((q : ℕ) → sets.contains now q ≡ (not (q == p) && sets.contains old q)) → AreMarked (slice_set ms p no_mark) now
cleared_marked ms old now p are each = record {
  few = subst (λ k. k ≤ MOST_PROCESSES + 1) (sym (length-set ms p no_mark)) are.few;
  each = λ q small. elim (cases_eq q p) [
    | inl same ↦
        each q ∙ ap (λ b. not b && sets.contains old q) (eq-eqb q p same)
        ∙ sym (ap (has_mark (slice_set ms p no_mark)) same ∙ cleared ms p)
    | inr apart ↦
        each q ∙ ap (λ b. not b && sets.contains old q) (ne_eqb q p apart)
        ∙ are.each q small ∙ sym (ap (some_is is_mark) (other_place ms p q no_mark apart))
  ];
}

-- the mark of a process was taken
pub taken_marked : (ms : List Mark) (marked now : sets.FinSet nat_cmp) (p : ℕ) → now ≡ sets.remove marked p → AreMarked ms marked → AreMarked (slice_set ms p no_mark) now
taken_marked ms marked now p is are = cleared_marked ms marked now p are (λ q. ap (λ s. sets.contains s q) is ∙ remove_has marked p q)

-- no process has a mark, and nobody's was taken
pub nobody_marked : (ms : List Mark) (marked : sets.FinSet nat_cmp) (p : ℕ) → marked ≡ sets.empty → AreMarked ms marked → AreMarked (slice_set ms p no_mark) marked
nobody_marked ms marked p none are = cleared_marked ms marked marked p are (λ q.
    let out : sets.contains marked q ≡ false = ap (λ s. sets.contains s q) none ∙ sets.contains-empty nat_cmp q in
    out ∙ sym (both_out (q == p) (sets.contains marked q) out))
  where
    both_out : (a b : Bool) → b ≡ false → (not a && b) ≡ false
    both_out true b e = refl
    both_out false b e = e

-- a mark was joined with what its place has
joined_marked : (ms : List Mark) (old now : sets.FinSet nat_cmp) (there mark : Mark) (p : ℕ) → slice_get ms p ≡ Some there → p < length ms → AreMarked ms old
    → ((q : ℕ) → q < MOST_PROCESSES → sets.contains now q ≡ ((q == p && nat_lt there.weight mark.weight) || sets.contains old q))
    → AreMarked (slice_set ms p (joined there mark)) now
joined_marked ms old now there mark p is within are each = record {
  few = subst (λ k. k ≤ MOST_PROCESSES + 1) (sym (length-set ms p (joined there mark))) are.few;
  each = λ q small. elim (cases_eq q p) [
    | inl same ↦
        each q small
        ∙ ap (λ b. (b && nat_lt there.weight mark.weight) || sets.contains old q) (eq-eqb q p same)
        ∙ ap (λ b. nat_lt there.weight mark.weight || b) (are.each q small ∙ ap (has_mark ms) same ∙ ap (some_is is_mark) is)
        ∙ sym (weight_of_both (nat_lt there.weight mark.weight) refl)
        ∙ sym (ap (has_mark (slice_set ms p (joined there mark))) same ∙ ap (some_is is_mark) (own_place ms p (joined there mark) within))
    | inr apart ↦
        each q small
        ∙ ap (λ b. (b && nat_lt there.weight mark.weight) || sets.contains old q) (ne_eqb q p apart)
        ∙ are.each q small ∙ sym (ap (some_is is_mark) (other_place ms p q (joined there mark) apart))
  ];
}
  where
    weight_of_both : (b : Bool) → nat_lt there.weight mark.weight ≡ b → is_mark (joined there mark) ≡ (nat_lt there.weight mark.weight || is_mark there)
    weight_of_both true e =
        ap (λ b. nat_lt 0 (if b then mark else there).weight) e
        ∙ lt-ltb 0 mark.weight (let l : there.weight < mark.weight = ltb-true there.weight mark.weight e in omega arith)
        ∙ sym (ap (λ b. b || is_mark there) e)
    weight_of_both false e = ap (λ b. nat_lt 0 (if b then mark else there).weight) e ∙ sym (ap (λ b. b || is_mark there) e)

module _ (ms : List Mark) (old : sets.FinSet nat_cmp) (there mark : Mark) (p : ℕ) (is : slice_get ms p ≡ Some there) (within : p < length ms) (are : AreMarked ms old) where
  -- by a harder one of a process, which has a mark from then on
  pub harder_marked : (now : sets.FinSet nat_cmp) → there.weight < mark.weight → now ≡ sets.insert old p → AreMarked (slice_set ms p (joined there mark)) now
  harder_marked now harder made = joined_marked ms old now there mark p is within are (λ q small.
      ap (λ s. sets.contains s q) made ∙ insert_has old p q
      ∙ ap (λ b. b || sets.contains old q) (sym (and_true (q == p)) ∙ ap (λ b. q == p && b) (sym (lt-ltb there.weight mark.weight harder))))
    where
      and_true : (b : Bool) → (b && true) ≡ b
      and_true true = refl
      and_true false = refl

  -- by one that isn't harder
  pub milder_marked : mark.weight ≤ there.weight → AreMarked (slice_set ms p (joined there mark)) old
  milder_marked milder = joined_marked ms old old there mark p is within are (λ q small.
      ap (λ b. b || sets.contains old q) (sym (and_false (q == p)) ∙ ap (λ b. q == p && b) (sym (le-ltb there.weight mark.weight milder))))
    where
      and_false : (b : Bool) → (b && false) ≡ false
      and_false true = refl
      and_false false = refl

  -- of nobody, beside so many processes
  pub past_marked : MOST_PROCESSES ≤ p → AreMarked (slice_set ms p (joined there mark)) old
  past_marked past = joined_marked ms old old there mark p is within are (λ q small.
      ap (λ b. (b && nat_lt there.weight mark.weight) || sets.contains old q) (sym (ne_eqb q p (λ e. omega arith))))

-- what is answered
pub joins : (mark there own : Mark) (old ms : List Mark) → ms ≡ old → slice_get ms mark.process ≡ Some there → own ≡ joined there mark → JoinsMark mark old (slice_set ms mark.process own) (nat_lt there.weight mark.weight)
joins mark there own old ms same is made =
    subst (λ o. JoinsMark mark o (slice_set ms mark.process own) (nat_lt there.weight mark.weight)) same
    (subst (λ o. MatchOption o ((slice_set ms mark.process own ≡ ms) × (nat_lt there.weight mark.weight ≡ false)) (λ here. (slice_set ms mark.process own ≡ slice_set ms mark.process (joined here mark)) × (nat_lt there.weight mark.weight ≡ nat_lt here.weight mark.weight))) (sym is)
    (ap (slice_set ms mark.process) made, refl))

-- ---- the marks in order

-- what is taken at a place
pub is_taken : (ms : List Mark) (p : ℕ) (m : Mark) → slice_get ms p ≡ Some m → 0 < m.weight → m ∷ [] ≡ marks_in (slice_get ms p)
is_taken ms p m is more = sym (ap marks_in is ∙ ap (λ b. cond b (m ∷ []) []) (lt-ltb 0 m.weight more))

pub isnt_taken : (ms : List Mark) (p : ℕ) (m : Mark) → slice_get ms p ≡ Some m → m.weight ≤ 0 → [] ≡ marks_in (slice_get ms p)
isnt_taken ms p m is none = sym (ap marks_in is ∙ ap (λ b. cond b (m ∷ []) []) (le-ltb 0 m.weight none))

-- a mark that isn't first
skipped : (m : Mark) (ms : List Mark) → is_mark m ≡ false → filter is_mark (m ∷ ms) ≡ filter is_mark ms
skipped m ms out = ap (λ b. cond b (m ∷ filter is_mark ms) (filter is_mark ms)) out

-- no place has a mark
pub none_left : (ms : List Mark) → ((q : ℕ) → has_mark ms q ≡ false) → filter is_mark ms ≡ []
none_left [] none = refl
none_left (m ∷ ms) none = skipped m ms (none 0) ∙ none_left ms (λ q. none (suc q))

-- the first of all marks is taken
pub first_taken : (ms : List Mark) (p : ℕ) → ((q : ℕ) → q < p → has_mark ms q ≡ false) → filter is_mark ms ≡ marks_in (slice_get ms p) ++ filter is_mark (slice_set ms p no_mark)
first_taken [] p none = refl
first_taken (m ∷ ms) zero none = by (is_mark m) refl
  where
    by : (b : Bool) → is_mark m ≡ b → filter is_mark (m ∷ ms) ≡ filter is_mark (m ∷ []) ++ filter is_mark ms
    by true e = ap (λ b. cond b (m ∷ filter is_mark ms) (filter is_mark ms)) e ∙ sym (ap (λ b. cond b (m ∷ []) [] ++ filter is_mark ms) e)
    by false e = ap (λ b. cond b (m ∷ filter is_mark ms) (filter is_mark ms)) e ∙ sym (ap (λ b. cond b (m ∷ []) [] ++ filter is_mark ms) e)
first_taken (m ∷ ms) (suc p) none =
    skipped m ms (none 0 (omega arith))
    ∙ first_taken ms p (λ q l. none (suc q) (omega arith))
    ∙ ap (λ rest. marks_in (slice_get ms p) ++ rest) (sym (skipped m (slice_set ms p no_mark) (none 0 (omega arith))))

-- it comes behind those that were taken
pub taken_next : (ms left taken more : List Mark) (p : ℕ) → ((q : ℕ) → q < p → has_mark ms q ≡ false) → left ≡ slice_set ms p no_mark → more ≡ taken ++ marks_in (slice_get ms p) → more ++ filter is_mark left ≡ taken ++ filter is_mark ms
taken_next ms left taken more p none cleared_is more_is =
    ap₂ (λ xs ys. xs ++ filter is_mark ys) more_is cleared_is
    ∙ append_assoc taken (marks_in (slice_get ms p)) (filter is_mark (slice_set ms p no_mark))
    ∙ ap (λ xs. taken ++ xs) (sym (first_taken ms p none))

-- no process has a mark
module _ (ms : List Mark) (marked : sets.FinSet nat_cmp) (p : ℕ) (last : p ≡ length ms - 1) (none : marked ≡ sets.empty) (are : AreMarked ms marked) where
  pub none_below : (q : ℕ) → q < p → has_mark ms q ≡ false
  none_below q below =
      let few = are.few in
      sym (are.each q (omega arith)) ∙ ap (λ s. sets.contains s q) none ∙ sets.contains-empty nat_cmp q

  -- and then nobody's is the last
  pub none_behind : filter is_mark (slice_set ms p no_mark) ≡ []
  none_behind = none_left (slice_set ms p no_mark) at
    where
      at : (q : ℕ) → has_mark (slice_set ms p no_mark) q ≡ false
      at q = elim (cases_eq q p) [
        | inl same ↦ ap (has_mark (slice_set ms p no_mark)) same ∙ cleared ms p
        | inr apart ↦
            ap (some_is is_mark) (other_place ms p q no_mark apart)
            ∙ elim (cases_lt q p) [
              | inl below ↦ none_below q below
              | inr past ↦
                  let out : length ms ≤ q = elim (cases_eq (length ms) 0) [
                    | inl zero_long ↦ (omega arith)
                    | inr long ↦ let above : q ≢ p = apart in (omega arith)
                  ] in
                  ap (some_is is_mark) (slice_get_past ms q out)
            ]
      ]
