-- whose fault a lost record is
use Rattle.std.proofs.Common.{◌≡◌, ℕ, zero, suc, ◌+◌, ◌-◌, ◌<◌, ◌≤◌, ◌&&◌, ◌||◌, not, Bool, true, false, List, [], ◌∷◌, Contains, length, length-append, Option, Some, None, slice_get, refl, sym, ◌∙◌, ap, subst, arith, zero-add, ◌⊎◌, inl, inr}
use Rattle.std.proofs.lemmas.Bool.{or_cases, or_left, or_right, and_parts, not-false, false≢true, false_from_ne_true}
use Rattle.std.proofs.lemmas.List.{take_all}
use Rattle.std.proofs.lemmas.List.Elements.{All-contains, All-from_recursion}
use Rattle.std.proofs.lemmas.List.Folds.{Any-from_list_any}
use Rattle.std.proofs.lemmas.List.FromFn.{length-range_with_len, get_or-range_with_len}
use Rattle.std.specs.List.{list_any, Any, range_with_len}
use Rattle.fy_locality.specs.declared.locality.Locality.{Locality}
use Rattle.fy_policy.specs.Tree.{Tree}
use Rattle.fy_policy.specs.Sat.{Sat}
use Rattle.fy_policy.specs.Laws.{MoreSatisfies, MoreOfMapSatisfies, SomeHolderIsLeft}
use Rattle.fy_decide.specs.Safety.{AreShort}
use Rattle.fy_acts.specs.declared.entry.Entry.{Entry}
use Rattle.fy_cluster.specs.Setup.{Setup}
use Rattle.fy_cluster.specs.History.{ProcessSet, heals, history, destroyed}
use Rattle.fy_cluster.specs.Stores.{Moment, IsCovered, HoldersAreLeft}
use Rattle.fy_cluster.specs.Survival.{DestroyedShort, FrontsLegal, EntryAddsStep, NextLegal}
use Rattle.fy_holders.specs.Destroyed.{destroyed_at, destroyed_since}
use Rattle.fy_holders.specs.Blames.{KeepsTwo, IsByTwo, IsAckedFirst, ThreeKeepTwo, HoldersAreLeftByTwo, StoreLostIt, OneOfThreeIsBroken, SomeHealIsBelieved}
use Rattle.fy_cluster.proofs.Records.{any_at}
use Rattle.fy_holders.proofs.Positions.{since_at, since_from, since_more, since_earlier, since_end, stays_through, healed_at}

pub three_keep_two : ThreeKeepTwo
three_keep_two c before after keeps = record {
  grows = keeps.grows;
  dies = λ r p a held gone.
      let n = ap length keeps.grows.1 ∙ length-append before.journal keeps.grows.0 in
      elim (keeps.dies r p a held gone) [
        | inl d ↦ inl (since_end c after.journal (length before.journal) p (omega arith) d)
        | inr k ↦ inr k
      ];
  acknowledges = keeps.acknowledges;
}

-- ---- holders that were never destroyed

-- a record is covered when it is acknowledged
covered_first : (c : Setup) (at : ℕ → Moment) → IsByTwo c at → (k n r : ℕ) → k ≤ n → IsAckedFirst at k n r → IsCovered c (at k) r
covered_first c at two zero n r later acked = two.begins r (acked.since zero (omega arith) later)
covered_first c at two (suc j) n r later acked =
    let e : j + 1 ≡ suc j = omega arith in
    let step : KeepsTwo c (at j) (at (suc j)) = subst (λ m. KeepsTwo c (at j) (at m)) e (two.goes_on j) in
    step.acknowledges r (acked.first j (omega arith)) (acked.since (suc j) (omega arith) later)

-- those who hold the record or were destroyed since a position
abbrev kept_since : Setup → ℕ → Moment → ℕ → ProcessSet
kept_since c m now r p = now.holders r p || destroyed_since c now.journal m p

-- between two moments the journal grows, and at the second those who hold the record or were
-- destroyed since the first satisfy a policy
record Stays (c : Setup) (first now : Moment) (r : ℕ) : Type 0 where
  grown : length first.journal ≤ length now.journal
  policy : Tree
  given : Contains c.policies policy
  sat : Sat c.processes policy (kept_since c (length first.journal) now r)

-- what is covered now is kept since each position before
covered_stays : MoreOfMapSatisfies → (c : Setup) (first now : Moment) (r : ℕ) → length first.journal ≤ length now.journal → IsCovered c now r → Stays c first now r
covered_stays more c first now r grown covered = record {
  grown = grown;
  policy = covered.0;
  given = covered.1;
  sat = more c.processes covered.0 _ (kept_since c (length first.journal) now r) (λ p within e. elim (or_cases (now.holders r p) _ e) [
    | inl holds ↦ or_left _ _ holds
    | inr d ↦ or_right (now.holders r p) _ (since_end c now.journal (length first.journal) p grown d)
  ]) covered.2;
}

-- where none of the first n passes, none does
none_at : (f : ProcessSet) (n : ℕ) → list_any f (range_with_len 0 n) ≡ false → (p : ℕ) → p < n → f p ≡ false
none_at f n none p within = false_from_ne_true _ (λ y. false≢true (sym none ∙ any_at f (range_with_len 0 n) p there y))
  where
    there : Contains (range_with_len 0 n) p
    there = (p, rw (length-range_with_len 0 n) within, get_or-range_with_len 0 n p p within ∙ zero-add p)

-- whoever doesn't stay in left
left_or_stays : (was is : Bool) → was ≡ true → (was && not is) ≡ false → is ≡ true
left_or_stays true is w e = not-false is e
left_or_stays false is w e = absurd (false≢true w)

stays_next : MoreOfMapSatisfies → (c : Setup) (first before after : Moment) (r : ℕ) → KeepsTwo c before after → before.acknowledged r ≡ true → Stays c first before r → Stays c first after r
stays_next more c first before after r step a was = at (list_any f (range_with_len 0 (length c.processes))) refl
  where
    m : ℕ
    m = length first.journal

    -- whoever was kept and isn't any more
    f : ProcessSet
    f p = kept_since c m before r p && not (kept_since c m after r p)

    longer : length after.journal ≡ length before.journal + length step.grows.0
    longer = ap length step.grows.1 ∙ length-append before.journal step.grows.0

    grown : m ≤ length after.journal
    grown = let g = was.grown in omega (arith, longer)

    since : (p : ℕ) → destroyed_since c before.journal m p ≡ true → destroyed_since c after.journal m p ≡ true
    since p lost = subst (λ (j : List Entry). destroyed_since c j m p ≡ true) (sym step.grows.1) (since_more c before.journal step.grows.0 m p lost)

    lacks : (p : ℕ) → f p ≡ true → kept_since c m after r p ≡ true → Stays c first after r
    lacks p e k = absurd (false≢true (ap not (sym k) ∙ (and_parts (kept_since c m before r p) _ e).1))

    -- it held the record, and lost it
    lost : (p : ℕ) → f p ≡ true → before.holders r p ≡ true → (b : Bool) → after.holders r p ≡ b → Stays c first after r
    lost p e held true is = lacks p e (or_left _ _ is)
    lost p e held false is = elim (step.dies r p a held is) [
      | inl d ↦ lacks p e (or_right (after.holders r p) _ (since_earlier c after.journal m (length before.journal) p was.grown d))
      | inr k ↦ covered_stays more c first after r grown k
    ]

    at : (b : Bool) → list_any f (range_with_len 0 (length c.processes)) ≡ b → Stays c first after r
    at true some =
        let found : Any (λ p. f p ≡ true) (range_with_len 0 (length c.processes)) = Any-from_list_any f (range_with_len 0 (length c.processes)) some in
        let p : ℕ = found.1 in
        elim (or_cases (before.holders r p) _ (and_parts (kept_since c m before r p) _ found.4).0) [
          | inl held ↦ lost p found.4 held (after.holders r p) refl
          | inr d ↦ lacks p found.4 (or_right (after.holders r p) _ (since p d))
        ]
    at false none = record {
      grown = grown;
      policy = was.policy;
      given = was.given;
      sat = more c.processes was.policy _ (kept_since c m after r) (λ p within k. left_or_stays _ _ k (none_at f (length c.processes) none p within)) was.sat;
    }

stays_from : MoreOfMapSatisfies → (c : Setup) (at : ℕ → Moment) → IsByTwo c at → (k r j : ℕ) → IsAckedFirst at k (k + j) r → Stays c (at k) (at (k + j)) r
stays_from more c at two k r zero acked =
    let e : k ≡ k + zero = omega arith in
    let same : length (at k).journal ≤ length (at k).journal = omega arith in
    subst (λ n. Stays c (at k) (at n) r) e (covered_stays more c (at k) (at k) r same (covered_first c at two k (k + zero) r (omega arith) acked))
stays_from more c at two k r (suc j) acked =
    let e : (k + j) + 1 ≡ k + suc j = omega arith in
    let before : IsAckedFirst at k (k + j) r = record { since = λ i from to. acked.since i from (omega (arith, to)); first = acked.first } in
    subst (λ n. Stays c (at k) (at n) r) e (stays_next more c (at k) (at (k + j)) (at ((k + j) + 1)) r (two.goes_on (k + j)) (acked.since (k + j) (omega arith) (omega arith)) (stays_from more c at two k r j before))

pub holders_are_left_by_two : MoreOfMapSatisfies → SomeHolderIsLeft → HoldersAreLeftByTwo
holders_are_left_by_two more some_left c at two k n r later acked short =
    let e : k + (n - k) ≡ n = omega arith in
    let to : IsAckedFirst at k (k + (n - k)) r = subst (λ m. IsAckedFirst at k m r) (sym e) acked in
    let stays : Stays c (at k) (at n) r = subst (λ m. Stays c (at k) (at m) r) e (stays_from more c at two k r (n - k) to) in
    let P : Tree = stays.policy in
    let since : ProcessSet = destroyed_since c (at n).journal (length (at k).journal) in
    let is_short = All-contains (λ P. Sat c.processes P since → ⊥) c.policies P (All-from_recursion (λ P. Sat c.processes P since → ⊥) c.policies short) stays.given in
    let found = some_left c.processes P ((at n).holders r) since stays.sat is_short in
    record { holder = found.0; there = found.1; holds = found.2; never = found.3 }

pub store_lost_it : HoldersAreLeftByTwo → StoreLostIt
store_lost_it left c at k n r later acked short nobody two = nobody (left c at two k n r later acked short)

pub one_of_three_is_broken : HoldersAreLeft → OneOfThreeIsBroken
one_of_three_is_broken left c at met n r acked nobody guarded = nobody (left c at met guarded n r acked)

-- ---- some heal is believed

record IsHeal (journal : List Entry) (m : ℕ) : Type 0 where
  place : ℕ
  entry : Entry
  process : ℕ
  from : m ≤ place
  there : slice_get journal place ≡ Some entry
  healed : heals entry.act entry.reply ≡ Some process

-- an entry of a list heals, or none does
seek : (journal : List Entry) → (m : ℕ) → IsHeal journal m ⊎ ((i : ℕ) (e : Entry) → m ≤ i → slice_get journal i ≡ Some e → heals e.act e.reply ≡ None)
seek [] m = inr (λ i e from there. absurd (cc))
seek (x ∷ xs) zero = at (heals x.act x.reply) refl (seek xs zero)
  where
    at : (h : Option ℕ) → heals x.act x.reply ≡ h → IsHeal xs zero ⊎ ((i : ℕ) (e : Entry) → zero ≤ i → slice_get xs i ≡ Some e → heals e.act e.reply ≡ None) → IsHeal (x ∷ xs) zero ⊎ ((i : ℕ) (e : Entry) → zero ≤ i → slice_get (x ∷ xs) i ≡ Some e → heals e.act e.reply ≡ None)
    at (Some p) is rest = inl (record { place = zero; entry = x; process = p; from = omega arith; there = refl; healed = is })
    at None is (inl found) = inl (record { place = suc found.place; entry = found.entry; process = found.process; from = omega arith; there = found.there; healed = found.healed })
    at None is (inr none) = inr no
      where
        no : (i : ℕ) (e : Entry) → zero ≤ i → slice_get (x ∷ xs) i ≡ Some e → heals e.act e.reply ≡ None
        no zero e from there = let same : x ≡ e = cc in subst (λ (y : Entry). heals y.act y.reply ≡ None) same is
        no (suc i) e from there = none i e (omega arith) there
seek (x ∷ xs) (suc m) = at (seek xs m)
  where
    at : IsHeal xs m ⊎ ((i : ℕ) (e : Entry) → m ≤ i → slice_get xs i ≡ Some e → heals e.act e.reply ≡ None) → IsHeal (x ∷ xs) (suc m) ⊎ ((i : ℕ) (e : Entry) → suc m ≤ i → slice_get (x ∷ xs) i ≡ Some e → heals e.act e.reply ≡ None)
    at (inl found) = let from = found.from in inl (record { place = suc found.place; entry = found.entry; process = found.process; from = omega arith; there = found.there; healed = found.healed })
    at (inr none) = inr no
      where
        no : (i : ℕ) (e : Entry) → suc m ≤ i → slice_get (x ∷ xs) i ≡ Some e → heals e.act e.reply ≡ None
        no zero e from there = absurd (omega arith)
        no (suc i) e from there = none i e (omega arith) there

-- fewer are short of what more are short of
pub short_less : MoreSatisfies → (processes : List Locality) (policies : List Tree) (s t : ProcessSet) → ((p : ℕ) → s p ≡ true → t p ≡ true) → AreShort processes policies t → AreShort processes policies s
short_less more processes [] s t within short = tt
short_less more processes (P ∷ policies) s t within short = (λ sat. short.0 (more processes P s t within sat), short_less more processes policies s t within short.1)

-- where no entry from a position on heals, who was destroyed since is destroyed at the end
at_end : EntryAddsStep → (c : Setup) (journal : List Entry) (m p : ℕ) → ((i : ℕ) (e : Entry) → m ≤ i → slice_get journal i ≡ Some e → heals e.act e.reply ≡ None) → destroyed_since c journal m p ≡ true → destroyed (history c journal) p ≡ true
at_end steps c journal m p none e =
    let found = since_from c journal m p e in
    let from = found.from in
    let to = found.to in
    let n : found.position + (length journal - found.position) ≡ length journal = omega arith in
    let last : destroyed_at c journal (found.position + (length journal - found.position)) p ≡ true = stays_through steps c journal found.position p (length journal - found.position) (λ i e later there. none i e (omega arith) there) (omega arith) found.is in
    let whole : destroyed_at c journal (length journal) p ≡ true = subst (λ k. destroyed_at c journal k p ≡ true) n last in
    subst (λ (entries : List Entry). destroyed (history c entries) p ≡ true) (take_all (length journal) journal (omega arith)) whole

pub some_heal_is_believed : MoreSatisfies → DestroyedShort → FrontsLegal → EntryAddsStep → NextLegal → SomeHealIsBelieved
some_heal_is_believed more short fronts steps next c journal m met legal not_short =
    elim (seek journal m) [
      | inl found ↦ record {
        place = found.place;
        entry = found.entry;
        process = found.process;
        from = found.from;
        there = found.there;
        healed = found.healed;
        was = since_at c journal m found.process found.place found.from (within journal found.place found.entry found.there) (healed_at fronts next c journal found.place found.process found.entry legal found.there found.healed);
      }
      | inr none ↦ absurd (not_short (short_less more c.processes c.policies (destroyed_since c journal m) (destroyed (history c journal)) (λ p e. at_end steps c journal m p none e) (short c journal met legal)))
    ]
  where
    within : (xs : List Entry) (i : ℕ) (e : Entry) → slice_get xs i ≡ Some e → i ≤ length xs
    within [] i e there = absurd (cc)
    within (x ∷ xs) zero e there = omega arith
    within (x ∷ xs) (suc i) e there = let l = within xs i e there in omega arith
