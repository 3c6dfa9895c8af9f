-- holders of a guarded store's records: what covers a record goes on covering it, and the destroyed
-- never do
use Rattle.std.proofs.Common.{◌≡◌, ℕ, zero, suc, ◌+◌, ◌<◌, Bool, true, false, ◌&&◌, ◌||◌, not, length, Contains, refl, ◌∙◌, subst, arith, ◌⊎◌, inl, inr, zero-add}
use Rattle.std.proofs.lemmas.Bool.{false≢true, not-false, both_ways, false_from_ne_true}
use Rattle.std.proofs.lemmas.List.Elements.{All-contains, All-from_recursion}
use Rattle.std.proofs.lemmas.List.Folds.{Any-from_list_any}
use Rattle.std.proofs.lemmas.List.FromFn.{length-range_with_len, get_or-range_with_len}
use Rattle.std.specs.List.{list_any, Any, range_with_len}
use Rattle.fy_policy.specs.Tree.{Tree}
use Rattle.fy_policy.specs.Sat.{Sat}
use Rattle.fy_policy.specs.Laws.{MoreOfMapSatisfies, SomeHolderIsLeft}
use Rattle.fy_cluster.specs.Setup.{Setup}
use Rattle.fy_cluster.specs.History.{ProcessSet}
use Rattle.fy_cluster.specs.Survival.{DestroyedShort}
use Rattle.fy_cluster.specs.Stores.{Moment, known_destroyed, IsCovered, KeepsPremises, IsGuarded, HoldersAreLeft}
use Rattle.fy_cluster.proofs.Records.{any_at}

-- whoever held the record or was destroyed, and neither holds it nor is destroyed now
abbrev dropped : Setup → Moment → Moment → ℕ → ProcessSet
dropped c before after r p =
    (before.holders r p || known_destroyed c before p) && not (after.holders r p || known_destroyed c after p)

-- that one was healed without the record, or what follows where it lost it is so
dropped_is : (C : Type 0) (held was holds is : Bool) → ((held || was) && not (holds || is)) ≡ true → (held ≡ true → holds ≡ false → (is ≡ true) ⊎ C) → ((was ≡ true) × (is ≡ false) × (holds ≡ false)) ⊎ C
dropped_is C held was true is e dies = absurd (both_ways _ (no (held || was)) e)
  where
    no : (b : Bool) → (b && false) ≡ false
    no true = refl
    no false = refl
dropped_is C held was false true e dies = absurd (both_ways _ (no (held || was)) e)
  where
    no : (b : Bool) → (b && false) ≡ false
    no true = refl
    no false = refl
dropped_is C held true false false e dies = inl (refl, refl, refl)
dropped_is C true false false false e dies = elim (dies refl refl) [
  | inl is ↦ absurd (false≢true is)
  | inr k ↦ inr k
]
dropped_is C false false false false e dies = absurd (false≢true e)

-- whoever isn't dropped stays in
stays : (was is : Bool) → was ≡ true → (was && not is) ≡ false → is ≡ true
stays true is w e = not-false is e
stays false is w e = absurd (false≢true w)

-- where none of the first n passes, none does
none_at : (f : ℕ → Bool) (n : ℕ) → list_any f (range_with_len 0 n) ≡ false → (p : ℕ) → p < n → f p ≡ false
none_at f n none p within = false_from_ne_true _ (λ y. both_ways _ none (any_at f (range_with_len 0 n) p there y))
  where
    there : Contains (range_with_len 0 n) p
    there = (p, rw (length-range_with_len 0 n) within, get_or-range_with_len 0 n p p within ∙ zero-add p)

covered_next : MoreOfMapSatisfies → (c : Setup) (before after : Moment) → KeepsPremises c before after → (r : ℕ) → before.acknowledged r ≡ true → IsCovered c before r → IsCovered c after r
covered_next more c before after step r a covered = at (list_any f (range_with_len 0 (length c.processes))) refl
  where
    f : ProcessSet
    f = dropped c before after r

    healed : (p : ℕ) → (known_destroyed c before p ≡ true) × (known_destroyed c after p ≡ false) × (after.holders r p ≡ false) → IsCovered c after r
    healed p is = elim (step.heals p r (record { was = is.0; is = is.1 }) a) [
      | inl h ↦ absurd (both_ways _ is.2 h)
      | inr k ↦ k
    ]

    at : (b : Bool) → list_any f (range_with_len 0 (length c.processes)) ≡ b → IsCovered c after r
    at true some =
        let found : Any (λ p. f p ≡ true) (range_with_len 0 (length c.processes)) = Any-from_list_any f (range_with_len 0 (length c.processes)) some in
        let p : ℕ = found.1 in
        elim (dropped_is (IsCovered c after r) (before.holders r p) (known_destroyed c before p) (after.holders r p) (known_destroyed c after p) found.4 (step.dies r p a)) [
          | inl is ↦ healed p is
          | inr k ↦ k
        ]
    at false none = (
      covered.0,
      covered.1,
      more c.processes covered.0 _ _ (λ p within was. stays _ _ was (none_at f (length c.processes) none p within)) covered.2,
    )

covered_at : MoreOfMapSatisfies → (c : Setup) (at : ℕ → Moment) → IsGuarded c at → (n r : ℕ) → (at n).acknowledged r ≡ true → IsCovered c (at n) r
covered_at more c at guarded zero r a = guarded.begins r a
covered_at more c at guarded (suc n) r a = go (covered_at more c at guarded n r) ((at n).acknowledged r) refl
  where
    step : KeepsPremises c (at n) (at (suc n))
    step = let e : n + 1 ≡ suc n = omega arith in subst (λ m. KeepsPremises c (at n) (at m)) e (guarded.goes_on n)

    go : ((at n).acknowledged r ≡ true → IsCovered c (at n) r) → (b : Bool) → (at n).acknowledged r ≡ b → IsCovered c (at (suc n)) r
    go covered true was = covered_next more c (at n) (at (suc n)) step r was (covered was)
    go covered false was = step.acknowledges r was a

pub holders_are_left : MoreOfMapSatisfies → SomeHolderIsLeft → DestroyedShort → HoldersAreLeft
holders_are_left more some_left short c at met guarded n r a =
    let covered = covered_at more c at guarded n r a in
    let destroyed = known_destroyed c (at n) in
    let P : Tree = covered.0 in
    let are_short = short c (at n).journal met (guarded.legal n) in
    let is_short = All-contains (λ P. Sat c.processes P destroyed → ⊥) c.policies P (All-from_recursion (λ P. Sat c.processes P destroyed → ⊥) c.policies are_short) covered.1 in
    let found = some_left c.processes P ((at n).holders r) destroyed covered.2 is_short in
    record { holder = found.0; there = found.1; holds = found.2; remains = found.3 }
