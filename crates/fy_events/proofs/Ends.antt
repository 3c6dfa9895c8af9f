-- how many entries come before a time
use Rattle.std.proofs.Common.{◌≡◌, ◌≤◌, ◌<◌, ◌∙◌, ℕ, zero, suc, Bool, true, false, ◌&&◌, List, [], ◌∷◌, ◌++◌, length, drop, slice_get, Option, None, Some, refl, ap, arith, nat_lt, nat_le, cond, IsTrue, ◌+◌, ltb-true, ltb-false, leb-true, leb-false}
use Rattle.std.proofs.lemmas.Option.{slice_get_within}
use Rattle.fy_events.specs.declared.event.Event.{Event}
use Rattle.fy_events.specs.Events.{Rises, follows}
use Rattle.fy_events.specs.Columns.{end_at, time_from}

-- an event that follows another has a later entry, and comes no earlier
pub behind : (before event : Event) → IsTrue (follows (Some before) event)
    → (before.entry < event.entry) × (before.micros ≤ event.micros)
behind before event is = by (nat_lt before.entry event.entry) (nat_le before.micros event.micros) refl refl is
  where
    by : (a b : Bool) → nat_lt before.entry event.entry ≡ a → nat_le before.micros event.micros ≡ b
        → IsTrue (a && b) → (before.entry < event.entry) × (before.micros ≤ event.micros)
    by true true e f is = (ltb-true _ _ e, leb-true _ _ f)
    by true false e f is = absurd (cc)
    by false b e f is = absurd (cc)

-- what stands at the place of the first event at a time or later
pub end_is : (events : List Event) (at count time entry : ℕ)
    → ((event : Event) → slice_get events at ≡ Some event → time ≤ event.micros)
    → ((event : Event) → slice_get events at ≡ Some event → entry ≡ event.entry)
    → (slice_get events at ≡ None → entry ≡ count) → entry ≡ end_at (drop at events) count time
end_is [] zero count time entry late here behind = behind refl
end_is [] (suc at) count time entry late here behind = behind refl
end_is (event ∷ events) zero count time entry late here behind = by (nat_lt event.micros time) refl
  where
    by : (b : Bool) → nat_lt event.micros time ≡ b
        → entry ≡ cond b (end_at events count time) event.entry
    by true e = absurd (omega (arith, late event refl, ltb-true _ _ e))
    by false e = here event refl
end_is (event ∷ events) (suc at) count time entry late here behind =
    end_is events at count time entry late here behind

-- the entries before a time are behind those of an event before
pub at_least : (events : List Event) (count time : ℕ) (before : Event)
    → Rises count (Some before) events → before.entry < count
    → before.entry < end_at events count time
at_least [] count time before all low = low
at_least (event ∷ events) count time before all low =
    by (at_least events count time event all.1 all.0.entry) (nat_lt event.micros time)
  where
    by : event.entry < end_at events count time → (b : Bool)
        → before.entry < cond b (end_at events count time) event.entry
    by more true = omega (arith, more, (behind before event all.0.follows).0)
    by more false = (behind before event all.0.follows).0

-- at a later time no fewer
pub later : (events : List Event) (count early late : ℕ) (before : Option Event)
    → Rises count before events → early ≤ late → end_at events count early ≤ end_at events count late
later [] count early late before all le = omega arith
later (event ∷ events) count early late before all le =
    by (later events count early late (Some event) all.1 le) (nat_lt event.micros early)
    (nat_lt event.micros late) refl refl
  where
    by : end_at events count early ≤ end_at events count late → (a b : Bool)
        → nat_lt event.micros early ≡ a → nat_lt event.micros late ≡ b
        → cond a (end_at events count early) event.entry
        ≤ cond b (end_at events count late) event.entry
    by more true true e f = more
    by more true false e f = absurd (omega (arith, ltb-true _ _ e, ltb-false _ _ f))
    by more false true e f = omega (arith, at_least events count late event all.1 all.0.entry)
    by more false false e f = omega arith

-- one item more in a list, and those before
pub last : {A : Type 0} (xs : List A) (x : A) → slice_get (xs ++ x ∷ []) (length xs) ≡ Some x
last [] x = refl
last (y ∷ xs) x = last xs x

pub within : {A : Type 0} (xs ys : List A) (i : ℕ) → i < length xs
    → slice_get (xs ++ ys) i ≡ slice_get xs i
within [] ys i l = absurd (omega arith)
within (x ∷ xs) ys zero l = refl
within (x ∷ xs) ys (suc i) l = within xs ys i (omega arith)

-- a time is never before that of the event before
pub no_earlier : (events : List Event) (count entry : ℕ) (before : Event)
    → Rises count (Some before) events → before.micros ≤ time_from before.micros events entry
no_earlier [] count entry before all = omega arith
no_earlier (event ∷ events) count entry before all =
    by (no_earlier events count entry event all.1) (nat_le event.entry entry)
  where
    by : event.micros ≤ time_from event.micros events entry → (b : Bool)
        → before.micros ≤ cond b (time_from event.micros events entry) before.micros
    by more true = omega (arith, more, (behind before event all.0.follows).1)
    by more false = omega arith

-- an entry comes before a time exactly where its own time does
pub by_time : (events : List Event) (count entry time start : ℕ) (before : Option Event)
    → Rises count before events → entry < count → start < time
    → (entry < end_at events count time → time_from start events entry < time)
    × (time_from start events entry < time → entry < end_at events count time)
by_time [] count entry time start before all low early = (λ _. early, λ _. low)
by_time (event ∷ events) count entry time start before all low early =
    by (by_time events count entry time event.micros (Some event) all.1 low)
    (nat_lt event.micros time) (nat_le event.entry entry) refl refl
  where
    by : (event.micros < time
        → (entry < end_at events count time → time_from event.micros events entry < time)
        × (time_from event.micros events entry < time → entry < end_at events count time))
        → (a b : Bool) → nat_lt event.micros time ≡ a → nat_le event.entry entry ≡ b
        → (entry < cond a (end_at events count time) event.entry
        → cond b (time_from event.micros events entry) start < time)
        × (cond b (time_from event.micros events entry) start < time
        → entry < cond a (end_at events count time) event.entry)
    by more true true e f = more (ltb-true _ _ e)
    by more true false e f =
        (λ _. early, λ _. omega (arith, at_least events count time event all.1 all.0.entry, leb-false _ _ f))
    by more false true e f = (
      λ l. absurd (omega (arith, l, leb-true _ _ f)),
      λ l. absurd (omega (arith, l, ltb-false _ _ e, no_earlier events count entry event all.1)),
    )
    by more false false e f = (λ _. early, λ _. omega (arith, leb-false _ _ f))

-- one item more at the end of a list that a rule gives
pub one_end_more : (ends : List ℕ) (entry k : ℕ) (f : ℕ → ℕ) → length ends ≡ k
    → ((j : ℕ) → j < k → slice_get ends j ≡ Some (f j)) → entry ≡ f k
    → (j : ℕ) → j < k + 1 → slice_get (ends ++ entry ∷ []) j ≡ Some (f j)
one_end_more ends entry k f many each is j l = by (nat_lt j k) refl
  where
    by : (b : Bool) → nat_lt j k ≡ b → slice_get (ends ++ entry ∷ []) j ≡ Some (f j)
    by true e =
        let low = ltb-true _ _ e in
        within ends (entry ∷ []) j (omega (arith, low, many)) ∙ each j low
    by false e =
        let same : j ≡ length ends = omega (arith, ltb-false _ _ e, many, l) in
        let named : length ends ≡ j = omega (arith, same) in
        let right : k ≡ j = omega (arith, same, many) in
        ap (slice_get (ends ++ entry ∷ [])) same ∙ last ends entry ∙ ap Some (is ∙ ap f right)

-- what two places of such a list have
pub two_ends : (ends : List ℕ) (i low : ℕ) (f : ℕ → ℕ)
    → ((j : ℕ) → j < length ends → slice_get ends j ≡ Some (f j)) → slice_get ends i ≡ Some low
    → low ≡ f i
two_ends ends i low f each is =
    let there = slice_get_within ends i low is in let found = each i there in cc
