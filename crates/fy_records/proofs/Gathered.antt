-- reads that are sorted by process, and then by key without moving those that tie
use Rattle.std.proofs.Common.{◌≡◌, ◌<◌, ◌≤◌, ◌+◌, ℕ, zero, suc, Bool, true, false, cond, ◌∙◌, List, [], ◌∷◌, length, get_or, refl, sym, ap, subst, inl, inr, arith}
use Rattle.std.specs.Prelude.{Contains, ◌==◌, filter}
use Rattle.std.specs.List.Sorted.{IsNonDecreasingBy}
use Rattle.fy_records.specs.declared.seen.Seen.{Seen}
use Rattle.fy_records.specs.Found.{AreGathered}
use Rattle.fy_records.specs.Indexed.{read_key}
use Rattle.fy_records.specs.Reads.{process_of}
use Rattle.fy_records.proofs.Finding.{contains_first, contains_other, contains_cases}
use Rattle.fy_records.proofs.Columns.{Climbs, climbs_from}

-- where neighbours have one key, the second asked no earlier process
abbrev TiesRise : List Seen → Type 0
TiesRise ys = (k : ℕ) (d : Seen) → k + 1 < length ys → read_key (get_or ys k d) ≡ read_key (get_or ys (k + 1) d)
    → process_of (get_or ys k d) ≤ process_of (get_or ys (k + 1) d)

ties_behind : (x : Seen) (xs : List Seen) → TiesRise (x ∷ xs) → TiesRise xs
ties_behind x xs ties k d within same =
    let e : suc k + 1 ≡ suc (k + 1) = omega arith in
    let up = subst (λ (n : ℕ). read_key (get_or (x ∷ xs) (suc k) d) ≡ read_key (get_or (x ∷ xs) n d) → process_of (get_or (x ∷ xs) (suc k) d) ≤ process_of (get_or (x ∷ xs) n d)) e (ties (suc k) d (omega (arith, within))) in
    up same

-- what is kept is an element, and passes
pub kept_is : {X : Type 0} (p : X → Bool) (xs : List X) (y : X) → Contains (filter p xs) y → Contains xs y × (p y ≡ true)
kept_is p [] y at = absurd (omega (arith, at.1))
kept_is {X} p (x ∷ xs) y at = by (p x) refl (kept_is p xs y) at
  where
    by : (b : Bool) → p x ≡ b → (Contains (filter p xs) y → Contains xs y × (p y ≡ true))
        → Contains (cond b (x ∷ filter p xs) (filter p xs)) y → Contains (x ∷ xs) y × (p y ≡ true)
    by false e rest at = (contains_other x xs y (rest at).0, (rest at).1)
    by true e rest at = elim (contains_cases x (filter p xs) y at) [
      | inl is ↦ (subst (λ (z : X). Contains (x ∷ xs) z) is (contains_first x xs), subst (λ (z : X). p z ≡ true) is e)
      | inr behind ↦ (contains_other x xs y (rest behind).0, (rest behind).1)
    ]

-- a later read of the same key asked no earlier process
reach : (x : Seen) (xs : List Seen) → Climbs read_key (x ∷ xs) → TiesRise (x ∷ xs) → (y : Seen) → Contains xs y
    → read_key x ≡ read_key y → process_of x ≤ process_of y
reach x [] climbs ties y at same = absurd (omega (arith, at.1))
reach x (z ∷ xs) climbs ties y at same =
    elim (contains_cases z xs y at) [
      | inl is ↦
          let next : read_key x ≡ read_key z = same ∙ ap read_key (sym is) in
          let up : process_of x ≤ process_of z = ties zero x (omega arith) next in
          subst (λ (s : Seen). process_of x ≤ process_of s) is up
      | inr behind ↦
          let low : read_key x ≤ read_key z = climbs.0 z (contains_first z xs) in
          let high : read_key z ≤ read_key y = climbs.1.0 y behind in
          let next : read_key x ≡ read_key z = omega (arith, low, high, same) in
          let up : process_of x ≤ process_of z = ties zero x (omega arith) next in
          let rest : process_of z ≤ process_of y = reach z xs climbs.1 (ties_behind x (z ∷ xs) ties) y behind (omega (arith, next, same)) in
          omega (arith, up, rest)
    ]

gathered : (xs : List Seen) → Climbs read_key xs → TiesRise xs → (key : ℕ) → AreGathered (filter (λ seen. seen.read.key == key) xs)
gathered [] climbs ties key = tt
gathered (x ∷ xs) climbs ties key = by (x.read.key == key) refl (gathered xs climbs.1 (ties_behind x xs ties) key)
  where
    p : Seen → Bool
    p seen = seen.read.key == key

    by : (b : Bool) → (x.read.key == key) ≡ b → AreGathered (filter p xs) → AreGathered (cond b (x ∷ filter p xs) (filter p xs))
    by false e rest = rest
    by true e rest = (
      λ y at.
          let there = kept_is p xs y at in
          let same : read_key x ≡ read_key y = grind (arith, e, there.1) in
          reach x xs climbs ties y there.0 same,
      rest,
    )

pub gathered_from : (xs : List Seen) → IsNonDecreasingBy read_key xs
    → ((k : ℕ) (d : Seen) → k + 1 < length xs → read_key (get_or xs k d) ≡ read_key (get_or xs (k + 1) d) → process_of (get_or xs k d) ≤ process_of (get_or xs (k + 1) d))
    → (key : ℕ) → AreGathered (filter (λ seen. seen.read.key == key) xs)
gathered_from xs order ties key = gathered xs (climbs_from read_key xs order) ties key
