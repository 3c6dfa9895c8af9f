-- the reads of one process, and those of all of them together
use Rattle.std.proofs.Common.{◌≡◌, ◌<◌, ◌≤◌, ◌+◌, ℕ, zero, suc, Bool, true, false, cond, List, [], ◌∷◌, ◌&&◌, length, take, drop, get_or, Option, refl, sym, ap, subst, inl, inr, arith}
use Rattle.std.specs.Prelude.{Contains, nat_le, ◌==◌}
use Rattle.std.specs.List.{list_any, prefix_len}
use Rattle.fy_history.specs.declared.history.Place.{Place}
use Rattle.fy_records.specs.declared.TheConstants.{MINUTE_NANOS}
use Rattle.fy_records.specs.declared.seen.Seen.{Seen}
use Rattle.fy_records.specs.Found.{AreOfOne, AreApart, AreGathered}
use Rattle.fy_records.specs.Reads.{is_answered, is_at_end, process_of, same_process, began_after}
use Rattle.fy_records.proofs.Finding.{any_agree, contains_first, contains_other, contains_cases}

-- among reads of one process a later answer is one of that process
pub later_of_one : (reads : List Seen) (written : Option Place) (seen : Seen) → AreOfOne reads → Contains reads seen
    → list_any (λ later. (is_answered later && is_at_end written later) && began_after seen.read.began.line later) reads
    ≡ list_any (λ later. same_process seen later && is_answered later && is_at_end written later && began_after seen.read.began.line later) reads
later_of_one reads written seen one there =
    any_agree _ _ reads (λ later at.
    ap (λ b. b && is_answered later && is_at_end written later && began_after seen.read.began.line later) (sym (one seen later there at)))

-- and so is the first that it was asked
pub first_of_one : (reads : List Seen) (written : Option Place) (seen : Seen) → AreOfOne reads → Contains reads seen
    → list_any (λ first. is_at_end written first && nat_le (first.read.began.nanos + MINUTE_NANOS) seen.read.began.nanos) reads
    ≡ list_any (λ first. same_process seen first && is_at_end written first && nat_le (first.read.began.nanos + MINUTE_NANOS) seen.read.began.nanos) reads
first_of_one reads written seen one there =
    any_agree _ _ reads (λ first at.
    ap (λ b. b && is_at_end written first && nat_le (first.read.began.nanos + MINUTE_NANOS) seen.read.began.nanos) (sym (one seen first there at)))

-- what is behind a front is gathered too
pub gathered_behind : (n : ℕ) (xs : List Seen) → AreGathered xs → AreGathered (drop n xs)
gathered_behind zero xs all = all
gathered_behind (suc n) [] all = tt
gathered_behind (suc n) (x ∷ xs) all = gathered_behind n xs all.1

-- one element more of a front, and behind it
take_one : (n : ℕ) (x : Seen) (xs : List Seen) → take (1 + n) (x ∷ xs) ≡ x ∷ take n xs
take_one n x xs = let e : 1 + n ≡ suc n = omega arith in ap (λ k. take k (x ∷ xs)) e

drop_one : (n : ℕ) (x : Seen) (xs : List Seen) → drop (1 + n) (x ∷ xs) ≡ drop n xs
drop_one n x xs = let e : 1 + n ≡ suc n = omega arith in ap (λ k. drop k (x ∷ xs)) e

-- the longest front that passes a test does so
front_passes : (p : Seen → Bool) (xs : List Seen) (a : Seen) → Contains (take (prefix_len p xs) xs) a → p a ≡ true
front_passes p [] a at = absurd (omega (arith, at.1))
front_passes p (x ∷ xs) a at = by (p x) refl (front_passes p xs a) at
  where
    by : (b : Bool) → p x ≡ b → (Contains (take (prefix_len p xs) xs) a → p a ≡ true)
        → Contains (take (cond b (1 + prefix_len p xs) 0) (x ∷ xs)) a → p a ≡ true
    by true e rest at =
        let there = subst (λ (ys : List Seen). Contains ys a) (take_one (prefix_len p xs) x xs) at in
        elim (contains_cases x (take (prefix_len p xs) xs) a there) [
          | inl is ↦ subst (λ (y : Seen). p y ≡ true) is e
          | inr behind ↦ rest behind
        ]
    by false e rest at = absurd (omega (arith, at.1))

-- those behind it asked a later process
back_is_later : (process : ℕ) (xs : List Seen) → AreGathered xs → ((y : Seen) → Contains xs y → process ≤ process_of y)
    → (b : Seen) → Contains (drop (prefix_len (λ s. process_of s == process) xs) xs) b → process < process_of b
back_is_later process [] rises from b at = absurd (omega (arith, at.1))
back_is_later process (x ∷ xs) rises from b at =
    by (process_of x == process) refl (back_is_later process xs rises.1 (λ y there. from y (contains_other x xs y there)) b) at
  where
    p : Seen → Bool
    p s = process_of s == process

    here : process ≤ process_of x
    here = from x (contains_first x xs)

    by : (e : Bool) → (process_of x == process) ≡ e → (Contains (drop (prefix_len p xs) xs) b → process < process_of b)
        → Contains (drop (cond e (1 + prefix_len p xs) 0) (x ∷ xs)) b → process < process_of b
    by true e rest at = rest (subst (λ (ys : List Seen). Contains ys b) (drop_one (prefix_len p xs) x xs) at)
    by false e rest at =
        let above : process < process_of x = grind (arith, here, e) in
        elim (contains_cases x xs b at) [
          | inl is ↦ subst (λ (y : Seen). process < process_of y) is above
          | inr behind ↦ omega (arith, above, rises.0 b behind)
        ]

-- equal numbers pass the test for equality
equal : (m n k : ℕ) → (m == k) ≡ true → (n == k) ≡ true → (m == n) ≡ true
equal m n k first second = grind (arith, first, second)

-- and those that differ don't
differ : (m n k : ℕ) → (m == k) ≡ true → k < n → ((m == n) ≡ false) × ((n == m) ≡ false)
differ m n k first later = (grind (arith, first, later), grind (arith, first, later))

-- so the reads of the first process are of one
pub front_of_one : (process : ℕ) (xs : List Seen) → AreOfOne (take (prefix_len (λ s. process_of s == process) xs) xs)
front_of_one process xs a b at_a at_b =
    equal (process_of a) (process_of b) process
    (front_passes (λ s. process_of s == process) xs a at_a)
    (front_passes (λ s. process_of s == process) xs b at_b)

-- where the first read asked a process, the reads of that process are apart from those behind them
front_apart : (first : Seen) (xs : List Seen) → AreGathered (first ∷ xs)
    → AreApart (take (prefix_len (λ s. process_of s == process_of first) (first ∷ xs)) (first ∷ xs)) (drop (prefix_len (λ s. process_of s == process_of first) (first ∷ xs)) (first ∷ xs))
front_apart first xs order a b at_a at_b =
    let from : (y : Seen) → Contains (first ∷ xs) y → process_of first ≤ process_of y =
    λ y there. elim (contains_cases first xs y there) [
      | inl is ↦ subst (λ (z : Seen). process_of first ≤ process_of z) is (omega arith)
      | inr behind ↦ order.0 y behind
    ] in
    differ (process_of a) (process_of b) (process_of first)
    (front_passes (λ s. process_of s == process_of first) (first ∷ xs) a at_a)
    (back_is_later (process_of first) (first ∷ xs) order from b at_b)

pub split_apart : (xs : List Seen) (d : Seen) (process : ℕ) → 0 < length xs → AreGathered xs
    → process ≡ process_of (get_or xs 0 d)
    → AreApart (take (prefix_len (λ s. process_of s == process) xs) xs) (drop (prefix_len (λ s. process_of s == process) xs) xs)
split_apart [] d process some order is = absurd (omega (arith, some))
split_apart (x ∷ xs) d process some order is =
    subst (λ n. AreApart (take (prefix_len (λ s. process_of s == n) (x ∷ xs)) (x ∷ xs)) (drop (prefix_len (λ s. process_of s == n) (x ∷ xs)) (x ∷ xs)))
    (sym is) (front_apart x xs order)

-- there is one such read
pub front_some : (xs : List Seen) (d : Seen) (process : ℕ) → 0 < length xs → process ≡ process_of (get_or xs 0 d)
    → 0 < prefix_len (λ s. process_of s == process) xs
front_some [] d process some is = absurd (omega (arith, some))
front_some (x ∷ xs) d process some is = subst (λ b. 0 < cond b (1 + prefix_len (λ s. process_of s == process) xs) 0) (sym same) (omega arith)
  where
    same : (process_of x == process) ≡ true
    same = grind (arith, is)
