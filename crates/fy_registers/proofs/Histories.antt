-- what a history says of an operation, and when operations are one
use Rattle.std.proofs.Common.{suc, zero, inl, inr, ◌⊎◌, ◌≡◌, ℕ, ◌+◌, ◌<◌, ◌≤◌, Bool, true, false, nat_lt, List, length, get_or, Some, sym, subst, arith, ltb-true, ltb-false}
use Rattle.std.specs.List.{Contains, AllPairs, AllAdjacentBelow}
use Rattle.std.proofs.lemmas.List.Elements.{All-contains}
use Rattle.std.proofs.lemmas.Bool.{cases_eq}
use Rattle.fy_registers.specs.declared.operation.Operation.{Operation}
use Rattle.fy_registers.specs.Linear.{value_of, IsWithin, IsHistory}
use Rattle.fy_registers.specs.Zones.{HasRoom}
use Rattle.std.proofs.Math.Seq.{take-length}
use Rattle.std.proofs.lemmas.List.{take_more}
use Rattle.std.proofs.lemmas.List.Elements.{Contains-push_cases}
use Rattle.std.proofs.Common.{take, ap, ◌∙◌}

module _ (h : List Operation) (history : IsHistory h) (o : Operation) (among : Contains h o) where
  within : IsWithin (length h) o
  within = All-contains (IsWithin (length h)) h o history.each among

  pub ends_late : (end : ℕ) → o.ended ≡ Some end → o.began ≤ end
  ends_late end e = within.ends end e

  pub value_small : (v : ℕ) → value_of o ≡ Some v → v < length h
  value_small v e = within.below v e

-- each operation begins before the next, so before all later ones
pub rises : (h : List Operation) → AllAdjacentBelow (λ one later. one.began < later.began) h (length h) → AllPairs (λ one later. one.began < later.began) h
rises h next i zero d less below = absurd (omega arith)
rises h next i (suc j) d less below = go (λ sooner. rises h next i j d sooner (omega arith)) (cases_eq i j)
  where
    step : (get_or h j d).began < (get_or h (suc j) d).began
    step = subst (λ k. (get_or h j d).began < (get_or h k d).began) (let one : j + 1 ≡ suc j = omega arith in one) (next j d (omega arith))

    go : (i < j → (get_or h i d).began < (get_or h j d).began) → (i ≡ j) ⊎ (i ≡ j → ⊥) → (get_or h i d).began < (get_or h (suc j) d).began
    go sooner (inl same) = subst (λ k. (get_or h k d).began < (get_or h (suc j) d).began) (sym same) step
    go sooner (inr other) = let low = sooner (omega arith) in let up = step in omega arith

abbrev pub is_earlier : Operation → Operation → Bool
is_earlier one later = nat_lt one.began later.began

pub in_order_from : (h : List Operation) → AllAdjacentBelow (λ one later. true ≡ is_earlier one later) h (length h) → AllPairs (λ one later. one.began < later.began) h
in_order_from h tested = rises h (λ k d less. ltb-true _ _ (sym (tested k d less)))

pub out_of_order : (h : List Operation) → ((k : ℕ) × (k + 1 < length h) × ((d : Operation) → false ≡ is_earlier (get_or h k d) (get_or h (k + 1) d))) → Operation → IsHistory h → ⊥
out_of_order h (k, below, tested) d history =
    let low = history.in_order k (k + 1) d (omega arith) below in
    let high = ltb-false _ _ (sym (tested d)) in omega arith

-- ---- a number above all values
module _ (h : List Operation) (i : ℕ) (d0 : Operation) (below : i < length h) where
  pub room_more : (count more : ℕ) → HasRoom (take i h) count → count ≤ more → ((v : ℕ) → value_of (get_or h i d0) ≡ Some v → v < more) → HasRoom (take (i + 1) h) more
  room_more count more room up here o among v value = go (Contains-push_cases (take i h) (get_or h i d0) o (subst (λ xs. Contains xs o) (take_more h i d0 below) among))
    where
      go : Contains (take i h) o ⊎ (get_or h i d0 ≡ o) → v < more
      go (inl there) = let low = room o there v value in omega arith
      go (inr same) = here v (ap value_of same ∙ value)

pub room_ends : (h : List Operation) (i count : ℕ) → i ≡ length h → HasRoom (take i h) count → HasRoom h count
room_ends h i count is room = subst (λ xs. HasRoom xs count) (ap (λ n. take n h) is ∙ take-length h) room
