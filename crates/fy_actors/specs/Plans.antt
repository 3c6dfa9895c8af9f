-- what is drawn from random words
use Rattle.std.specs.Prelude.{◌≡◌, ℕ, zero, suc, ◌+◌, ◌-◌, ◌%◌, ◌==◌, min, nat_lt, ◌*◌, List, [], ◌∷◌, length, map, take, drop, swap, if◌then◌else◌}
use Rattle.std.specs.List.{range_with_len}
use Rattle.fy_locality.specs.declared.ProcId.{ProcId}
use Rattle.fy_locality.specs.declared.locality.Locality.{Locality}
use Rattle.fy_locality.specs.declared.key.Key.TheVariants.{Machine}
use Rattle.fy_locality.specs.Locality.{values_of}
use Rattle.fy_actors.specs.Words.{stream_outputs}
use Rattle.fy_actors.specs.declared.plans.SwizzlePlan.{SwizzlePlan}

-- from this index down to 1, each item is swapped with the one at or below it that the next word
-- names
abbrev pub shuffled_from : {A : Type 0} → ℕ → List ℕ → List A → List A
shuffled_from zero words xs = xs
shuffled_from (suc i) [] xs = xs
shuffled_from (suc i) (word ∷ words) xs =
    shuffled_from i words (swap xs (suc i) (word % (suc i + 1)))

-- the list shuffled, from its last item on (Fisher-Yates)
abbrev pub shuffled : {A : Type 0} → List ℕ → List A → List A
shuffled words xs = shuffled_from (length xs - 1) words xs

-- those that stand beside an odd word
abbrev pub chosen : {A : Type 0} → List ℕ → List A → List A
chosen [] xs = []
chosen (word ∷ words) [] = []
chosen (word ∷ words) (x ∷ xs) =
    if word % 2 == 1 then x ∷ chosen words xs else chosen words xs

-- how many words a swizzle of these candidates takes: one for each to choose, and one for each
-- chosen but the first to shuffle; too few to choose by are told first
abbrev pub swizzle_need : List ℕ → List ProcId → ℕ
swizzle_need words candidates =
    if nat_lt (length words) (length candidates) then length candidates
    else length candidates + (length (chosen words candidates) - 1)

-- who is clogged, in the candidates' order, and who is freed, shuffled by the words that are left
pub record IsSwizzle (words : List ℕ) (candidates : List ProcId) (plan : SwizzlePlan) : Type 0 where
  pub clogs : plan.clogs.items ≡ chosen words candidates
  pub frees : plan.frees.items
      ≡ shuffled (drop (length candidates) words) (chosen words candidates)

-- the first of the shuffled machines: so many, but so many others are left
abbrev pub machines_to_kill : List ℕ → List Locality → ℕ → ℕ → List (List ℕ)
machines_to_kill words processes to_kill to_leave =
    let machines = values_of processes Machine in
    take (min to_kill (length machines - to_leave)) (shuffled words machines)

-- ---- plans of all processes

-- every process, by number
abbrev pub everyone : List Locality → List ProcId
everyone processes = map (λ p. record { 0 = p }) (range_with_len 0 (length processes))

-- the words of such a plan: two for each process, from a stream of the seed
abbrev pub plan_words : List Locality → (seed stream : ℕ) → List ℕ
plan_words processes seed stream = stream_outputs seed stream (2 * length processes)
