-- the marks of an open column: a place for each process, by its number, and the last for nobody
use Rattle.std.specs.Prelude.{◌≡◌, ◌+◌, ◌-◌, ◌^◌, ◌<◌, ◌≤◌, ℕ, Bool, false, List, [], ◌∷◌, length, min, nat_lt, slice_get, slice_set, Option, Some, None, MatchOption, if◌then◌else◌}
use Rattle.std.specs.List.{filter}
use Rattle.std.specs.Ordering.{nat_cmp}
use Rattle.std.specs.FinSet as sets
use Rattle.fy_locality.specs.declared.TheConstants.{MOST_PROCESSES}
use Rattle.fy_cluster.specs.History.{some_is}
use Rattle.fy_svg.specs.declared.glyphs.Mark.{Mark}

-- what a place has at which no order is marked
abbrev pub no_mark : Mark
no_mark = record { process = 0; order = 0; weight = 0; count = 0 }

-- an order is marked
abbrev pub is_mark : Mark → Bool
is_mark mark = nat_lt 0 mark.weight

-- a place has a mark
abbrev pub has_mark : List Mark → (place : ℕ) → Bool
has_mark marks place = some_is is_mark (slice_get marks place)

-- what a place has as a list, empty where it is no mark
abbrev pub marks_in : Option Mark → List Mark
marks_in None = []
marks_in (Some mark) = filter is_mark (mark ∷ [])

-- those marked are exactly the processes that have a mark, and there is at most a place for each
-- process and one for nobody
pub record AreMarked (marks : List Mark) (marked : sets.FinSet nat_cmp) : Type 0 where
  pub few : length marks ≤ MOST_PROCESSES + 1
  pub each : (p : ℕ) → p < MOST_PROCESSES → sets.contains marked p ≡ has_mark marks p

-- the harder of two marks, of two equals the first
abbrev pub harder : (first second : Mark) → Mark
harder first second = if nat_lt first.weight second.weight then second else first

-- two marks of a place as one: the harder, with the orders of both
abbrev pub joined : (first second : Mark) → Mark
joined first second = record (harder first second) {
  count = min (first.count + second.count) (2 ^ 32 - 1);
}

-- a mark was joined with what its process has, where that has a place; the answer is whether it is
-- the harder
abbrev pub JoinsMark : Mark → (old new : List Mark) → (is_harder : Bool) → Type 0
JoinsMark mark old new is_harder =
    MatchOption (slice_get old mark.process)
    ((new ≡ old) × (is_harder ≡ false))
    (λ there. (new ≡ slice_set old mark.process (joined there mark))
    × (is_harder ≡ nat_lt there.weight mark.weight))
