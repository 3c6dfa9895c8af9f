-- When processes were destroyed, by positions in a journal. A position is how many entries stand
-- before it, so the last one is how many entries there are.
use Rattle.std.specs.Prelude.{ℕ, ◌+◌, ◌-◌, List, [], ◌∷◌, ◌++◌, length, take, drop, Option, option_map, option_to_list}
use Rattle.std.specs.List.{list_any, range_with_len}
use Rattle.fy_acts.specs.declared.entry.Entry.{Entry}
use Rattle.fy_cluster.specs.Setup.{Setup}
use Rattle.fy_cluster.specs.History.{ProcessSet, destroyed, heals, history}
use Rattle.fy_holders.specs.declared.outages.Heal.{Heal}

-- who is destroyed at a position
abbrev pub destroyed_at : Setup → List Entry → (position : ℕ) → ProcessSet
destroyed_at c journal position = destroyed (history c (take position journal))

-- the positions from one to the last
abbrev pub positions_from : List Entry → (first : ℕ) → List ℕ
positions_from journal first = range_with_len first (length journal + 1 - first)

-- who is destroyed at some position from this one to the last
abbrev pub destroyed_since : Setup → List Entry → (position : ℕ) → ProcessSet
destroyed_since c journal position p =
    list_any (λ k. destroyed_at c journal k p) (positions_from journal position)

-- the heal that an entry did
abbrev pub heal_of : Entry → Option Heal
heal_of e = option_map (λ p. record { process = record { 0 = p }; entry = e.at }) (heals e.act e.reply)

-- the heals that entries did
abbrev pub heals_in : List Entry → List Heal
heals_in [] = []
heals_in (e ∷ later) = option_to_list (heal_of e) ++ heals_in later

-- the heals that the entries from a position on did
abbrev pub heals_since : List Entry → (position : ℕ) → List Heal
heals_since journal position = heals_in (drop position journal)
