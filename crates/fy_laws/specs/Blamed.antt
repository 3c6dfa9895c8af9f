-- stores of one's own beside a guard of the six that lost their records, and those destroyed since
use Rattle.std.specs.Prelude.{ℕ, zero, suc, true, List, [], ◌∷◌, ◌++◌, codes}
use Rattle.fy_kinds.specs.declared.kind.Kind.TheVariants.{RebootAndDelete}
use Rattle.fy_acts.specs.declared.entry.Entry.{Entry}
use Rattle.fy_cluster.specs.Stores.{Moment}
use Rattle.fy_laws.specs.Clusters.{entry, zone_named, empty, struck}
use Rattle.fy_laws.specs.Stores.{moment, both_healed, written, struck_once, healed_without}

-- a zone is emptied and healed, and then the next zone is emptied
abbrev pub next_zone_emptied : List Entry
next_zone_emptied =
    both_healed
    ++ entry 5 1 (empty (zone_named (codes "z1"))) (struck RebootAndDelete) ∷ []

-- the next zone had the last holder
abbrev pub all_lost : Moment
all_lost = moment next_zone_emptied [] true

-- a zone is healed without a copy, and then the last holder is emptied
abbrev pub misled : ℕ → Moment
misled zero = written
misled (suc zero) = struck_once
misled (suc (suc zero)) = healed_without
misled (suc (suc (suc n))) = all_lost
