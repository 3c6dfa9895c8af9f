-- stores of one's own beside a guard of the six. All their records have the same holders, and are
-- acknowledged at once.
use Rattle.std.specs.Prelude.{ℕ, zero, suc, ◌==◌, Bool, true, false, List, [], ◌∷◌, ◌++◌, codes}
use Rattle.std.specs.List.{list_any}
use Rattle.fy_kinds.specs.declared.kind.Kind.TheVariants.{RebootAndDelete}
use Rattle.fy_acts.specs.declared.act.Act.TheVariants.{Up}
use Rattle.fy_acts.specs.declared.reply.Reply.TheVariants.{Done}
use Rattle.fy_acts.specs.declared.entry.Entry.{Entry}
use Rattle.fy_cluster.specs.History.{ProcessSet}
use Rattle.fy_cluster.specs.Stores.{Moment}
use Rattle.fy_laws.specs.Clusters.{entry, process, zone_named, empty, heal, struck}

-- the set of these processes
abbrev pub these : List ℕ → ProcessSet
these ps p = list_any (λ q. q == p) ps

-- after these entries these processes have the records, which are acknowledged or not
abbrev pub moment : List Entry → List ℕ → Bool → Moment
moment journal holders acknowledged = record {
  journal = journal;
  holders = λ r. these holders;
  acknowledged = λ r. acknowledged;
}

-- a zone is emptied
abbrev pub zone_emptied : List Entry
zone_emptied = entry 0 1 (empty (zone_named (codes "z0"))) (struck RebootAndDelete) ∷ []

-- its first process comes back and is healed
abbrev pub first_healed : List Entry
first_healed = zone_emptied ++ entry 1 0 (Up (process 0)) Done ∷ entry 2 0 (heal 0) Done ∷ []

-- and then its second
abbrev pub both_healed : List Entry
both_healed = first_healed ++ entry 3 0 (Up (process 1)) Done ∷ entry 4 0 (heal 1) Done ∷ []

-- ---- a store that keeps the premises

-- nothing is written
abbrev pub unwritten : Moment
unwritten = moment [] [] false

-- processes of two zones have the records
abbrev pub written : Moment
written = moment [] (0 ∷ 2 ∷ []) true

-- one of them is emptied
abbrev pub struck_once : Moment
struck_once = moment zone_emptied (2 ∷ []) true

-- it is healed with a copy
abbrev pub copied_and_healed : Moment
copied_and_healed = moment first_healed (0 ∷ 2 ∷ []) true

-- so is the other process of its zone, which never had a copy: the two that have one are enough
abbrev pub healed_beside : Moment
healed_beside = moment both_healed (0 ∷ 2 ∷ []) true

-- the moments one after another
abbrev pub stored : ℕ → Moment
stored zero = unwritten
stored (suc zero) = written
stored (suc (suc zero)) = struck_once
stored (suc (suc (suc zero))) = copied_and_healed
stored (suc (suc (suc (suc n)))) = healed_beside

-- ---- what a heal without a copy may take

-- processes of three zones have the records, where two are enough
abbrev pub in_three_zones : Moment
in_three_zones = moment [] (0 ∷ 2 ∷ 4 ∷ []) true

-- the first of them is emptied, started, and healed without a copy
abbrev pub healed_beside_two : Moment
healed_beside_two = moment first_healed (2 ∷ 4 ∷ []) true

-- ---- moments that break a premise

-- a process dies that nobody struck
abbrev pub died_unasked : Moment
died_unasked = moment zone_emptied [] true

-- the records are acknowledged with copies in one zone alone
abbrev pub one_zone_has_it : Moment
one_zone_has_it = moment [] (0 ∷ 1 ∷ []) true

-- the whole zone is healed without a copy
abbrev pub healed_without : Moment
healed_without = moment both_healed (2 ∷ []) true

-- the only holder is emptied
abbrev pub last_holder_emptied : Moment
last_holder_emptied = moment zone_emptied (0 ∷ []) true
