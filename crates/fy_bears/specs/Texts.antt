-- how `bears` tells people what a cluster bears, line by line
use Rattle.std.specs.Prelude.{ℕ, zero, suc, ◌+◌, ◌-◌, ◌/◌, ◌==◌, ◌&&◌, nat_lt, nat_le, List, [], ◌++◌, Bool, true, false, not, codes, decimal, length, Option, Some, None, slice_get, slice_index_or, if◌then◌else◌}
use Rattle.std.specs.FinSet as sets
use Rattle.std.proofs.Common.{Global, Vec}
use Rattle.fy_locality.specs.declared.locality.Locality.{Locality}
use Rattle.fy_locality.specs.declared.key.Key.{Key}
use Rattle.fy_locality.specs.declared.key.Key.TheVariants.{Process, Machine, Zone, DataHall, DataCenter}
use Rattle.fy_locality.specs.Locality.{values_of}
use Rattle.fy_policy.specs.Counted.{number_of}
use Rattle.fy_policy.specs.Tree.{Tree}
use Rattle.fy_decide.specs.declared.dead_book.Loss.{Loss}
use Rattle.fy_decide.specs.declared.dead_book.Loss.TheVariants.{Emptied, Gone}
use Rattle.fy_tolerance.specs.declared.book.LossesSoFar.{LossesSoFar}
use Rattle.fy_tolerance.specs.declared.borne.Borne.{Borne}
use Rattle.fy_tolerance.specs.declared.groups.Group.{Group}
use Rattle.fy_tolerance.specs.declared.tolerance.Tolerance.{Tolerance}
use Rattle.fy_bears.specs.Pieces.{between, each_below, marked, names_line, names_text, number_text, policy_head}

-- ---- the losses before

-- who was destroyed, gone and down before, where that is told
abbrev pub before_text : List Locality → Option LossesSoFar → List ℕ
before_text processes None = []
before_text processes (Some losses) =
    names_line (codes "destroyed:") processes losses.destroyed
    ++ (names_line (codes "gone:") processes losses.gone
    ++ names_line (codes "down:") processes losses.down)

-- ---- policies

-- one process more than are borne is known to be too many
abbrev pub is_exact : Tolerance → Bool
is_exact found = sets.len found.too_many == found.any + 1

-- what a policy bears
abbrev pub tolerance_text : List Locality → Tolerance → List ℕ
tolerance_text processes found =
    number_text (is_exact found) found.any (sets.len found.too_many)
    ++ (names_text processes found.too_many ++ codes "\n")

-- the line of a policy, where something was found of it
abbrev pub policy_line : List Locality → ℕ → Option Tree → Option Tolerance → List ℕ
policy_line processes i policy None = []
policy_line processes i None (Some found) = []
policy_line processes i (Some policy) (Some found) =
    policy_head i policy ++ tolerance_text processes found

-- a line for each policy
abbrev pub policies_text : List Locality → List Tree → List Tolerance → List ℕ
policies_text processes policies found =
    each_below (λ i. policy_line processes i (slice_get policies i) (slice_get found i))
    (length policies)

-- ---- machines, zones, halls and centres

-- what the values of a key are
abbrev pub plural : Key → List ℕ
plural Process = codes "processes"
plural Machine = codes "machines"
plural Zone = codes "zones"
plural DataHall = codes "data halls"
plural DataCenter = codes "data centres"

-- how many of all
abbrev pub share_text : (some all : ℕ) → List ℕ
share_text some all =
    if some == all then codes "each of " ++ decimal all
    else if some == 0 then codes "none of " ++ decimal all
    else decimal some ++ (codes " of " ++ decimal all)

-- some are borne, and some aren't
abbrev pub is_mixed : (some all : ℕ) → Bool
is_mixed some all = not (some == all) && not (some == 0)

-- at most half of all
abbrev pub is_few : (some all : ℕ) → Bool
is_few some all = nat_le some (all / 2)

-- what stands before those that are borne, and before those that aren't
abbrev pub told_mark : Bool → List ℕ
told_mark true = codes ":"
told_mark false = codes ", not"

-- how many of all are borne; and where some are and some aren't, which: of both the fewer
abbrev pub shared_text : (some all : ℕ) → (Bool → List ℕ) → List ℕ
shared_text some all spell =
    share_text some all ++ (if is_mixed some all
    then told_mark (is_few some all) ++ spell (is_few some all)
    else [])

-- whether one is told of: those that are borne are told, or those that aren't
abbrev pub is_told : (told borne : Bool) → Bool
is_told true borne = borne
is_told false borne = not borne

-- whether the value at a place may be lost
abbrev pub alone_at : Group → ℕ → Bool
alone_at group i = slice_index_or group.alone.items i false

-- the value at a place, where it is told of
abbrev pub value_text : List (List ℕ) → Group → Bool → ℕ → List ℕ
value_text values group told i =
    if is_told told (alone_at group i) then marked (codes " ") (slice_get values i) else []

-- which values may be lost
abbrev pub alone_text : List (List ℕ) → Group → List ℕ
alone_text values group =
    shared_text (number_of (alone_at group) (length values)) (length values)
    (λ told. each_below (value_text values group told) (length values))

-- a mark in a row, where there is a row
abbrev pub mark_in : Option (Vec Bool Global) → ℕ → Bool
mark_in None i = false
mark_in (Some row) i = slice_index_or row.items i false

-- whether a value may be lost together with one that stands so far behind the next
abbrev pub pair_at : Group → ℕ → ℕ → Bool
pair_at group first behind = mark_in (slice_get group.pairs.items first) behind

-- how many such pairs there are of the values before a place
abbrev pub pairs_before : Group → (all first : ℕ) → ℕ
pairs_before group all zero = 0
pairs_before group all (suc first) =
    pairs_before group all first + number_of (pair_at group first) (all - (first + 1))

-- how many pairs there are of so many values: each makes one with every value before it
abbrev pub pairs_of : ℕ → ℕ
pairs_of zero = 0
pairs_of (suc value) = pairs_of value + value

-- a pair of values, where it is told of
abbrev pub pair_text : List (List ℕ) → Group → Bool → (first behind : ℕ) → List ℕ
pair_text values group told first behind =
    if is_told told (pair_at group first behind)
    then marked (codes " ") (slice_get values first)
    ++ marked (codes "+") (slice_get values (first + 1 + behind))
    else []

-- the pairs of a value with those behind it that are told of
abbrev pub row_text : List (List ℕ) → Group → Bool → ℕ → List ℕ
row_text values group told first =
    each_below (pair_text values group told first) (length values - (first + 1))

-- which pairs of values may be lost, where there are two values
abbrev pub pairs_text : List (List ℕ) → Group → List ℕ
pairs_text values group =
    if nat_lt 1 (length values)
    then codes "; pairs: "
    ++ shared_text (pairs_before group (length values) (length values))
    (pairs_of (length values))
    (λ told. each_below (row_text values group told) (length values))
    else []

-- the line of a key that some process has
abbrev pub group_line : List (List ℕ) → Group → List ℕ
group_line values group =
    if length values == 0 then []
    else codes "  " ++ (plural group.key ++ (codes ": "
    ++ (alone_text values group ++ (pairs_text values group ++ codes "\n"))))

-- the same, of the values that the processes have
abbrev pub group_text : List Locality → Group → List ℕ
group_text processes group = group_line (values_of processes group.key) group

-- ---- kinds of loss

-- the kind of a loss
abbrev pub loss_head : Loss → List ℕ
loss_head Emptied = codes "\nemptied (RebootAndDelete): "
loss_head Gone = codes "\nkilled for good (KillInstantly): "

-- how many are borne by all policies at once
abbrev pub any_text : ℕ → List ℕ
any_text any =
    if any == 0 then codes "some single process is too many\n"
    else if any == 1 then codes "any 1 process\n"
    else between (codes "any ") any (codes " processes together\n")

-- the lines of the machines, zones, halls and data centres
abbrev pub groups_text : List Locality → Borne → List ℕ
groups_text processes borne =
    group_text processes borne.machines
    ++ (group_text processes borne.zones
    ++ (group_text processes borne.halls
    ++ group_text processes borne.data_centers))

-- the paragraph of a kind of loss
abbrev pub borne_text : List Locality → List Tree → Borne → List ℕ
borne_text processes policies borne =
    loss_head borne.loss ++ (any_text borne.any
    ++ (policies_text processes policies borne.tolerances.items
    ++ groups_text processes borne))
