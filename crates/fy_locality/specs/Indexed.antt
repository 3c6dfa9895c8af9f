-- what a Map keeps beside its processes: an index of the values of each key, and their places in it
use Rattle.std.specs.Prelude.{◌≡◌, ◌≤◌, ℕ, List, length, Option, Some, None, MatchOption, slice_get, option_and_then, unwrap_or}
use Rattle.std.specs.Ordering.{nat_cmp}
use Rattle.std.specs.FinSet as sets
use Rattle.std.specs.List.{filter_map}
use Rattle.std.specs.Map.{keys_of, lookup}
use Rattle.std.specs.Str.{bytes_eq}
use Rattle.fy_locality.specs.declared.TheConstants.{MOST_PROCESSES}
use Rattle.fy_locality.specs.declared.map.Indexes.{Indexes}
use Rattle.fy_locality.specs.declared.map.ValueIndexes.{ValueIndexes}
use Rattle.fy_locality.specs.declared.locality.Locality.{Locality}
use Rattle.fy_locality.specs.declared.key.Key.{Key}
use Rattle.fy_locality.specs.declared.key.Key.TheVariants.{Process, Machine, Zone, DataHall, DataCenter}
use Rattle.fy_locality.specs.Locality.{value_in, value_of, has_value, values_of}

-- names in an order, each with a set of processes
abbrev pub Entries : Type 0
Entries = List (List ℕ × sets.FinSet nat_cmp)

-- the set kept for a name, or the empty set
abbrev pub group_of : Entries → List ℕ → sets.FinSet nat_cmp
group_of entries v = unwrap_or (lookup (bytes_eq v) entries) sets.empty

-- the values of a key in first-seen order, each with the processes that have it
pub record IsIndex (processes : List Locality) (key : Key) (entries : Entries) : Type 0 where
  pub seen : keys_of entries ≡ values_of processes key
  pub grouped :
      (v : List ℕ) (q : ℕ)
      → sets.contains (group_of entries v) q ≡ has_value processes key v q

-- each key's index has the same entries in both
pub record HasSameEntries (old new : Indexes) : Type 0 where
  pub ids : new.ids.entries ≡ old.ids.entries
  pub machines : new.machines.entries ≡ old.machines.entries
  pub zones : new.zones.entries ≡ old.zones.entries
  pub halls : new.halls.entries ≡ old.halls.entries
  pub data_centers : new.data_centers.entries ≡ old.data_centers.entries

-- a value stands at its place among the names, and what is no value has no place
abbrev pub IsValueIndex : List (List ℕ) → Option (List ℕ) → Option ℕ → Type 0
IsValueIndex names value place =
    MatchOption value (place ≡ None) (λ v. option_and_then (slice_get names) place ≡ Some v)

-- the place that is kept for a key of process p: its own name stands at its number
abbrev pub value_index_in : Key → ℕ → ValueIndexes → Option ℕ
value_index_in Process p places = Some p
value_index_in Machine p places = places.machine
value_index_in Zone p places = places.zone
value_index_in DataHall p places = places.data_hall
value_index_in DataCenter p places = places.data_center

-- each value of each process stands at the place that is kept for it
pub record AreValueIndexes (processes : List Locality) (places : List ValueIndexes) : Type 0 where
  pub count : length places ≡ length processes
  pub stand :
      (key : Key) (p : ℕ) (kept : ValueIndexes)
      → slice_get places p ≡ Some kept
      → IsValueIndex (values_of processes key) (value_of processes key p) (value_index_in key p kept)

-- names that differ, an index for each key, and places in them
pub record IsIndexed
    (processes : List Locality) (ids machines zones halls data_centers : Entries) (places : List ValueIndexes)
    : Type 0 where
  pub few : length processes ≤ MOST_PROCESSES
  pub own : filter_map (value_in Process) processes ≡ values_of processes Process
  pub ids_are : IsIndex processes Process ids
  pub machines_are : IsIndex processes Machine machines
  pub zones_are : IsIndex processes Zone zones
  pub halls_are : IsIndex processes DataHall halls
  pub data_centers_are : IsIndex processes DataCenter data_centers
  pub places_are : AreValueIndexes processes places
