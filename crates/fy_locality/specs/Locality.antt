-- the values of the keys at the processes
use Rattle.std.specs.Prelude.{◌≡◌, ℕ, Bool, true, not, ◌&&◌, List, [], ◌∷◌, length, filter, Option, Some, None, slice_get, option_and_then, nat_le, if◌then◌else◌}
use Rattle.std.specs.Ordering.{nat_cmp}
use Rattle.std.specs.FinSet as sets
use Rattle.std.specs.List.{filter_map}
use Rattle.std.specs.Option.{option_eq, option_map_or}
use Rattle.std.specs.Str.{bytes_eq}
use Rattle.std.specs.Set.{is_member}
use Rattle.fy_locality.specs.Name.{is_name}
use Rattle.fy_locality.specs.declared.TheConstants.{MOST_PROCESSES}
use Rattle.fy_locality.specs.declared.map.MapFault.{MapFault}
use Rattle.fy_locality.specs.declared.map.MapFault.TheVariants.{Name, Twice, TooMany}
use Rattle.fy_locality.specs.declared.locality.Locality.{Locality}
use Rattle.fy_locality.specs.declared.key.Key.{Key}
use Rattle.fy_locality.specs.declared.key.Key.TheVariants.{Process, Machine, Zone, DataHall, DataCenter}

-- the value of a key in a locality
abbrev pub value_in : Key → Locality → Option (List ℕ)
value_in Process locality = Some locality.process
value_in Machine locality = Some locality.machine
value_in Zone locality = Some locality.zone
value_in DataHall locality = locality.data_hall
value_in DataCenter locality = locality.data_center

-- the value of a key at process p
abbrev pub value_of : List Locality → Key → ℕ → Option (List ℕ)
value_of processes key p = option_and_then (value_in key) (slice_get processes p)

-- whether process p has the value v of a key
abbrev pub has_value : List Locality → Key → List ℕ → ℕ → Bool
has_value processes key v p = option_eq bytes_eq (value_of processes key p) (Some v)

-- two processes with one name are one
abbrev pub NamesDiffer : List Locality → Type 0
NamesDiffer processes =
    (p q : ℕ) (name : List ℕ)
    → value_of processes Process p ≡ Some name → value_of processes Process q ≡ Some name → p ≡ q

-- the set has exactly the processes with the value that process p has of a key
pub record ArePeers
    (processes : List Locality) (key : Key) (p : ℕ) (set : sets.FinSet nat_cmp)
    : Type 0 where
  pub value : List ℕ
  pub had : value_of processes key p ≡ Some value
  pub those : (q : ℕ) → sets.contains set q ≡ has_value processes key value q

-- each name once, in the order in which they first come
abbrev pub first_seen : List (List ℕ) → List (List ℕ)
first_seen [] = []
first_seen (x ∷ xs) = x ∷ filter (λ y. not (bytes_eq x y)) (first_seen xs)

-- the values of a key, in the order in which they first come
unfoldable pub values_of : List Locality → Key → List (List ℕ)
values_of processes key = first_seen (filter_map (value_in key) processes)

-- five texts as a locality
abbrev pub locality_of : List ℕ → List ℕ → List ℕ → Option (List ℕ) → Option (List ℕ) → Locality
locality_of process machine zone data_hall data_center =
    record {
      process = process;
      machine = machine;
      zone = zone;
      data_hall = data_hall;
      data_center = data_center;
    }

-- whether each of its texts is a name
abbrev pub are_names : Locality → Bool
are_names locality =
    is_name locality.process && is_name locality.machine && is_name locality.zone
    && option_map_or is_name locality.data_hall true
    && option_map_or is_name locality.data_center true

-- why a process with a name is not taken, in order
abbrev pub id_refusal : List Locality → List ℕ → Option MapFault
id_refusal processes id =
    if is_member bytes_eq (values_of processes Process) id
    then Some Twice
    else (if nat_le MOST_PROCESSES (length processes) then Some TooMany else None)

-- why a process is not added, in order
abbrev pub refusal_of : List Locality → Locality → Option MapFault
refusal_of processes new = if are_names new then id_refusal processes new.process else Some Name
