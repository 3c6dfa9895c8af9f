-- what the laws of the values of a key state
use Rattle.std.specs.Prelude.{◌≡◌, ◌≤◌, ◌↔◌, ℕ, List, length, true, false, Some}
use Rattle.std.specs.List.{IsDistinct}
use Rattle.std.specs.Set.{is_member}
use Rattle.std.specs.Str.{bytes_eq}
use Rattle.fy_locality.specs.declared.key.Key.{Key}
use Rattle.fy_locality.specs.declared.locality.Locality.{Locality}
use Rattle.fy_locality.specs.Locality.{value_of, has_value, values_of}

-- the values of a key differ
abbrev pub ValuesDiffer : Type 0
ValuesDiffer =
    (processes : List Locality) (key : Key) → IsDistinct bytes_eq (values_of processes key)

-- a value of a key is one that some process has
abbrev pub ValuesOccur : Type 0
ValuesOccur =
    (processes : List Locality) (key : Key) (v : List ℕ)
    → (is_member bytes_eq (values_of processes key) v ≡ true)
    ↔ ((p : ℕ) × (value_of processes key p ≡ Some v))

-- a process passes the test of a value exactly where that is its value
abbrev pub ValueIsHad : Type 0
ValueIsHad =
    (processes : List Locality) (key : Key) (v : List ℕ) (p : ℕ)
    → (has_value processes key v p ≡ true) ↔ (value_of processes key p ≡ Some v)

-- what is no process has no value
abbrev pub ProcessesHaveValues : Type 0
ProcessesHaveValues =
    (processes : List Locality) (key : Key) (v : List ℕ) (p : ℕ)
    → length processes ≤ p → has_value processes key v p ≡ false
