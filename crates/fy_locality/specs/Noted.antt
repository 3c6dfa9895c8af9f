-- an index of values after one more process
use Rattle.std.specs.Prelude.{◌≡◌, ℕ, ◌&&◌, ◌||◌, ◌==◌, List, Option, Some, None}
use Rattle.std.specs.FinSet as sets
use Rattle.std.specs.Map.{keys_of}
use Rattle.std.specs.Option.{option_eq}
use Rattle.std.specs.Str.{bytes_eq}
use Rattle.indexmap.specs.IndexSet.{insert_key}
use Rattle.fy_locality.specs.Indexed.{Entries, group_of}

-- the names after one more is seen, where there is one
abbrev pub names_with : List (List ℕ) → Option (List ℕ) → List (List ℕ)
names_with names None = names
names_with names (Some v) = insert_key bytes_eq names v

-- p is put into the set of its value, where it has one
pub record AddsToIndex (old : Entries) (value : Option (List ℕ)) (p : ℕ) (new : Entries) : Type 0 where
  pub seen : keys_of new ≡ names_with (keys_of old) value
  pub grouped :
      (v : List ℕ) (q : ℕ)
      → sets.contains (group_of new v) q
      ≡ (sets.contains (group_of old v) q || (q == p && option_eq bytes_eq value (Some v)))
