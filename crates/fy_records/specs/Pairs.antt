-- keys with values as numbers
use Rattle.std.specs.Prelude.{◌≡◌, ◌<◌, ◌+◌, ◌*◌, ◌^◌, ℕ, Bool, ◌==◌, List}
use Rattle.std.specs.List.{list_any}
use Rattle.fy_history.specs.declared.history.Write.{Write}
use Rattle.fy_records.specs.Lines.{is_written}

-- the number of a key with a value is among these
abbrev pub has_pair : List ℕ → (key value : ℕ) → Bool
has_pair pairs key value = list_any (λ x. x == key * 4294967296 + value) pairs

-- these are the numbers of the keys with the values that writes gave them, or may have
abbrev pub ArePairs : List Write → List ℕ → Type 0
ArePairs writes pairs =
    (key value : ℕ) → value < 2 ^ 32 → has_pair pairs key value ≡ is_written writes key value
