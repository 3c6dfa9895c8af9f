-- what a name is, and how it is stored
use Rattle.std.specs.Prelude.{◌≡◌, ℕ, ◌-◌, ◌≤◌, Bool, ◌&&◌, ◌||◌, not, ◌==◌, nat_lt, nat_le, List, ◌++◌, length, take, replicate, slice_index, IsTrue}
use Rattle.std.specs.List.{list_all}
use Rattle.std.specs.Char.{is_ascii_alphanumeric}
use Rattle.std.proofs.Common.{get_or}
use Rattle.fy_locality.specs.declared.name.TheConstants.{MOST_NAME_CHARACTERS}

-- a letter, a digit, `_` or `-`
abbrev pub is_name_byte : ℕ → Bool
is_name_byte b = is_ascii_alphanumeric b || b == 95 || b == 45

-- 1 to 32 such bytes, the first not `-`
abbrev pub is_name : List ℕ → Bool
is_name bs =
    nat_lt 0 (length bs) && nat_le (length bs) MOST_NAME_CHARACTERS
    && not (slice_index bs 0 == 45) && list_all is_name_byte bs

-- a name in 32 bytes, with zeros behind it
pub record IsStored (bytes : List ℕ) (len : ℕ) : Type 0 where
  pub count : length bytes ≡ MOST_NAME_CHARACTERS
  pub within : len ≤ MOST_NAME_CHARACTERS
  pub name : IsTrue (is_name (take len bytes))
  pub zeros : (k : ℕ) → len ≤ k → get_or bytes k 0 ≡ 0

-- a name's bytes with zeros behind them
unfoldable pub padded : List ℕ → List ℕ
padded v = v ++ replicate (MOST_NAME_CHARACTERS - length v) 0
