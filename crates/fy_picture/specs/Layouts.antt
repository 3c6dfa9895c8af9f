-- where the columns of a picture end
use Rattle.std.specs.Prelude.{◌≡◌, ◌+◌, ◌*◌, ◌^◌, ◌<◌, ◌≤◌, ◌⊎◌, ℕ, List, length, map, min, take, slice_get, Option, Some, None}
use Rattle.fy_picture.specs.declared.TheConstants.{MOST_COLUMNS}
use Rattle.fy_picture.specs.declared.column.Column.{Column}
use Rattle.fy_picture.specs.declared.layout.Plan.{Plan}
use Rattle.fy_picture.specs.declared.layout.Plan.TheVariants.{Even, Laid}

-- how many entries a column stands for, and how many there are up to the end of each column
pub record Layout : Type 0 where
  pub width : ℕ
  pub ends : List ℕ

-- the width of a column, in entries: the least power of two with which the most columns have room
-- for so many entries. So it is 1 up to 4,000 entries
pub record IsWidth (entries width : ℕ) : Type 0 where
  pub exponent : ℕ
  pub power : width ≡ 2 ^ exponent
  pub room : entries ≤ MOST_COLUMNS * width
  pub least : (other : ℕ) → entries ≤ MOST_COLUMNS * 2 ^ other → width ≤ 2 ^ other

-- how many columns: the fewest of this width that have room for so many entries
pub record AreColumns (entries width columns : ℕ) : Type 0 where
  pub few : columns ≤ MOST_COLUMNS
  pub room : entries ≤ columns * width
  pub least : (other : ℕ) → entries ≤ other * width → columns ≤ other

-- the fewest columns of the least width, each of which ends where it has as many entries as all
-- others, or with the last entry
pub record IsLayout (entries : ℕ) (layout : Layout) : Type 0 where
  pub width : IsWidth entries layout.width
  pub columns : AreColumns entries layout.width (length layout.ends)
  pub each : (k : ℕ) → k < length layout.ends
      → slice_get layout.ends k ≡ Some (min ((k + 1) * layout.width) entries)

-- no end is less than one before it
abbrev pub AreInOrder : List ℕ → Type 0
AreInOrder ends =
    (j k one other : ℕ) → j ≤ k → slice_get ends j ≡ Some one → slice_get ends k ≡ Some other →
    one ≤ other

-- where columns end
abbrev pub ends_of : List Column → List ℕ
ends_of columns = map (λ column. column.end) columns

-- columns that are laid out evenly: the fewest that have room for each entry, of the least width
-- that needs no more than 4,000
pub record AreEven (entries : ℕ) (columns : List Column) : Type 0 where
  pub layout : Layout
  pub is_layout : IsLayout entries layout
  pub ends : ends_of columns ≡ layout.ends

-- columns were made at the first of these ends, and all others are yet to come
pub record AreMade (ends : List ℕ) (entries : ℕ) (columns : List Column) : Type 0 where
  pub made : ends_of columns ≡ take (length columns) ends
  pub later : (k end : ℕ) → length columns ≤ k → slice_get ends k ≡ Some end → entries ≤ end

-- no end among so many entries is left out
pub record AreAllMade (ends : List ℕ) (entries : ℕ) (columns : List Column) : Type 0 where
  pub made : ends_of columns ≡ take (length columns) ends
  pub later : (k end : ℕ) → length columns ≤ k → slice_get ends k ≡ Some end → entries < end

-- ---- columns that are recorded while entries come

-- the width of columns that are even
abbrev pub width_in : Plan → Option ℕ
width_in (Even width) = Some width
width_in (Laid ends) = None

-- the ends that are listed
abbrev pub laid_by : Plan → Option (List ℕ)
laid_by (Even width) = None
laid_by (Laid ends) = Some ends.items

-- at first a column stands for one entry
abbrev pub IsFresh : Plan → Type 0
IsFresh (Even width) = width ≡ 1
IsFresh (Laid ends) = Unit {0}

-- whole columns of this width, a power of two, of so many entries. At most one column is open, and
-- half the width would need too many columns
pub record AreWhole (width entries : ℕ) (columns : List Column) : Type 0 where
  pub exponent : ℕ
  pub power : width ≡ 2 ^ exponent
  pub few : length columns ≤ MOST_COLUMNS
  pub each : (k : ℕ) (column : Column) → slice_get columns k ≡ Some column →
      column.end ≡ (k + 1) * width
  pub among : length columns * width ≤ entries
  pub next : entries ≤ (length columns + 1) * width
  pub narrow : (width ≡ 1) ⊎ (MOST_COLUMNS * width < 2 * entries)

-- the columns so far
abbrev pub AreSoFar : Plan → (entries : ℕ) → List Column → Type 0
AreSoFar (Even width) entries columns = AreWhole width entries columns
AreSoFar (Laid ends) entries columns = AreInOrder ends.items → AreMade ends.items entries columns

-- the columns in the end, and their width
abbrev pub AreEnded : Plan → (entries : ℕ) → List Column → Type 0
AreEnded (Even width) entries columns = IsWidth entries width × AreEven entries columns
AreEnded (Laid ends) entries columns = AreInOrder ends.items → AreAllMade ends.items entries columns

-- the next column's end is among the entries
abbrev pub IsDue : Plan → (columns entries : ℕ) → Type 0
IsDue (Even width) columns entries = (columns + 1) * width ≤ entries
IsDue (Laid ends) columns entries =
    (end : ℕ) × (slice_get ends.items columns ≡ Some end) × (end ≤ entries)

-- the next column's end, if there is one, is not
abbrev pub IsLate : Plan → (columns entries : ℕ) → Type 0
IsLate (Even width) columns entries = entries < (columns + 1) * width
IsLate (Laid ends) columns entries =
    (end : ℕ) → slice_get ends.items columns ≡ Some end → entries < end

-- there are entries behind the columns, which are even
abbrev pub IsOpen : Plan → (columns entries : ℕ) → Type 0
IsOpen (Even width) columns entries = columns * width < entries
IsOpen (Laid ends) columns entries = ⊥

-- there is none behind columns that are even
abbrev pub IsShut : Plan → (columns entries : ℕ) → Type 0
IsShut (Even width) columns entries = entries ≤ columns * width
IsShut (Laid ends) columns entries = Unit {0}

-- there are as many columns of this width as there may be, and more entries
pub record IsFull (plan : Plan) (columns entries width : ℕ) : Type 0 where
  pub even : plan ≡ Even width
  pub full : MOST_COLUMNS ≤ columns
  pub more : MOST_COLUMNS * width < entries

-- a column more may be made, or none is needed
abbrev pub HasRoom : Plan → (columns entries : ℕ) → Type 0
HasRoom (Even width) columns entries =
    (columns < MOST_COLUMNS) ⊎ (entries ≤ MOST_COLUMNS * width)
HasRoom (Laid ends) columns entries = Unit {0}
