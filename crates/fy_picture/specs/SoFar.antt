-- the columns while entries come: where those that have ended end, and when the next one does
use Rattle.std.specs.Prelude.{◌≡◌, ◌+◌, ◌*◌, ◌<◌, ◌≤◌, ◌&&◌, ℕ, zero, suc, Bool, List, [], ◌∷◌, ◌++◌, length, nat_le, nat_lt, slice_get, Option, Some, None, IsSomeAnd, option_map, if◌then◌else◌}
use Rattle.fy_cluster.specs.History.{some_is}
use Rattle.fy_picture.specs.declared.TheConstants.{MOST_COLUMNS}
use Rattle.fy_picture.specs.declared.column.Column.{Column}
use Rattle.fy_picture.specs.declared.layout.Plan.{Plan}
use Rattle.fy_picture.specs.Layouts.{ends_of, laid_by, width_in}

-- the ends that are listed, if they are; how many entries a column stands for, if all stand for as
-- many; and where the columns that have ended end
pub record ColumnsSoFar : Type 0 where
  pub laid : Option (List ℕ)
  pub width : Option ℕ
  pub ends : List ℕ

-- at first an even column stands for one entry
abbrev pub first_width : Option (List ℕ) → Option ℕ
first_width None = Some 1
first_width (Some ends) = None

-- no column has ended
abbrev pub no_columns : Option (List ℕ) → ColumnsSoFar
no_columns laid = record { laid = laid; width = first_width laid; ends = [] }

-- the second of each two
abbrev pub seconds : List ℕ → List ℕ
seconds [] = []
seconds (one ∷ []) = []
seconds (one ∷ other ∷ ends) = other ∷ seconds ends

-- each two columns are one, of twice the width
abbrev pub folded : ColumnsSoFar → ColumnsSoFar
folded columns = record columns {
  width = option_map (λ width. width * 2) columns.width;
  ends = seconds columns.ends;
}

-- there are as many even columns as there may be, and more entries
abbrev pub is_full : (entries : ℕ) → ColumnsSoFar → Bool
is_full entries columns =
    some_is (λ width. nat_le MOST_COLUMNS (length columns.ends)
    && nat_lt (MOST_COLUMNS * width) entries) columns.width

-- there is room for a column more: each two are one where they are full
abbrev pub with_room : (entries : ℕ) → ColumnsSoFar → ColumnsSoFar
with_room entries columns = if is_full entries columns then folded columns else columns

-- where the next column ends, if there is one more
abbrev pub next_end : (laid : Option (List ℕ)) → (width : Option ℕ) → (columns : ℕ) → Option ℕ
next_end None width columns = option_map (λ each. (columns + 1) * each) width
next_end (Some ends) width columns = slice_get ends columns

-- the next column ends among so many entries
abbrev pub NextIsDue : (entries : ℕ) → ColumnsSoFar → Type 0
NextIsDue entries columns =
    IsSomeAnd (next_end columns.laid columns.width (length columns.ends)) (λ end. end ≤ entries)

-- a column more ends behind so many entries
abbrev pub one_ended : (entries : ℕ) → ColumnsSoFar → ColumnsSoFar
one_ended entries columns = record columns { ends = columns.ends ++ entries ∷ [] }

-- so many more do
abbrev pub with_ended : (entries count : ℕ) → ColumnsSoFar → ColumnsSoFar
with_ended entries zero columns = columns
with_ended entries (suc count) columns = one_ended entries (with_ended entries count columns)

-- columns have ended behind so many entries, each of which was due
pub record HaveEnded (entries : ℕ) (old new : ColumnsSoFar) : Type 0 where
  pub count : ℕ
  pub new_is : new ≡ with_ended entries count old
  pub each : (k : ℕ) → k < count → NextIsDue entries (with_ended entries k old)

-- all that were due have ended, once there was room
pub record DueHaveEnded (entries : ℕ) (old new : ColumnsSoFar) : Type 0 where
  pub ended : HaveEnded entries (with_room entries old) new
  pub late : NextIsDue entries new → ⊥

-- the columns so far of a plan
abbrev pub columns_in : Plan → List Column → ColumnsSoFar
columns_in plan columns = record {
  laid = laid_by plan;
  width = width_in plan;
  ends = ends_of columns;
}
