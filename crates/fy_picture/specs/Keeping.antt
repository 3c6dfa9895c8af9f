-- which process keeps each record behind a journal, and which entry acknowledged it
use Rattle.std.specs.Prelude.{◌≡◌, ◌<◌, ◌≤◌, ℕ, Bool, true, false, List, [], ◌∷◌, ◌++◌, length, min, take, slice_get, Option, Some, None, is_some, option_map, IsSomeAnd, IsTrue, IsFalse, if◌then◌else◌}
use Rattle.fy_locality.specs.declared.ProcId.{ProcId}
use Rattle.fy_acts.specs.declared.reply.Reply.{Reply}
use Rattle.fy_acts.specs.declared.reply.Reply.TheVariants.{Marked}
use Rattle.fy_acts.specs.declared.entry.Entry.{Entry}
use Rattle.fy_cluster.specs.Setup.{Setup}
use Rattle.fy_cluster.specs.Execution.{Execution, history_of}
use Rattle.fy_cluster.specs.History.{history, records, acked, keeper, begins}
use Rattle.fy_picture.specs.declared.TheConstants.{MOST_KEPT}

-- of each of the first records, by number, its keeper in the history of the whole journal: of an
-- acknowledged record the least member of its team that isn't destroyed and has it synced
pub record AreKeepers (c : Setup) (journal : List Entry) (keepers : List (Option ProcId)) : Type 0
  where
    pub count : length keepers ≡ min (length (records (history c journal))) MOST_KEPT
    pub each : (r : ℕ) → r < length keepers
        → slice_get keepers r ≡ Some (keeper c (history c journal) r)

-- the entry at this place acknowledged the record: after the entries before it the record isn't
-- acknowledged, and after any entries with it the record is; with no place, it never is
pub record IsAckedAt (c : Setup) (journal : List Entry) (r : ℕ) (place : Option ℕ) : Type 0 where
  pub before : (at count : ℕ) → place ≡ Some at → count ≤ at →
      IsFalse (acked (history c (take count journal)) r)
  pub from : (at count : ℕ) → place ≡ Some at → at < count →
      IsTrue (acked (history c (take count journal)) r)
  pub never : (count : ℕ) → place ≡ None → IsFalse (acked (history c (take count journal)) r)

-- of each of the first records, by number, the place of the entry that acknowledged it
pub record AreAckedAt (c : Setup) (journal : List Entry) (places : List (Option ℕ)) : Type 0 where
  pub count : length places ≡ min (length (records (history c journal))) MOST_KEPT
  pub each : (r : ℕ) → r < length places → IsSomeAnd (slice_get places r) (IsAckedAt c journal r)

-- the reply says that a record is acknowledged now
abbrev pub says_acked : Reply → Bool
says_acked (Marked acked) = acked
says_acked _ = false

-- the record that an entry with this reply acknowledges, where it delivers an acknowledgement of
-- one
abbrev pub acknowledged : Reply → Option ℕ → Option ℕ
acknowledged reply marked = if says_acked reply then marked else None

-- the place noted of a record behind one more entry: the one that was, or else that of the entry
-- where the record is acknowledged now
abbrev pub noted : (at : ℕ) → (is_acked : Bool) → Option ℕ → Option ℕ
noted at is_acked (Some place) = Some place
noted at is_acked None = if is_acked then Some at else None

-- each place is noted by one entry more, where it acknowledged the record
pub record Notes (at : ℕ) (acknowledges : ℕ → Bool) (old new : List (Option ℕ)) : Type 0 where
  pub count : length new ≡ length old
  pub each : (r : ℕ) → slice_get new r ≡ option_map (noted at (acknowledges r)) (slice_get old r)

-- no place is noted yet of a record that was begun
abbrev pub with_begun : Bool → List (Option ℕ) → List (Option ℕ)
with_begun true places = places ++ None ∷ []
with_begun false places = places

-- the entry that comes next begins the record with the number known, one of the first, which
-- nobody keeps
pub record BeginsNext (execution : Execution) (entry : Entry) (known : ℕ) : Type 0 where
  pub few : known < MOST_KEPT
  pub begins : IsTrue (is_some (begins entry.act entry.reply))
  pub unkept : acked (history_of execution) known ≡ false

-- of each of so many records, by number, its keeper
pub record ListsKeepers (execution : Execution) (count : ℕ) (keepers : List (Option ProcId)) :
    Type 0 where
  pub count_is : length keepers ≡ count
  pub each : (r : ℕ) → r < count
      → slice_get keepers r ≡ Some (keeper execution.setup (history_of execution) r)
