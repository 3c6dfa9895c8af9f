-- What became of a write, read off the steps after it. The rules say the same by the fates of
-- writes.
use Rattle.std.specs.Prelude.{◌≡◌, ℕ, ◌+◌, Bool, ◌&&◌, not, List, [], ◌∷◌, ◌++◌, find, None, is_some, is_none, option_to_list, if◌then◌else◌}
use Rattle.std.specs.List.{list_any}
use Rattle.fy_disk.specs.declared.item.Item.{Item}
use Rattle.fy_cluster.specs.History.{History, Step, some_is, destroys, closes, close_keeps, writes, written_item, synced, unsynced}

-- how many writes to the process there were since the last entry that closes
abbrev pub place : History → ℕ → ℕ
place [] p = 0
place (m ∷ h) p =
    if closes p m then 0 else (if is_some (writes m p) then place h p + 1 else place h p)

-- of a write with these later entries, the oldest first: none of them closes it
abbrev pub is_open : ℕ → List Step → ℕ → Bool
is_open p later i = is_none (find (closes p) later)

-- its close kept it, and it was never wiped since
abbrev pub is_kept : ℕ → List Step → ℕ → Bool
is_kept p later i =
    some_is (close_keeps p i) (find (closes p) later) && not (list_any (λ m. destroys m p) later)

-- the writes to the process that pass, by what came later and by their place
abbrev pub written : ℕ → (List Step → ℕ → Bool) → List Step → History → List Item
written p passes later [] = []
written p passes later (m ∷ h) =
    written p passes (m ∷ later) h
    ++ option_to_list (if passes later (place h p) then written_item h (writes m p) else None)

-- what is synced are the writes that are kept
abbrev pub SyncedByPlace : Type 0
SyncedByPlace = (h : History) (p : ℕ) → synced h p ≡ written p (is_kept p) [] h

-- what isn't are those that no entry closed
abbrev pub UnsyncedByPlace : Type 0
UnsyncedByPlace = (h : History) (p : ℕ) → unsynced h p ≡ written p (is_open p) [] h
