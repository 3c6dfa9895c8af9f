-- what the laws of work at a desk state
use Rattle.std.specs.Prelude.{◌≡◌, ◌≢◌, ℕ}
use Rattle.fy_actors.specs.Desk.{DeskState, entries_by, Worked}

-- no work is work
abbrev pub NoneIsWork : Type 0
NoneIsWork = (desk : DeskState) → Worked desk desk

-- work after work is work
abbrev pub WorkAddsUp : Type 0
WorkAddsUp = (first then last : DeskState) → Worked first then → Worked then last → Worked first last

-- receipts that are all the entries of their actor still are after work
abbrev pub ReceiptsStayWhole : Type 0
ReceiptsStayWhole =
    (before after : DeskState) → Worked before after
    → before.receipts ≡ entries_by before.actor before.journal
    → after.receipts ≡ entries_by after.actor after.journal

-- work adds no entry of anybody else
abbrev pub OthersAddNothing : Type 0
OthersAddNothing =
    (before after : DeskState) (other : ℕ) → Worked before after → other ≢ before.actor
    → entries_by other after.journal ≡ entries_by other before.journal
