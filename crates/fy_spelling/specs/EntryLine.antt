-- a line of an audit: the one text of an entry, or of none
use Rattle.std.specs.Prelude.{◌≡◌, ℕ, List, Result, Ok, Err, ⊤}
use Rattle.fy_spelling.specs.Fits.{FitsEntry}
use Rattle.fy_spelling.specs.Values.{text_of}
use Rattle.fy_acts.specs.declared.entry.Entry.{Entry}
use Rattle.fy_spelling.specs.declared.entry_line.EntryFault.{EntryFault}
use Rattle.fy_spelling.specs.declared.entry_line.EntryFault.TheVariants.{Syntax, NoMemory}

-- the line is the text of the entry, whose numbers and names fit
pub record IsTextOf (line : List ℕ) (entry : Entry) : Type 0 where
  pub text : line ≡ text_of entry
  pub fits : FitsEntry entry

-- what a line is: the text of an entry, or of none
abbrev pub EntryOf : List ℕ → Result Entry EntryFault → Type 0
EntryOf line (Ok entry) = IsTextOf line entry
EntryOf line (Err Syntax) = (entry : Entry) → IsTextOf line entry → ⊥
EntryOf line (Err NoMemory) = ⊥

-- what a reader may answer: what the line is, or that an allocation failed
abbrev pub EntryAnswers : List ℕ → Result Entry EntryFault → Type 0
EntryAnswers line (Err NoMemory) = ⊤
EntryAnswers line answer = EntryOf line answer
