-- texts of entries and lines of scripts that are of one thing each
use Rattle.std.specs.List.{AllByRecursion}
use Rattle.std.specs.Prelude.{◌≡◌, ◌≢◌, ℕ, List, Result}
use Rattle.fy_spelling.specs.Fits.{FitsEntry}
use Rattle.fy_spelling.specs.Representable.{IsRepresentable}
use Rattle.fy_spelling.specs.Values.{text_of}
use Rattle.fy_spelling.specs.Command.{LineOf}
use Rattle.fy_spelling.specs.declared.command.Command.{Command}
use Rattle.fy_spelling.specs.declared.command.LineFault.{LineFault}
use Rattle.fy_acts.specs.declared.entry.Entry.{Entry}

-- two entries with one text are equal
abbrev pub OneEntryPerText : Type 0
OneEntryPerText = (a b : Entry) → FitsEntry a → FitsEntry b → text_of a ≡ text_of b → a ≡ b

-- so are any two that a program can hold, also where a rule names its policy by a number of more
-- than 32 bits, of which no line is read
abbrev pub OneHeldEntryPerText : Type 0
OneHeldEntryPerText = (a b : Entry) → IsRepresentable a → IsRepresentable b → text_of a ≡ text_of b → a ≡ b

-- a line of a script comes to one command, or has one first fault
abbrev pub LineIsUnambiguous : Type 0
LineIsUnambiguous =
    (line : List ℕ) (x y : Result Command LineFault) → LineOf line x → LineOf line y → x ≡ y

-- no byte is a line feed
abbrev pub HasNoFeed : List ℕ → Type 0
HasNoFeed bytes = AllByRecursion (λ b. b ≢ 10) bytes

-- the text of an entry is one line
abbrev pub TextsAreLines : Type 0
TextsAreLines = (e : Entry) → FitsEntry e → HasNoFeed (text_of e)

-- so is that of any entry that a program can hold
abbrev pub HeldTextsAreLines : Type 0
HeldTextsAreLines = (e : Entry) → IsRepresentable e → HasNoFeed (text_of e)
