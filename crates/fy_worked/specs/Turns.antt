-- a guard that answers each line with the line, and what it has read and written
use Rattle.std.specs.Prelude.{◌≡◌, ℕ, List, Some, codes}
use Rattle.fy_guard.specs.Cuts.{with_feeds}
use Rattle.fy_guard.specs.GuardTexts.{Answering, AnsweredInTurn}

-- the text are the lines, each with its line feed
abbrev pub Echoes : Answering
Echoes lines text = text ≡ with_feeds lines

-- three lines
abbrev pub three_lines : List ℕ
three_lines = codes "a\nbc\nd\n"

-- of the three lines these bytes are left unread, and this text is out
abbrev pub Stands : (left out : List ℕ) → Type 0
Stands left out = AnsweredInTurn Echoes (Some three_lines) (Some left) (λ text. out ≡ text)
