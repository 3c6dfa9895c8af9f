-- A window over an input: what it holds, and how it moves on.
use Rattle.std.specs.Prelude.{◌≡◌, ℕ, ◌≤◌, ◌<◌, ◌+◌, List, ◌∷◌, ◌++◌, length, Option}
use Rattle.std.specs.Io.KnownBytes.{Consumes, IsAtEnd}
use Rattle.fy_lines.specs.Lines.{IsLine}
use Rattle.fy_lines.specs.declared.input.InputFault.{InputFault}
use Rattle.fy_lines.specs.declared.input.InputFault.TheVariants.{TooLong, Reader, NoMemory}
use Rattle.fy_lines.specs.declared.windows.NextLine.{NextLine}
use Rattle.fy_lines.specs.declared.windows.NextLine.TheVariants.{Whole, Long, Last}

-- the bytes that were read and not taken yet, and how many were read in all
pub record WindowState : Type 0 where
  pub held : List ℕ
  pub read : ℕ

-- more bytes of a reader were read, and are held behind those that were
pub record Slides (old new : WindowState) (before after : Option (List ℕ)) : Type 0 where
  pub more : List ℕ
  pub consumed : Consumes before after more
  pub counted : new.read ≡ old.read + length more
  pub held : new.held ≡ old.held ++ more

-- more bytes of a reader were read, whatever is held of them
pub record ReadsOn (old new : WindowState) (before after : Option (List ℕ)) : Type 0 where
  pub more : List ℕ
  pub consumed : Consumes before after more
  pub counted : new.read ≡ old.read + length more

-- why not all of an input is read, by how many bytes were
abbrev pub IsCut : ℕ → ℕ → InputFault → Type 0
IsCut read limit TooLong = read ≡ limit + 1
IsCut read limit Reader = read ≤ limit
IsCut read limit NoMemory = ⊥

-- what is held begins with a line of so many bytes and its line feed
pub record HoldsLine (held : List ℕ) (count : ℕ) : Type 0 where
  pub line : List ℕ
  pub after : List ℕ
  pub split : held ≡ line ++ 10 ∷ after
  pub whole : IsLine line
  pub long : length line ≡ count

-- what is held begins with more bytes of a line than so many
pub record HoldsLongLine (held : List ℕ) (most : ℕ) : Type 0 where
  pub front : List ℕ
  pub after : List ℕ
  pub split : held ≡ front ++ after
  pub whole : IsLine front
  pub long : most < length front

-- what is held is all that is left, and has no line feed
pub record HoldsLast (held : List ℕ) (left : Option (List ℕ)) (count : ℕ) : Type 0 where
  pub whole : IsLine held
  pub long : length held ≡ count
  pub end : IsAtEnd left

-- what is known of the next line, by what is held and what is left in the reader
abbrev pub IsNext : List ℕ → Option (List ℕ) → ℕ → NextLine → Type 0
IsNext held left most (Whole count) = HoldsLine held count × (count ≤ most)
IsNext held left most Long = HoldsLongLine held most
IsNext held left most (Last count) = HoldsLast held left count × (count ≤ most)
