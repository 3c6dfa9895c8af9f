-- How much a reader has given, where its bytes are known.
use Rattle.std.specs.Prelude.{◌≡◌, ℕ, ◌≤◌, ◌<◌, ◌⊎◌, List, [], ◌∷◌, ◌++◌, length, Option, Some, IfSome}
use Rattle.std.specs.Io.KnownBytes.{Consumes, Keeps, IsAtEnd}
use Rattle.fy_lines.specs.Lines.{lines_of, IsLine}
use Rattle.fy_lines.specs.declared.feed.Piece.{Piece}
use Rattle.fy_lines.specs.declared.feed.Piece.TheVariants.{End, Feed, Inside}

-- just so many bytes were read
abbrev pub ReadsExactly : Option (List ℕ) → Option (List ℕ) → ℕ → Type 0
ReadsExactly old new count = (front : List ℕ) × Consumes old new front × (length front ≡ count)

-- so many bytes at most were read
abbrev pub ReadsAtMost : Option (List ℕ) → Option (List ℕ) → ℕ → Type 0
ReadsAtMost old new most = (front : List ℕ) × Consumes old new front × (length front ≤ most)

-- the next line was read, with its line feed, and no byte behind it
abbrev pub ReadsLine : Option (List ℕ) → Option (List ℕ) → List ℕ → Type 0
ReadsLine old new line =
    IfSome old (λ bytes. (rest : List ℕ) × (new ≡ Some rest)
    × (lines_of bytes ≡ line ∷ lines_of rest))

-- the next line has more bytes than so many
abbrev pub HasLongLine : Option (List ℕ) → ℕ → Type 0
HasLongLine known most =
    IfSome known (λ bytes. (line : List ℕ) × (more : List (List ℕ))
    × (lines_of bytes ≡ line ∷ more) × (most < length line))

-- some of the next line was read, or all of it with its line feed, and no byte behind it
abbrev pub ReadsWithinLine : Option (List ℕ) → Option (List ℕ) → Type 0
ReadsWithinLine old new =
    (front : List ℕ) × Consumes old new front
    × (IsLine front ⊎ ((line : List ℕ) × (front ≡ line ++ 10 ∷ []) × IsLine line))

-- some of the next line was read, so many bytes at most, and not its line feed
abbrev pub ReadsInsideLine : Option (List ℕ) → Option (List ℕ) → ℕ → Type 0
ReadsInsideLine old new most =
    (front : List ℕ) × Consumes old new front × IsLine front × (length front ≤ most)

-- a piece of a line was read, and stands in the buffer behind what stood there
abbrev pub ReadsPiece : Option (List ℕ) → Option (List ℕ) → List ℕ → List ℕ → Piece → Type 0
ReadsPiece old new kept line End = IsAtEnd old × Keeps old new × (line ≡ kept)
ReadsPiece old new kept line Feed =
    (piece : List ℕ) × Consumes old new (piece ++ 10 ∷ []) × IsLine piece × (line ≡ kept ++ piece)
ReadsPiece old new kept line Inside =
    (piece : List ℕ) × Consumes old new piece × IsLine piece × (line ≡ kept ++ piece)
    × (0 < length piece)
