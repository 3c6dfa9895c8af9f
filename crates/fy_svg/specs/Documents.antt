-- how an SVG document ends, and where it says that an entry is bad
use Rattle.std.specs.Prelude.{◌≡◌, ◌++◌, ℕ, List, Option, IfSome, codes}
use Rattle.std.specs.Fmt.{decimal}
use Rattle.fy_picture.specs.Recording.{Recording}

-- the text goes to the end of a document, the tag that closes it
abbrev pub EndsDocument : List ℕ → Type 0
EndsDocument text = (inside : List ℕ) × (text ≡ inside ++ codes "</svg>\n")

-- how the mark of a bad entry begins: it names the entry's place
abbrev pub bad_mark : ℕ → List ℕ
bad_mark at = codes "<path class=\"bad\" data-entry=\"" ++ (decimal at ++ codes "\"")

-- a mark was put behind what was there
abbrev pub AppendsMark : ℕ → (old new : List ℕ) → Type 0
AppendsMark at old new = (rest : List ℕ) × (new ≡ old ++ (bad_mark at ++ rest))

-- where there is a first bad entry, a mark names it
abbrev pub NamesBad : Option ℕ → List ℕ → Type 0
NamesBad bad text =
    IfSome bad (λ at. (before : List ℕ) × (rest : List ℕ) × (text ≡ before ++ (bad_mark at ++ rest)))

-- the text is a document of what was drawn: it goes to the end, and names the first bad entry
pub record IsDocument (drawn : Recording) (text : List ℕ) : Type 0 where
  pub ends : EndsDocument text
  pub bad : NamesBad drawn.first_bad text
