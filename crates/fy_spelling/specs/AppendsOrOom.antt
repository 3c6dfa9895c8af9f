-- what becomes of a buffer that a text is put into
use Rattle.std.specs.Prelude.{◌≡◌, ℕ, ◌+◌, ◌<◌, ◌≤◌, List, ◌++◌, length, Result, Ok, Err, Vec, vec_capacity}

-- what stood in the buffer still stands at its front
abbrev pub IsPrefixOf : List ℕ → List ℕ → Type 0
IsPrefixOf old new = (more : List ℕ) × (new ≡ old ++ more)

-- the text is put behind what stood there, in no less room; after an allocation failure a part of
-- it may be, and then there was no room for all of it
abbrev pub AppendsOrOom : {A E Z : Type 0} → Result A E → Vec ℕ Z → Vec ℕ Z → List ℕ → Type 0
AppendsOrOom (Ok done) old new text =
    (new.items ≡ old.items ++ text) × (vec_capacity old ≤ vec_capacity new)
AppendsOrOom (Err refused) old new text =
    IsPrefixOf old.items new.items × (vec_capacity old < length old.items + length text)
