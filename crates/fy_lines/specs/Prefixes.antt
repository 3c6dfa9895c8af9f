-- What a writer holds after a fault: a front of the text.
use Rattle.std.specs.Prelude.{◌≡◌, ◌<◌, ℕ, List, ◌++◌, length, Option}
use Rattle.std.specs.Io.KnownBytes.{Appends}

-- known bytes grow by a front of the text, and something is left
abbrev pub AppendsProperPrefix : Option (List ℕ) → Option (List ℕ) → List ℕ → Type 0
AppendsProperPrefix old new text =
    (front : List ℕ) × (rest : List ℕ) × (text ≡ front ++ rest) × Appends old new front
    × (0 < length rest)
