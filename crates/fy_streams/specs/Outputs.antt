-- a text that goes out in pieces
use Rattle.std.specs.Prelude.{◌≡◌, ◌⊎◌, ℕ, List, ◌++◌, Option}
use Rattle.std.specs.Io.KnownBytes.{Appends}
use Rattle.fy_streams.specs.declared.stop.Stop.{Stop}
use Rattle.fy_streams.specs.declared.stop.Stop.TheVariants.{Write, NoMemory}

-- of a text a front went out, and the rest is kept
abbrev pub FlushesFront : Option (List ℕ) → Option (List ℕ) → List ℕ → List ℕ → Type 0
FlushesFront old new text kept = (front : List ℕ) × Appends old new front × (text ≡ front ++ kept)

-- the writer failed, or an allocation failed
abbrev pub IsOutputStop : Stop → Type 0
IsOutputStop stop = (stop ≡ Write) ⊎ (stop ≡ NoMemory)
