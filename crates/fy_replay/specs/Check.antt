-- what checking a journal answers
use Rattle.std.specs.Prelude.{◌≡◌, ℕ, ◌+◌, List, take, Result, Ok, Err}
use Rattle.fy_acts.specs.declared.entry.Entry.{Entry}
use Rattle.fy_acts.specs.declared.version.Version.{Version}
use Rattle.fy_cluster.specs.Setup.{Setup}
use Rattle.fy_cluster.specs.Versions.{LegalUnder}
use Rattle.fy_replay.specs.declared.fault.CheckFault.{CheckFault}
use Rattle.fy_replay.specs.declared.fault.CheckFault.TheVariants.{BadEntry, NoMemory}

-- the entries before this place are a legal journal of the version, and with the one at it they
-- aren't
pub record IsFirstBad (version : Version) (c : Setup) (entries : List Entry)
    (at : ℕ) : Type 0 where
  pub good : LegalUnder version c (take at entries)
  pub bad : LegalUnder version c (take (at + 1) entries) → ⊥

-- the answer to a journal: Ok to a legal one, else its first bad entry
abbrev pub Checks : Version → Setup → List Entry → Result (Unit {0}) CheckFault → Type 0
Checks version c entries (Ok done) = LegalUnder version c entries
Checks version c entries (Err (BadEntry at)) = IsFirstBad version c entries at
Checks version c entries (Err NoMemory) = ⊥

-- that answer, or an allocation failed for it
abbrev pub ChecksOrOom : Version → Setup → List Entry → Result (Unit {0}) CheckFault → Type 0
ChecksOrOom version c entries (Err NoMemory) = Unit {0}
ChecksOrOom version c entries result = Checks version c entries result

-- two answers to a journal are the same
abbrev pub OneAnswer : Type 0
OneAnswer =
    (version : Version) (c : Setup) (entries : List Entry)
    (x y : Result (Unit {0}) CheckFault) →
    Checks version c entries x → Checks version c entries y → x ≡ y

-- what is answered to a legal journal is Ok
abbrev pub LegalIsOk : Type 0
LegalIsOk =
    (version : Version) (c : Setup) (entries : List Entry) (x : Result (Unit {0}) CheckFault) →
    Checks version c entries x → LegalUnder version c entries → x ≡ Ok tt
