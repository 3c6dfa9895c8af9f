-- whose fault it is that a record is lost, and what shows that a record isn't kept
use Rattle.std.specs.Prelude.{◌≡◌, ℕ, Bool, true, false, not, ◌||◌, ◌==◌, List, length, Option, Some, None, ⊤}
use Rattle.std.specs.FinSet as sets
use Rattle.std.specs.Ordering.{nat_cmp}
use Rattle.fy_acts.specs.declared.entry.Entry.{Entry}
use Rattle.fy_cluster.specs.Setup.{Setup}
use Rattle.fy_holders.specs.Blames.{IsToBlame}
use Rattle.fy_holders.specs.Destroyed.{heals_since}
use Rattle.fy_holders.specs.Noted.{IsSetSince}
use Rattle.fy_holders.specs.declared.outages.Blame.TheVariants as blame
use Rattle.fy_history.specs.declared.history.Write.{Write}
use Rattle.fy_records.specs.Evidence.{AreTellers, AreHolders, AreLackers}
use Rattle.fy_records.specs.Lines.{Lines, some_read}
use Rattle.fy_records.specs.declared.evidence.Lacker.{Lacker}
use Rattle.fy_records.specs.declared.verdict.Loss.{Loss}
use Rattle.fy_records.specs.declared.verdict.Loss.TheVariants.{Process}
use Rattle.fy_records.specs.declared.verdict.Verdict.{Verdict}
use Rattle.fy_records.specs.declared.verdict.Verdict.TheVariants as verdict
use Rattle.fy_verdict.specs.declared.findings.Evidence.{Evidence}
use Rattle.fy_verdict.specs.declared.findings.Evidence.TheVariants.{Lost, Missing, Other}
use Rattle.fy_verdict.specs.declared.findings.Fault.{Fault}
use Rattle.fy_verdict.specs.declared.findings.Fault.TheVariants.{Beyond, Nobody, Store, StoreOrWhole}

-- a process alone shows the loss
abbrev pub is_by_process : Loss → Bool
is_by_process Process = true
is_by_process _ = false

-- answers and disks contradict each other: a process alone shows the loss, another told the record
-- at the end, or a disk has it
abbrev pub is_told_apart : Loss → (tells disks : List ℕ) → Bool
is_told_apart loss tells disks =
    is_by_process loss || not (length tells == 0) || not (length disks == 0)

-- whose fault it is, by who was destroyed since a position: the store's, or the store's or that of
-- who said that the processes were whole which these entries healed
abbrev pub IsBlamed : Setup → List Entry → (position : ℕ) → Fault → Type 0
IsBlamed c journal position (Beyond entry) = ⊥
IsBlamed c journal position Nobody = ⊥
IsBlamed c journal position Store = IsToBlame c journal position blame.Store
IsBlamed c journal position (StoreOrWhole heals) =
    IsToBlame c journal position blame.StoreOrWhole × (heals.items ≡ heals_since journal position)

-- whose fault it is that a record is lost: of who went beyond the guard, for the first entry at
-- which that was so; nobody's, where answers and disks contradict each other; else as blamed
abbrev pub IsFault : Setup → List Entry → (beyond : Option ℕ) → (told_apart : Bool) → (position : ℕ) → Fault → Type 0
IsFault c journal (Some entry) told_apart position fault = fault ≡ Beyond entry
IsFault c journal None true position fault = fault ≡ Nobody
IsFault c journal None false position fault = IsBlamed c journal position fault

-- what shows a loss: whose fault it is, who was destroyed since the position, who told the record
-- at the end, and whose disk has it
pub record ShowsLoss (c : Setup) (journal : List Entry) (beyond : Option ℕ) (h : Lines) (write : Write) (position : ℕ)
    (loss : Loss) (fault : Fault) (destroyed : sets.FinSet nat_cmp) (tells disks : List ℕ) : Type 0 where
  pub fault_is : IsFault c journal beyond (is_told_apart loss tells disks) position fault
  pub destroyed_are : IsSetSince c journal position destroyed
  pub tellers : AreTellers h write tells
  pub holders : AreHolders h write disks

-- what shows that a record is missing: who lacks it, and whose disk has it
pub record ShowsMissing (h : Lines) (write : Write) (lacks : List Lacker) (disks : List ℕ) : Type 0 where
  pub lackers : AreLackers (some_read h write.key) h.written lacks
  pub holders : AreHolders h write disks

-- what shows a verdict on a record that was acknowledged at a position
abbrev pub IsShownBy : Setup → List Entry → (beyond : Option ℕ) → Lines → Write → (position : ℕ) → Verdict → Evidence
    → Type 0
IsShownBy c journal beyond h write position (verdict.Lost loss) (Lost fault destroyed tells disks) =
    ShowsLoss c journal beyond h write position loss fault destroyed tells.items disks.items
IsShownBy c journal beyond h write position verdict.Missing (Missing lacks disks) =
    ShowsMissing h write lacks.items disks.items
IsShownBy c journal beyond h write position verdict.Wrong Other = ⊤
IsShownBy c journal beyond h write position verdict.Unreadable Other = ⊤
IsShownBy c journal beyond h write position verdict.Stale Other = ⊤
IsShownBy c journal beyond h write position verdict.Kept Other = ⊤
IsShownBy c journal beyond h write position _ _ = ⊥
