-- who is lost after a journal, and what is borne from there on, as `bears` tells it
use Rattle.std.specs.Prelude.{◌≡◌, ℕ, ◌&&◌, List, nat_lt, length, Ok, Some, None}
use Rattle.std.specs.List.{AllZip}
use Rattle.std.specs.FinSet as sets
use Rattle.fy_audit.specs.Audit.{Audit, AuditOf}
use Rattle.fy_tolerance.specs.Bears.{IsFindings}
use Rattle.fy_tolerance.specs.declared.book.LossesSoFar.{LossesSoFar}
use Rattle.fy_decide.specs.DeadBook.{Losses, IsFresh}
use Rattle.fy_bears.specs.declared.told.Told.{Told}
use Rattle.fy_cluster.specs.Setup.{Setup}
use Rattle.fy_cluster.specs.History.{History, destroyed, gone, history, left}
use Rattle.fy_cluster.specs.Sights.{is_asleep}
use Rattle.fy_policy.specs.Tree.{Tree}
use Rattle.fy_votes.specs.Forgetting.{AreForgettings}

-- the losses are those of a history: who is destroyed, who is gone, and who is neither up nor gone
pub record AreLosses (c : Setup) (h : History) (losses : LossesSoFar) : Type 0 where
  pub destroyed : (p : ℕ) → sets.contains losses.destroyed p ≡ destroyed h p
  pub gone : (p : ℕ) → sets.contains losses.gone p ≡ (nat_lt p (length c.processes) && gone h p)
  pub down : (p : ℕ) → sets.contains losses.down p ≡ is_asleep c h p

-- the book has exactly the destroyed of a history, and those left
pub record IsBookOf (c : Setup) (h : History) (dead : Losses) : Type 0 where
  pub processes_are : dead.processes ≡ c.processes
  pub policies_are : dead.policies ≡ c.policies
  pub destroyed : (p : ℕ) → sets.contains dead.destroyed p ≡ destroyed h p
  pub left : (p : ℕ) → sets.contains dead.left p ≡ left c h p

-- what may forget is told by each policy of elections
abbrev pub TellsForgetting : (elections : List Tree) → Losses → Told → Type 0
TellsForgetting elections dead told =
    AllZip (AreForgettings dead) elections told.forgetting.items

-- what is told of a cluster to which nothing happened yet: no losses, what a new book bears, and what
-- may forget
pub record IsToldAtStart (c : Setup) (elections : List Tree) (told : Told) : Type 0 where
  pub none : told.before ≡ None
  pub dead : Losses
  pub book : IsFresh c.processes c.policies dead
  pub found : IsFindings dead told.findings
  pub forgetting : TellsForgetting elections dead told

-- what is told after a history: its losses, what the book of exactly these bears, and what may
-- forget beside them
pub record IsToldAfter (c : Setup) (elections : List Tree) (h : History) (told : Told) : Type 0
  where
    pub losses : LossesSoFar
    pub some : told.before ≡ Some losses
    pub those : AreLosses c h losses
    pub dead : Losses
    pub book : IsBookOf c h dead
    pub found : IsFindings dead told.findings
    pub forgetting : TellsForgetting elections dead told

-- BEARS: the bytes are an audit, and what is told is told after its entries
pub record IsToldOf (setup : Setup) (elections : List Tree) (bytes : List ℕ) (told : Told) : Type 0
  where
    pub audit : Audit
    pub read : AuditOf bytes (Ok audit)
    pub those : IsToldAfter setup elections (history setup audit.entries) told

-- a text that stands for something went out, whole or in part
abbrev pub IsSpelledOut : (stands goes : List ℕ → Type 0) → Type 0
IsSpelledOut stands goes = (text : List ℕ) × stands text × goes text

-- a text that stands for what is told went out, whole or in part, and what is told is as it has to
-- be
abbrev pub Tells : (Told → Type 0) → (Told → List ℕ → Type 0) → (List ℕ → Type 0) → Type 0
Tells is_told spells goes = (told : Told) × is_told told × IsSpelledOut (spells told) goes
