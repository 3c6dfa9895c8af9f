-- what actors are known to do
use Rattle.std.specs.Prelude.{◌≡◌, ◌≢◌, ◌≤◌, ℕ, ◌+◌, Bool, false, List, [], ◌∷◌, ◌++◌, length, Option, Some, Result, Ok, Err}
use Rattle.fy_acts.specs.declared.act.Act.{Act}
use Rattle.fy_acts.specs.declared.reply.Reply.{Reply}
use Rattle.fy_acts.specs.declared.entry.Entry.{Entry}
use Rattle.fy_cluster.specs.declared.fault.Fault.{Fault}
use Rattle.fy_cluster.specs.declared.fault.Fault.TheVariants.{JournalFull}
use Rattle.fy_cluster.specs.declared.sight.Sight.{Sight}
use Rattle.fy_cluster.specs.Setup.{Setup}
use Rattle.fy_cluster.specs.History.{history}
use Rattle.fy_cluster.specs.Sights.{Sees}
use Rattle.fy_actors.specs.declared.desk.Turn.{Turn}
use Rattle.fy_actors.specs.declared.desk.Turn.TheVariants.{More, Ended}
use Rattle.fy_actors.specs.Desk.{DeskState, entries_by}
use Rattle.fy_actors.specs.Turns.{TakesTurn}
use Rattle.fy_actors.specs.Schedules.{Schedule, next_of, has_next, one_made}
use Rattle.fy_actors.specs.Drives.{Drive, next_act, driven, goes_on}

-- what an actor is known to do: acts that are known from the start, or storing and moving data by
-- what the cluster shows; of its own way nothing is known
pub data Part : Type 0 where
  Acts : Schedule → Part
  Stores : Drive → Part
  Unspecified : Part

-- the part once an act of it got this reply
abbrev pub after_reply : Part → Reply → Part
after_reply (Acts schedule) reply = Acts (one_made schedule reply)
after_reply (Stores drive) reply = Stores (driven drive reply)
after_reply Unspecified reply = Unspecified

-- whether acts are known to be left
abbrev pub has_next_act : Part → Bool
has_next_act (Acts schedule) = has_next schedule
has_next_act (Stores drive) = goes_on drive
has_next_act Unspecified = false

-- the act that comes next in a part, if one is left, by the journal so far
abbrev pub ComesNext : Setup → List Entry → Part → Option Act → Type 0
ComesNext setup journal (Acts schedule) next = next ≡ next_of schedule
ComesNext setup journal (Stores drive) next =
    (sight : Sight) × Sees setup (history setup journal) sight × (next ≡ next_act drive sight)
ComesNext setup journal Unspecified next = Unit {0}

-- a turn makes the act that comes next in the part
abbrev pub MakesNext : Part × DeskState → Part × DeskState → Result Turn Fault → Type 0
MakesNext was now result =
    (next : Option Act) × ComesNext was.1.setup was.1.journal was.0 next
    × TakesTurn after_reply has_next_act next was now result

-- so is a turn of who plays a part, at a desk; whose way is its own goes on in its own way
abbrev pub PlaysTurn : Part × DeskState → Part × DeskState → Result Turn Fault → Type 0
PlaysTurn (Unspecified, before) now result = now.0 ≡ Unspecified
PlaysTurn (part, before) now result = MakesNext (part, before) now result

-- the part once these entries of its actor were made
abbrev pub played : Part → List Entry → Part
played part [] = part
played part (entry ∷ later) = played (after_reply part entry.reply) later

-- each entry of the actor has the act that came next in its part, by the journal before the entry
abbrev pub Obeys : Setup → ℕ → Part → List Entry → Type 0
Obeys setup actor part journal =
    (front rest : List Entry) (entry : Entry) → journal ≡ front ++ entry ∷ rest
    → entry.by ≡ actor
    → ComesNext setup front (played part (entries_by actor front)) (Some entry.act)

-- in this journal the actor has kept to the part that it began with, which is by now this one
pub record KeepsTo (setup : Setup) (actor : ℕ) (first : Part) (journal : List Entry) (now : Part)
    : Type 0 where
  pub now_at : now ≡ played first (entries_by actor journal)
  pub obeys : Obeys setup actor first journal

-- what the answer of a turn tells: one that ended has no act left that is known of; and a known
-- part stays known, one that wants more has made an act, and where the journal was full it still is
pub record Tells (was now : Part × DeskState) (result : Result Turn Fault) : Type 0 where
  pub known : was.0 ≢ Unspecified → now.0 ≢ Unspecified
  pub ended : result ≡ Ok Ended → has_next_act now.0 ≡ false
  pub more : result ≡ Ok More → was.0 ≢ Unspecified
      → length now.1.receipts ≡ length was.1.receipts + 1
  pub full : result ≡ Err JournalFull → was.0 ≢ Unspecified
      → was.1.setup.limit ≤ length now.1.journal

-- ---- what the laws state

-- an actor that keeps to a part still does after a turn of it
abbrev pub TurnsKeepTo : Type 0
TurnsKeepTo =
    (first : Part) (was now : Part × DeskState) (result : Result Turn Fault)
    → PlaysTurn was now result → KeepsTo was.1.setup was.1.actor first was.1.journal was.0
    → KeepsTo was.1.setup was.1.actor first now.1.journal now.0

-- and after entries of others
abbrev pub OthersChangeNoPart : Type 0
OthersChangeNoPart =
    (setup : Setup) (actor : ℕ) (first now : Part) (journal more : List Entry)
    → entries_by actor more ≡ [] → KeepsTo setup actor first journal now
    → KeepsTo setup actor first (journal ++ more) now

-- the answer of a turn tells so
abbrev pub AnswersTell : Type 0
AnswersTell =
    (was now : Part × DeskState) (result : Result Turn Fault) → PlaysTurn was now result
    → Tells was now result
