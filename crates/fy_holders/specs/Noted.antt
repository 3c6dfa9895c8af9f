-- what is noted of a journal, and what is so since a position
use Rattle.std.specs.Prelude.{◌≡◌, ℕ, ◌≤◌, nat_lt, Bool, ◌&&◌, List, length, map, Option, if◌then◌else◌}
use Rattle.std.specs.FinSet as sets
use Rattle.std.specs.Ordering.{nat_cmp}
use Rattle.std.proofs.Common.{Global, Vec}
use Rattle.fy_acts.specs.declared.entry.Entry.{Entry}
use Rattle.fy_cluster.specs.Setup.{Setup}
use Rattle.fy_cluster.specs.Replies.{Legal}
use Rattle.fy_events.specs.Answers.{answered}
use Rattle.fy_events.specs.declared.event.Done.{Done}
use Rattle.fy_holders.specs.declared.outages.Blame.{Blame}
use Rattle.fy_holders.specs.declared.outages.Blame.TheVariants.{Store, StoreOrWhole}
use Rattle.fy_holders.specs.declared.outages.Heal.{Heal}
use Rattle.fy_holders.specs.declared.outages.Since.{Since}
use Rattle.fy_holders.specs.declared.outages.Outages.TheInside.{Inside}
use Rattle.fy_holders.specs.Destroyed.{destroyed_since, heals_in}
use Rattle.fy_holders.specs.Blames.{IsToBlame}
use Rattle.fy_holders.specs.Turns.{AreTurnsOfEach}

-- what the reply to an order says is done
abbrev pub answer_of : Entry → Option Done
answer_of e = answered e.act e.reply

-- the turns of each process, the heals and the answers of a legal journal
pub record AreNoted (c : Setup) (journal : List Entry) (end : ℕ) (turns : List (Vec ℕ Global))
    (heals : List Heal) (answers : List (Option Done)) : Type 0 where
  pub legal : Legal c journal
  pub end_is : end ≡ length journal
  pub turns_are : AreTurnsOfEach c journal turns
  pub heals_are : heals ≡ heals_in journal
  pub answers_are : answers ≡ map answer_of journal

-- the set is that of the processes which were destroyed since a position
abbrev pub IsSetSince : Setup → List Entry → (position : ℕ) → sets.FinSet nat_cmp → Type 0
IsSetSince c journal position set =
    (p : ℕ) → sets.contains set p
    ≡ (nat_lt p (length c.processes) && destroyed_since c journal position p)

-- who is to blame, by whether those destroyed are short of every policy
abbrev pub blame_by : Bool → Blame
blame_by is_short = if is_short then Store else StoreOrWhole

-- this is so since each of these positions
pub record IsSince (c : Setup) (journal : List Entry) (since : Since) : Type 0 where
  pub destroyed : (m : ℕ) → since.from ≤ m → m ≤ since.to → IsSetSince c journal m since.destroyed
  pub blame : (m : ℕ) → since.from ≤ m → m ≤ since.to → IsToBlame c journal m since.blame

-- the position is one of these
pub record Covers (position : ℕ) (since : Since) : Type 0 where
  pub from : since.from ≤ position
  pub to : position ≤ since.to

-- outages as their fields keep them
pub record IsKept (outages : Inside) : Type 0 where
  pub noted : AreNoted outages.cluster.setup outages.cluster.journal outages.end
      outages.turns.items outages.heals.items outages.answers.items
  pub since_is : IsSince outages.cluster.setup outages.cluster.journal outages.since
