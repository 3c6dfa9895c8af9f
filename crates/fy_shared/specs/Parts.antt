-- what is known of seats whose actors play a part
use Rattle.std.specs.Prelude.{◌≡◌, Result}
use Rattle.fy_cluster.specs.declared.fault.Fault.{Fault}
use Rattle.fy_actors.specs.declared.desk.Turn.{Turn}
use Rattle.fy_actors.specs.Desk.{entries_by}
use Rattle.fy_actors.specs.Parts.{Part, PlaysTurn, KeepsTo}
use Rattle.fy_shared.specs.Yard.{Yard, SeatState}
use Rattle.fy_shared.specs.AtDesk.{AtDesk}

-- the turn was one of the part that the actor plays
abbrev pub PlaysAt : Yard → SeatState → SeatState → Part → Part → Result Turn Fault → Type 0
PlaysAt y s t was now result =
    AtDesk y s t (λ before after. PlaysTurn (was, before) (now, after) result)

-- in what the seat has seen, its actor's entries are its receipts, and the actor has kept to the
-- part that it began with, which is by now this one
pub record KeepsPart (y : Yard) (first : Part) (s : SeatState) (now : Part) : Type 0 where
  pub own : entries_by s.actor s.seen ≡ s.receipts
  pub keeps : KeepsTo y.setup s.actor first s.seen now
