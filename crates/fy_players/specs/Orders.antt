-- the orders of a fault actor, one a turn: they depend on the processes, the plan, the seed and the
-- actor's number alone
use Rattle.std.specs.Prelude.{◌≡◌, ℕ, List, [], ◌∷◌, ◌++◌}
use Rattle.rand_chacha.specs.ChaCha.{ChaCha}
use Rattle.fy_locality.specs.declared.locality.Locality.{Locality}
use Rattle.fy_acts.specs.declared.act.Act.{Act}
use Rattle.fy_players.specs.declared.faults.Plan.{Plan}
use Rattle.fy_players.specs.Draws.{stream_of, words_of}
use Rattle.fy_players.specs.Faults.{FaultState, fault_of, Strikes, readied, one_turn_more}

-- one turn of a fault actor with its stream: the act that its next words make
pub record StrikesOnce (processes : List Locality) (was now : FaultState × ChaCha) (made : Act)
    : Type 0 where
  pub strikes :
      let words = (words_of was.1).0 in
      let ready = readied processes words was.0 in
      Strikes processes ready words ready.plan made
  pub now_is :
      let ready = readied processes (words_of was.1).0 was.0 in
      now ≡ (one_turn_more ready, (words_of was.1).1)

-- these are the acts of its next turns, in order
pub data StrikesInTurn (processes : List Locality) (first : FaultState × ChaCha)
    : List Act → FaultState × ChaCha → Type 0 where
  none : StrikesInTurn processes first [] first
  more : (acts : List Act) (was now : FaultState × ChaCha) (made : Act) →
      StrikesInTurn processes first acts was → StrikesOnce processes was now made →
      StrikesInTurn processes first (acts ++ made ∷ []) now

-- these are the acts of the first turns of the fault actor with this number
pub record AreOrders (processes : List Locality) (it : Plan) (seed actor : ℕ) (acts : List Act)
    : Type 0 where
  pub last : FaultState × ChaCha
  pub turns : StrikesInTurn processes (fault_of seed it, stream_of seed actor) acts last
