-- what a simulated journal is
use Rattle.std.specs.Prelude.{◌≡◌, ℕ, suc, ◌%◌, min, List, [], ◌∷◌, ◌++◌, length, map, replicate, Some, slice_get, slice_set}
use Rattle.rand_chacha.specs.ChaCha.{ChaCha}
use Rattle.fy_acts.specs.declared.act.Act.{Act}
use Rattle.fy_acts.specs.declared.entry.Entry.{Entry}
use Rattle.fy_actors.specs.Desk.{entries_by}
use Rattle.fy_audit.specs.AuditText.{audit_text}
use Rattle.fy_acts.specs.declared.version.Version.TheVariants.{Second}
use Rattle.fy_cluster.specs.Setup.{Setup}
use Rattle.fy_cluster.specs.Survival.{Survives}
use Rattle.fy_cluster.specs.Execution.{Execution, opened}
use Rattle.fy_cluster.specs.declared.role.Role.{Role}
use Rattle.fy_cluster.specs.declared.role.Role.TheVariants.{Fault, Storage, Operator}
use Rattle.fy_players.specs.declared.faults.Plan.{Plan}
use Rattle.fy_players.specs.declared.player.Player.{Player}
use Rattle.fy_simulate.specs.declared.simulate.Simulation.{Simulation}
use Rattle.fy_players.specs.Draws.{stream_of, word_of}
use Rattle.fy_players.specs.Orders.{AreOrders}
use Rattle.fy_players.specs.Turns.{player_of, TakesTurn}

-- how many lots an actor of a role has: so much more often it is its turn
abbrev pub lots_of : Role → ℕ
lots_of Storage = 24
lots_of Fault = 2
lots_of Operator = 1

-- the number of each actor of these roles, the first being this one, once for each of its lots
abbrev pub lots_from : ℕ → List Role → List ℕ
lots_from actor [] = []
lots_from actor (role ∷ roles) = replicate (lots_of role) actor ++ lots_from (suc actor) roles

-- these actors before their first turns
abbrev pub players_from : (seed : ℕ) → Plan → (actor : ℕ) → List Role → List Player
players_from seed plan actor [] = []
players_from seed plan actor (role ∷ roles) =
    player_of seed plan actor role ∷ players_from seed plan (suc actor) roles

-- a simulation under way: the stream from which it is drawn whose turn it is, the actors, and the
-- cluster
pub record Stage : Type 0 where
  pub turns : ChaCha
  pub players : List Player
  pub execution : Execution

-- a simulation of these parts
abbrev pub stage_of : Simulation → Stage
stage_of s =
    record { turns = s.turns; players = s.players.items; execution = s.cluster }

-- before the first turn; no actor has the number of the stream of turns
abbrev pub opening : Setup → ℕ → Plan → Stage
opening c seed plan = record {
  turns = stream_of seed 64;
  players = players_from seed plan 0 c.roles;
  execution = opened c;
}

-- the actor with a number takes its turn, and the others stay as they are
pub record ActorTakes (actor : ℕ) (was now : List Player × Execution) : Type 0 where
  pub player : Player
  pub whose : slice_get was.0 actor ≡ Some player
  pub after : Player
  pub takes : TakesTurn (player, was.1) (after, now.1)
  pub players : now.0 ≡ slice_set was.0 actor after

-- one turn: the next word draws a lot, and the actor of this number takes its turn
pub record OneTurn (lots : List ℕ) (was now : Stage) : Type 0 where
  pub actor : ℕ
  pub drawn : slice_get lots ((word_of was.turns).0 % length lots) ≡ Some actor
  pub takes : ActorTakes actor (was.players, was.execution) (now.players, now.execution)
  pub turns : now.turns ≡ (word_of was.turns).1

-- so many turns, one after another
pub data Turns (lots : List ℕ) (start : Stage) : ℕ → Stage → Type 0 where
  none : Turns lots start 0 start
  more : (n : ℕ) (was now : Stage) → Turns lots start n was → OneTurn lots was now →
      Turns lots start (suc n) now

-- the acts that an actor made, in order
abbrev pub acts_by : (actor : ℕ) → List Entry → List Act
acts_by actor journal = map (λ e. e.act) (entries_by actor journal)

-- the journal that a seed makes: so many turns, or as many as it may have entries. What a fault
-- actor made are the orders of its plan, whatever the others did
pub record IsSimulated (c : Setup) (seed : ℕ) (plan : Plan) (acts : ℕ) (journal : List Entry)
    : Type 0 where
  pub survives : Survives c journal
  pub last : Stage
  pub turns : Turns (lots_from 0 c.roles) (opening c seed plan) (min acts c.limit) last
  pub made : journal ≡ last.execution.journal
  pub orders : (actor : ℕ) → slice_get c.roles actor ≡ Some Fault →
      AreOrders c.processes plan seed actor (acts_by actor journal)

-- what holds of the audit of such a journal
abbrev pub HasSimulatedAudit : Setup → ℕ → Plan → ℕ → (List ℕ → Type 0) → Type 0
HasSimulatedAudit c seed plan acts P =
    (journal : List Entry) × IsSimulated c seed plan acts journal × P (audit_text Second journal)
