-- turns of actors
use Rattle.std.specs.Prelude.{◌≡◌, ◌⊎◌, ℕ, ◌/◌, ◌==◌, List, if◌then◌else◌}
use Rattle.rand_chacha.specs.ChaCha.{ChaCha}
use Rattle.fy_locality.specs.declared.locality.Locality.{Locality}
use Rattle.fy_acts.specs.declared.act.Act.{Act}
use Rattle.fy_acts.specs.declared.reply.Reply.{Reply}
use Rattle.fy_cluster.specs.declared.role.Role.{Role}
use Rattle.fy_cluster.specs.declared.role.Role.TheVariants.{Fault, Storage, Operator}
use Rattle.fy_cluster.specs.declared.sight.Sight.{Sight}
use Rattle.fy_cluster.specs.Execution.{Execution, history_of, replied, entered}
use Rattle.fy_cluster.specs.Sights.{Sees}
use Rattle.fy_players.specs.declared.picks.TheConstants.{NOBODY}
use Rattle.fy_players.specs.declared.draws.Words.{Words}
use Rattle.fy_players.specs.declared.faults.Plan.{Plan}
use Rattle.fy_players.specs.declared.knowledge.Note.{Note}
use Rattle.fy_players.specs.declared.knowledge.Note.TheVariants.{Plain}
use Rattle.fy_players.specs.declared.player.Part.{Part}
use Rattle.fy_players.specs.declared.player.Part.TheVariants.{Stores, Strikes as StrikesPart, Operates}
use Rattle.fy_players.specs.declared.player.Player.{Player}
use Rattle.fy_players.specs.Draws.{stream_of, words_of}
use Rattle.fy_players.specs.Knowledge.{no_knowledge, learned}
use Rattle.fy_players.specs.Storage.{stores}
use Rattle.fy_players.specs.Faults.{FaultState, fault_of, readied, Strikes, one_turn_more}
use Rattle.fy_players.specs.Operators.{operates}

-- what an actor of a role begins with
abbrev pub part_of : (seed : ℕ) → Plan → Role → Part
part_of seed plan Storage = Stores no_knowledge
part_of seed plan Fault = StrikesPart (fault_of seed plan)
part_of seed plan Operator = Operates

-- an actor before its first turn: its words are those of the stream with its number
abbrev pub player_of : (seed : ℕ) → Plan → (actor : ℕ) → Role → Player
player_of seed plan actor role =
    record { actor = actor; part = part_of seed plan role; draws = stream_of seed actor }

-- a fault actor draws a round before its turn, where none is left
abbrev pub part_before : List Locality → Words → Part → Part
part_before processes words (Stores known) = Stores known
part_before processes words (StrikesPart fault) = StrikesPart (readied processes words fault)
part_before processes words Operates = Operates

-- what an actor does by its words and by what the cluster shows, and what it remembers of it
abbrev pub Does : Execution → Part → Words → Act × Note → Type 0
Does x (Stores known) words made =
    (sight : Sight) × Sees x.setup (history_of x) sight × (made ≡ stores x sight known words)
Does x (StrikesPart fault) words made =
    Strikes x.setup.processes fault words fault.plan made.0 × (made.1 ≡ Plain)
Does x Operates words made = made ≡ (operates x.setup words, Plain)

-- its own number, or once in 256 one that no actor has
abbrev pub own_or_none : (actor : ℕ) → Words → ℕ
own_or_none actor words = if words.fifth / 16777216 == 255 then NOBODY else actor

-- the number by which an actor acts: a fault actor always by its own
abbrev pub speaker : (actor : ℕ) → Words → Part → ℕ
speaker actor words (Stores known) = own_or_none actor words
speaker actor words (StrikesPart fault) = actor
speaker actor words Operates = own_or_none actor words

-- what the part is once the reply has come
abbrev pub part_after : Part → Note → Reply → Part
part_after (Stores known) note reply = Stores (learned known note reply)
part_after (StrikesPart fault) note reply = StrikesPart (one_turn_more fault)
part_after Operates note reply = Operates

-- the words of an actor's next turn
abbrev pub words_now : Player → Words
words_now player = (words_of player.draws).0

-- its part at that turn, with the round that it needs
abbrev pub part_now : Player → Execution → Part
part_now player x = part_before x.setup.processes (words_now player) player.part

-- the number by which it acts then
abbrev pub speaker_now : Player → Execution → ℕ
speaker_now player x = speaker player.actor (words_now player) (part_now player x)

-- an actor takes its turn: it does one act, by the next words of its stream, and learns the reply
pub record TakesTurn (was now : Player × Execution) : Type 0 where
  pub made : Act × Note
  pub does : Does was.1 (part_now was.0 was.1) (words_now was.0) made
  pub player : now.0 ≡ record was.0 {
    part = part_after (part_now was.0 was.1) made.1
        (replied was.1 (speaker_now was.0 was.1) made.0);
    draws = (words_of was.0.draws).1;
  }
  pub execution : now.1 ≡ entered was.1 (speaker_now was.0 was.1) made.0

-- a turn that no memory is left for: the cluster is as it was, or the act of this turn is in
abbrev pub EndsTurn : Player → (was now : Execution) → Type 0
EndsTurn player was now =
    (now ≡ was)
    ⊎ ((made : Act × Note) × Does was (part_now player was) (words_now player) made
    × (now ≡ entered was (speaker_now player was) made.0))

-- ---- seen from a simulation

-- the number of an actor
abbrev pub number_of : Player → ℕ
number_of player = player.actor

-- the fault actor with this number, by its state and its stream
abbrev pub striker : (actor : ℕ) → FaultState × ChaCha → Player
striker actor state = record { actor = actor; part = StrikesPart state.0; draws = state.1 }
