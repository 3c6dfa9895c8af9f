-- the two turns
use Rattle.std.proofs.Common.{◌≡◌, ℕ, zero, suc, ◌%◌, Bool, true, false, List, [], ◌∷◌, length, min, Some, is_some, refl, sym, ap, ◌∙◌, subst, slice_get, arith, ltb-true, leb-true}
use Rattle.std.specs.List.{list_any}
use Rattle.std.proofs.lemmas.Bool.{false≢true}
use Rattle.fy_locality.specs.Locality.{values_of}
use Rattle.rand_core.specs.Steps.{u32_at}
use Rattle.rand_chacha.specs.Block.{block_word, double_rounds, diagonal_round, quarter_round, column_round}
use Rattle.fy_policy.specs.Sat.{Sat, satisfies, all_satisfy}
use Rattle.fy_decide.specs.Verdicts.{bar, verdict}
use Rattle.fy_acts.specs.declared.reply.Reply.{Reply}
use Rattle.fy_acts.specs.declared.reply.Reply.TheVariants as reply
use Rattle.fy_acts.specs.declared.entry.Entry.{Entry}
use Rattle.fy_cluster.specs.declared.role.Role.TheVariants.{Fault, Operator}
use Rattle.fy_cluster.specs.Setup.{Setup, IsMet}
use Rattle.fy_cluster.specs.Replies.{reply, reasons, refusals, answer, Legal}
use Rattle.fy_cluster.specs.Execution.{opened, entered}
use Rattle.fy_cluster.specs.Survival.{JournalsSurvive}
use Rattle.fy_actors.specs.Words.{seed_bytes}
use Rattle.fy_players.specs.declared.faults.Plan.{Plan}
use Rattle.fy_players.specs.declared.faults.Plan.TheVariants.{Rolling}
use Rattle.fy_players.specs.declared.draws.Words.{Words}
use Rattle.fy_players.specs.declared.knowledge.Note.TheVariants.{Plain}
use Rattle.fy_players.specs.declared.player.Part.TheVariants.{Operates, Strikes as StrikesPart}
use Rattle.fy_players.specs.declared.player.Player.{Player}
use Rattle.fy_players.specs.Draws.{stream_of, word_of, words_of}
use Rattle.fy_players.specs.Faults.{fault_of, one_turn_more}
use Rattle.fy_players.specs.Operators.{operates}
use Rattle.fy_players.specs.Orders.{AreOrders, StrikesOnce, StrikesInTurn}
use Rattle.fy_players.specs.Turns.{player_of, own_or_none}
use Rattle.fy_simulate.specs.Simulate.{Stage, Turns, OneTurn, opening, acts_by, IsSimulated}
use Rattle.fy_worked.specs.Simulated.{two, protect, restart, first_turn, both_turns, swapped, overlooked, from_the_second, another_protected, Makes}
use Rattle.std.specs.Prelude.{codes}

-- what a proof unfolds to compute the replies
unfoldable on_literals : Unit {0}
unfolding reply reasons refusals answer bar verdict satisfies all_satisfy values_of
on_literals = tt

-- one lot of the operator, and two of the fault actor
abbrev lots : List ℕ
lots = 0 ∷ 1 ∷ 1 ∷ []

-- ---- the words

first_word : (word_of (stream_of 142 64)).0 ≡ 0x8e01dfd8
unfolding word_of seed_bytes u32_at block_word double_rounds diagonal_round quarter_round column_round
first_word = refl

second_word : (word_of (word_of (stream_of 142 64)).1).0 ≡ 0xdb4289e7
unfolding word_of seed_bytes u32_at block_word double_rounds diagonal_round quarter_round column_round
second_word = refl

operator_words : Words
operator_words = record {
  choice = 0x082ddb71;
  first = 0xb0e69901;
  second = 0x00aefd6a;
  third = 0x9789c235;
  fourth = 0xfe92460b;
  fifth = 0x1cefeacc;
  low = 0x870d1e8d;
  high = 0x9db0f83c;
}

its_words : (words_of (stream_of 142 0)).0 ≡ operator_words
unfolding word_of seed_bytes u32_at block_word double_rounds diagonal_round quarter_round column_round operator_words
its_words = refl

-- ---- the first turn

operator_after : Player
operator_after = record { actor = 0; part = Operates; draws = (words_of (stream_of 142 0)).1 }

after_first : Stage
after_first = record {
  turns = (word_of (stream_of 142 64)).1;
  players = operator_after ∷ player_of 142 Rolling 1 Fault ∷ [];
  execution = record { setup = two; journal = first_turn };
}

does_protect : protect 0 ≡ operates two operator_words
unfolding operator_words
does_protect = refl

by_itself : own_or_none 0 operator_words ≡ 0
unfolding operator_words
by_itself = refl

enters_protect : record { setup = two; journal = first_turn } ≡ entered (opened two) 0 (protect 0)
unfolding on_literals
enters_protect = refl

first : OneTurn lots (opening two 142 Rolling) after_first
unfolding after_first operator_after
first = record {
  actor = 0;
  drawn = subst (λ (w : ℕ). slice_get lots (w % 3) ≡ Some 0) (sym first_word) refl;
  takes = record {
    player = player_of 142 Rolling 0 Operator;
    whose = refl;
    after = operator_after;
    takes = record {
      made = (protect 0, Plain);
      does = λ i. ((does_protect ∙ ap (operates two) (sym its_words)) i, Plain);
      player = refl;
      execution = subst (λ by. record { setup = two; journal = first_turn } ≡ entered (opened two) by (protect 0)) (sym (ap (own_or_none 0) its_words ∙ by_itself)) enters_protect;
    };
    players = refl;
  };
  turns = refl;
}

-- ---- the second turn

fault_after : Player
fault_after = record { actor = 1; part = StrikesPart (one_turn_more (fault_of 142 Rolling)); draws = (words_of (stream_of 142 1)).1 }

after_second : Stage
after_second = record {
  turns = (word_of (word_of (stream_of 142 64)).1).1;
  players = operator_after ∷ fault_after ∷ [];
  execution = record { setup = two; journal = both_turns };
}

enters_restart : record { setup = two; journal = both_turns } ≡ entered (record { setup = two; journal = first_turn }) 1 (restart (codes "p0"))
unfolding on_literals
enters_restart = refl

strikes_once : StrikesOnce two.processes (fault_of 142 Rolling, stream_of 142 1) (one_turn_more (fault_of 142 Rolling), (words_of (stream_of 142 1)).1) (restart (codes "p0"))
unfolding values_of
strikes_once = record {
  strikes = record { order = _; is = refl; target_is = refl; kind_is = refl; floor_is = refl; tear_is = refl };
  now_is = refl;
}

second : OneTurn lots after_first after_second
unfolding after_first after_second operator_after fault_after
second = record {
  actor = 1;
  drawn = subst (λ (w : ℕ). slice_get lots (w % 3) ≡ Some 1) (sym second_word) refl;
  takes = record {
    player = player_of 142 Rolling 1 Fault;
    whose = refl;
    after = fault_after;
    takes = record {
      made = (restart (codes "p0"), Plain);
      does = (strikes_once.strikes, refl);
      player = refl;
      execution = enters_restart;
    };
    players = refl;
  };
  turns = refl;
}

-- ---- the journals

is_met : IsMet two
unfolding Sat
is_met = ((record { counted = tt; shallow = leb-true 1 8 refl; small = leb-true 1 64 refl }, (0, ltb-true 0 2 refl, refl)), tt)

first_legal : Legal two first_turn
unfolding on_literals
first_legal = (leb-true 1 2 refl, (record { place = refl; right = refl }, tt))

both_legal : Legal two both_turns
unfolding on_literals
both_legal = (leb-true 2 2 refl, (record { place = refl; right = refl }, (record { place = refl; right = refl }, tt)))

-- the fault actor is the second
only_fault : (actor : ℕ) → slice_get two.roles actor ≡ Some Fault → actor ≡ 1
only_fault zero e = absurd (cc)
only_fault (suc zero) e = refl
only_fault (suc (suc n)) e = absurd (cc)

no_orders : AreOrders two.processes Rolling 142 1 []
no_orders = record { last = _; turns = StrikesInTurn.none }

one_order : AreOrders two.processes Rolling 142 1 (restart (codes "p0") ∷ [])
one_order = record { last = _; turns = StrikesInTurn.more [] _ _ _ StrikesInTurn.none strikes_once }

pub one_turn : JournalsSurvive → Makes 1 first_turn
unfolding after_first
one_turn law = record {
  survives = law two first_turn is_met first_legal;
  last = after_first;
  turns = Turns.more 0 (opening two 142 Rolling) after_first Turns.none first;
  made = refl;
  orders = λ actor is. subst (λ a. AreOrders two.processes Rolling 142 a (acts_by a first_turn)) (sym (only_fault actor is)) no_orders;
}

second_is_last : Turns lots (opening two 142 Rolling) 2 after_second
second_is_last = Turns.more 1 after_first after_second (Turns.more 0 (opening two 142 Rolling) after_first Turns.none first) second

-- in two turns, and in more
pub two_turns : JournalsSurvive → (turns : ℕ) → min turns 2 ≡ 2 → Makes turns both_turns
unfolding after_second
two_turns law turns both = record {
  survives = law two both_turns is_met both_legal;
  last = after_second;
  turns = subst (λ n. Turns lots (opening two 142 Rolling) n after_second) (sym both) second_is_last;
  made = refl;
  orders = λ actor is. subst (λ a. AreOrders two.processes Rolling 142 a (acts_by a both_turns)) (sym (only_fault actor is)) one_order;
}

-- ---- and no other

-- whether someone was struck
is_strike : Reply → Bool
is_strike (reply.Verdict v) = is_some v.struck
is_strike other = false

strikes : List Entry → Bool
strikes journal = list_any (λ e. is_strike e.reply) journal

abbrev pub IsOne : Type 0
IsOne = (c : Setup) → (seed : ℕ) → (plan : Plan) → (acts : ℕ) → (one other : List Entry) →
    IsSimulated c seed plan acts one → IsSimulated c seed plan acts other → one ≡ other

another : IsOne → JournalsSurvive → (journal : List Entry) → strikes both_turns ≡ false → strikes journal ≡ true → Makes 2 journal → ⊥
another same law journal none struck made =
    false≢true (sym none ∙ ap strikes (same two 142 Rolling 2 both_turns journal (two_turns law 2 refl) made) ∙ struck)

pub fewer : IsOne → JournalsSurvive → Makes 2 first_turn → ⊥
fewer same law made = let e = ap length (same two 142 Rolling 2 both_turns first_turn (two_turns law 2 refl) made) in omega arith

pub more : IsOne → JournalsSurvive → Makes 1 both_turns → ⊥
more same law made = let e = ap length (same two 142 Rolling 1 first_turn both_turns (one_turn law) made) in omega arith

pub refused : IsOne → JournalsSurvive → (Makes 2 swapped → ⊥) × (Makes 2 overlooked → ⊥) × (Makes 2 from_the_second → ⊥) × (Makes 2 another_protected → ⊥)
unfolding strikes is_strike
refused same law = (another same law swapped refl refl, another same law overlooked refl refl, another same law from_the_second refl refl, another same law another_protected refl refl)
