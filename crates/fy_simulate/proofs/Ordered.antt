-- what fault actors made so far
use Rattle.std.proofs.Common.{arith, ◌≡◌, ◌≢◌, ◌∙◌, ◌<◌, ◌+◌, ◌==◌, ℕ, zero, suc, Bool, true, false, List, [], ◌∷◌, ◌++◌, length, map, refl, sym, ap, subst, append-nil, inl, inr}
use Rattle.std.specs.Prelude.{◌⊎◌, Some, None, slice_get, slice_set, nat_le, if◌then◌else◌}
use Rattle.std.specs.List.{filter}
use Rattle.std.proofs.lemmas.Bool.{and_parts}
use Rattle.std.proofs.lemmas.Bool.Decides.{nat_tests}
use Rattle.std.proofs.lemmas.List.Elements.{filter-append}
use Rattle.std.proofs.lemmas.Option.{slice_get_past, slice_get_within}
use Rattle.rand_chacha.specs.ChaCha.{ChaCha}
use Rattle.fy_acts.specs.declared.entry.Entry.{Entry}
use Rattle.fy_actors.specs.Desk.{entries_by}
use Rattle.fy_cluster.specs.Setup.{Setup, is_between, is_in_range}
use Rattle.fy_cluster.specs.Execution.{Execution, next_entry}
use Rattle.fy_cluster.specs.declared.role.Role.{Role}
use Rattle.fy_cluster.specs.declared.role.Role.TheVariants.{Fault}
use Rattle.fy_players.specs.declared.draws.Words.{Words}
use Rattle.fy_players.specs.declared.faults.Plan.{Plan}
use Rattle.fy_players.specs.declared.player.Part.{Part}
use Rattle.fy_players.specs.declared.player.Part.TheVariants.{Stores, Strikes, Operates}
use Rattle.fy_players.specs.declared.player.Player.{Player}
use Rattle.fy_players.specs.Draws.{stream_of, words_of}
use Rattle.fy_players.specs.Faults.{FaultState, fault_of, readied, one_turn_more}
use Rattle.fy_players.specs.Orders.{StrikesOnce, StrikesInTurn, AreOrders}
use Rattle.fy_players.specs.Turns.{player_of, speaker, speaker_now, words_now, part_now, number_of, striker, TakesTurn}
use Rattle.fy_simulate.specs.Simulate.{Stage, players_from, opening, OneTurn, Turns, acts_by}
use Rattle.fy_simulate.specs.Simulate.Turns.{none, more}

-- ---- lists

abbrev no_items : (X : Type 0) → List X
no_items X = []

none_of : {X : Type 0} (i : ℕ) (x : X) → slice_get (no_items X) i ≡ Some x → ⊥
none_of {X} i x is =
    let past : slice_get (no_items X) i ≡ None = slice_get_past {X = X} [] i (omega arith) in cc

set_same : {X : Type 0} (xs : List X) (i : ℕ) (x y : X) → slice_get xs i ≡ Some y →
    slice_get (slice_set xs i x) i ≡ Some x
set_same [] i x y is = absurd (none_of i y is)
set_same (z ∷ zs) zero x y is = refl
set_same (z ∷ zs) (suc i) x y is = set_same zs i x y is

set_other : {X : Type 0} (xs : List X) (i p : ℕ) (x : X) → p ≢ i →
    slice_get (slice_set xs i x) p ≡ slice_get xs p
set_other [] zero p x apart = refl
set_other [] (suc i) p x apart = refl
set_other (z ∷ zs) zero zero x apart = absurd (apart refl)
set_other (z ∷ zs) zero (suc p) x apart = refl
set_other (z ∷ zs) (suc i) zero x apart = refl
set_other (z ∷ zs) (suc i) (suc p) x apart = set_other zs i p x (λ e. apart (ap suc e))

map_joined : {X Y : Type 0} (g : X → Y) (xs ys : List X) → map g (xs ++ ys) ≡ map g xs ++ map g ys
map_joined g [] ys = refl
map_joined g (x ∷ xs) ys = ap (λ zs. g x ∷ zs) (map_joined g xs ys)

-- ---- entries

one_more_entry : (a : ℕ) (es : List Entry) (e : Entry) →
    acts_by a (es ++ e ∷ []) ≡ acts_by a es ++ acts_by a (e ∷ [])
one_more_entry a es e =
    ap (map (λ (it : Entry). it.act)) (filter-append (λ (it : Entry). it.by == a) es (e ∷ []))
    ∙ map_joined (λ (it : Entry). it.act) (entries_by a es) (entries_by a (e ∷ []))

its_own : (a : ℕ) (es : List Entry) (e : Entry) → e.by ≡ a →
    acts_by a (es ++ e ∷ []) ≡ acts_by a es ++ e.act ∷ []
its_own a es e is =
    let hit : (e.by == a) ≡ true = grind (arith, nat_tests) in
    one_more_entry a es e ∙ ap (λ xs. acts_by a es ++ xs) (rw hit refl)

another_s : (a : ℕ) (es : List Entry) (e : Entry) → e.by ≢ a →
    acts_by a (es ++ e ∷ []) ≡ acts_by a es
another_s a es e apart =
    let miss : (e.by == a) ≡ false = grind (arith, nat_tests) in
    one_more_entry a es e ∙ ap (λ xs. acts_by a es ++ xs) (rw miss refl) ∙ append-nil (acts_by a es)

-- ---- actors by number

pub opening_player : (seed : ℕ) (plan : Plan) (a : ℕ) (roles : List Role) (i : ℕ) (role : Role) →
    slice_get roles i ≡ Some role →
    slice_get (players_from seed plan a roles) i ≡ Some (player_of seed plan (a + i) role)
opening_player seed plan a [] i role is = absurd (none_of i role is)
opening_player seed plan a (r ∷ rs) zero role is =
    let same : r ≡ role = cc in
    ap (λ it. Some (player_of seed plan a it)) same
    ∙ ap (λ n. Some (player_of seed plan n role)) (let e : a ≡ a + 0 = omega arith in e)
opening_player seed plan a (r ∷ rs) (suc i) role is =
    opening_player seed plan (suc a) rs i role is
    ∙ ap (λ n. Some (player_of seed plan n role)) (let e : suc a + i ≡ a + suc i = omega arith in e)

pub opening_number : (seed : ℕ) (plan : Plan) (a : ℕ) (roles : List Role) (i : ℕ) (p : Player) →
    slice_get (players_from seed plan a roles) i ≡ Some p → number_of p ≡ a + i
opening_number seed plan a [] i p is = absurd (none_of i p is)
opening_number seed plan a (r ∷ rs) zero p is =
    let same : player_of seed plan a r ≡ p = cc in
    sym (ap number_of same) ∙ (let e : a ≡ a + 0 = omega arith in e)
opening_number seed plan a (r ∷ rs) (suc i) p is =
    opening_number seed plan (suc a) rs i p is ∙ (let e : suc a + i ≡ a + suc i = omega arith in e)

-- an actor acts by its own number, or by one that no actor has
by_own_or_none : (actor : ℕ) (words : Words) (b : Bool) →
    ((if b then 1000000 else actor) ≡ actor) ⊎ ((if b then 1000000 else actor) ≡ 1000000)
by_own_or_none actor words true = inr refl
by_own_or_none actor words false = inl refl

speaks : (actor : ℕ) (words : Words) (part : Part) →
    (speaker actor words part ≡ actor) ⊎ (speaker actor words part ≡ 1000000)
speaks actor words (Stores known) = by_own_or_none actor words _
speaks actor words (Strikes fault) = inl refl
speaks actor words Operates = by_own_or_none actor words _

speaks_now : (player : Player) (x : Execution) →
    (speaker_now player x ≡ number_of player) ⊎ (speaker_now player x ≡ 1000000)
speaks_now player x = speaks (number_of player) (words_now player) (part_now player x)

is_no_other : (actor by its : ℕ) → actor < 64 → its ≢ actor → (by ≡ its) ⊎ (by ≡ 1000000) → by ≢ actor
is_no_other actor by its few apart said =
    elim said [ inl own ↦ λ e. apart (sym own ∙ e) | inr nobody ↦ λ e. (let no : ⊥ = omega arith in no) ]

-- ---- what is kept

pub record Kept (c : Setup) (seed : ℕ) (plan : Plan) (actor : ℕ) (now : Stage) : Type 0 where
  pub setup : now.execution.setup ≡ c
  pub numbered : (b : ℕ) (p : Player) → slice_get now.players b ≡ Some p → number_of p ≡ b
  pub state : FaultState × ChaCha
  pub player : slice_get now.players actor ≡ Some (striker actor state)
  pub orders : StrikesInTurn c.processes (fault_of seed plan, stream_of seed actor)
      (acts_by actor now.execution.journal) state

at_first : (c : Setup) (seed : ℕ) (plan : Plan) (actor : ℕ) → slice_get c.roles actor ≡ Some Fault →
    Kept c seed plan actor (opening c seed plan)
at_first c seed plan actor is = record {
  setup = refl;
  numbered = λ b p there. opening_number seed plan 0 c.roles b p there ∙ (let e : 0 + b ≡ b = omega arith in e);
  state = (fault_of seed plan, stream_of seed actor);
  player = opening_player seed plan 0 c.roles actor Fault is
      ∙ ap (λ n. Some (player_of seed plan n Fault)) (let e : 0 + actor ≡ actor = omega arith in e);
  orders = StrikesInTurn.none;
}

still_numbered : (players : List Player) (b : ℕ) (was now : Player) →
    ((q : ℕ) (p : Player) → slice_get players q ≡ Some p → number_of p ≡ q) →
    slice_get players b ≡ Some was → number_of now ≡ number_of was →
    (q : ℕ) (p : Player) → slice_get (slice_set players b now) q ≡ Some p → number_of p ≡ q
still_numbered players b was now numbered there same q p is = by (q == b) refl
  where
    by : (t : Bool) → (q == b) ≡ t → number_of p ≡ q
    by true e =
        let hit : q ≡ b = grind (arith, nat_tests) in
        let here : slice_get (slice_set players b now) q ≡ Some now = rw hit (set_same players b now was there) in
        let it : now ≡ p = cc in
        sym (ap number_of it) ∙ (same ∙ (numbered b was there ∙ sym hit))
    by false e =
        let miss : q ≢ b = grind (arith, nat_tests) in
        numbered q p (sym (set_other players b q now miss) ∙ is)

-- the turn of a fault actor
own_turn : (c : Setup) (actor : ℕ) (first state : FaultState × ChaCha) (x y : Execution) (after : Player) →
    x.setup ≡ c → StrikesInTurn c.processes first (acts_by actor x.journal) state →
    TakesTurn (striker actor state, x) (after, y) →
    (next : FaultState × ChaCha) × (after ≡ striker actor next)
    × StrikesInTurn c.processes first (acts_by actor y.journal) next
own_turn c actor first state x y after same orders takes =
    let ready = readied x.setup.processes (words_of state.1).0 state.0 in
    let next : FaultState × ChaCha = (one_turn_more ready, (words_of state.1).1) in
    let made = takes.made.0 in
    let once : StrikesOnce x.setup.processes state next made =
    record { strikes = takes.does.0; now_is = refl } in
    let here : StrikesOnce c.processes state next made =
    subst (λ (s : Setup). StrikesOnce s.processes state next made) same once in
    let entries : acts_by actor y.journal ≡ acts_by actor x.journal ++ made ∷ [] =
    ap (λ (it : Execution). acts_by actor it.journal) takes.execution
    ∙ its_own actor x.journal (next_entry x actor made) refl in (
      next,
      takes.player,
      subst (λ acts. StrikesInTurn c.processes first acts next) (sym entries)
          (StrikesInTurn.more (acts_by actor x.journal) state next made orders here),
    )

-- the turn of another
other_turn : (actor : ℕ) (player after : Player) (x y : Execution) → actor < 64 →
    number_of player ≢ actor → TakesTurn (player, x) (after, y) →
    acts_by actor y.journal ≡ acts_by actor x.journal
other_turn actor player after x y few apart takes =
    ap (λ (it : Execution). acts_by actor it.journal) takes.execution
    ∙ another_s actor x.journal (next_entry x (speaker_now player x) takes.made.0)
    (is_no_other actor (speaker_now player x) (number_of player) few apart (speaks_now player x))

kept_after : (c : Setup) (seed : ℕ) (plan : Plan) (actor : ℕ) (lots : List ℕ) (was now : Stage) →
    actor < 64 → OneTurn lots was now → Kept c seed plan actor was → Kept c seed plan actor now
kept_after c seed plan actor lots was now few one kept = by (one.actor == actor) refl
  where
    turn : TakesTurn (one.takes.player, was.execution) (one.takes.after, now.execution)
    turn = one.takes.takes

    setup_is : now.execution.setup ≡ c
    setup_is = ap (λ (x : Execution). x.setup) turn.execution ∙ kept.setup

    numbered_is : (b : ℕ) (p : Player) → slice_get now.players b ≡ Some p → number_of p ≡ b
    numbered_is b p there =
        still_numbered was.players one.actor one.takes.player one.takes.after kept.numbered
        one.takes.whose (ap number_of turn.player) b p
        (ap (λ ps. slice_get ps b) (sym one.takes.players) ∙ there)

    by : (t : Bool) → (one.actor == actor) ≡ t → Kept c seed plan actor now
    by true e =
        let hit : one.actor ≡ actor = grind (arith, nat_tests) in
        let there : slice_get was.players one.actor ≡ Some (striker actor kept.state) =
        ap (slice_get was.players) hit ∙ kept.player in
        let it : one.takes.player ≡ striker actor kept.state =
        (let same : Some one.takes.player ≡ Some (striker actor kept.state) = sym one.takes.whose ∙ there in cc) in
        let own =
        own_turn c actor (fault_of seed plan, stream_of seed actor) kept.state was.execution now.execution
        one.takes.after kept.setup kept.orders
        (subst (λ p. TakesTurn (p, was.execution) (one.takes.after, now.execution)) it turn) in
        record {
          setup = setup_is;
          numbered = numbered_is;
          state = own.0;
          player = ap (λ ps. slice_get ps actor) one.takes.players
              ∙ (ap (λ q. slice_get (slice_set was.players q one.takes.after) actor) hit
              ∙ (set_same was.players actor one.takes.after (striker actor kept.state) kept.player
              ∙ ap Some own.1));
          orders = own.2;
        }
    by false e =
        let miss : actor ≢ one.actor = grind (arith, nat_tests) in
        let its : number_of one.takes.player ≡ one.actor =
        kept.numbered one.actor one.takes.player one.takes.whose in
        let apart : number_of one.takes.player ≢ actor = λ same. miss (sym same ∙ its) in
        record {
          setup = setup_is;
          numbered = numbered_is;
          state = kept.state;
          player = ap (λ ps. slice_get ps actor) one.takes.players
              ∙ (set_other was.players one.actor actor one.takes.after miss ∙ kept.player);
          orders = subst
              (λ acts. StrikesInTurn c.processes (fault_of seed plan, stream_of seed actor) acts kept.state)
              (sym (other_turn actor one.takes.player one.takes.after was.execution now.execution few apart turn))
              kept.orders;
        }

pub all_kept : (c : Setup) (seed : ℕ) (plan : Plan) (actor : ℕ) (lots : List ℕ) → actor < 64 →
    slice_get c.roles actor ≡ Some Fault → {n : ℕ} {now : Stage} →
    Turns lots (opening c seed plan) n now → Kept c seed plan actor now
all_kept c seed plan actor lots few is none = at_first c seed plan actor is
all_kept c seed plan actor lots few is (more n was now turns one) =
    kept_after c seed plan actor lots was now few one
    (all_kept c seed plan actor lots few is turns)

-- a setup has at most 64 actors
pub few_actors : (setup : Setup) (actor : ℕ) → is_in_range setup ≡ true →
    slice_get setup.roles actor ≡ Some Fault → actor < 64
few_actors setup actor range is =
    let first = and_parts _ (is_between 1 1048576 setup.limit) range in
    let second = (and_parts _ _ first.0).0 in
    let third = (and_parts _ _ second).0 in
    let fourth = (and_parts _ _ third).0 in
    let count = length setup.roles in
    let roles : is_between 1 64 count ≡ true = (and_parts _ (is_between 1 64 count) fourth).1 in
    let most : nat_le count 64 ≡ true = (and_parts (nat_le 1 count) (nat_le count 64) roles).1 in
    let within = slice_get_within setup.roles actor Fault is in
    grind (arith, nat_tests)

-- the orders of a fault actor
pub are_orders : (c : Setup) (seed : ℕ) (plan : Plan) (lots : List ℕ) (n : ℕ) (last : Stage)
    (journal : List Entry) → is_in_range c ≡ true → Turns lots (opening c seed plan) n last →
    journal ≡ last.execution.journal → (actor : ℕ) → slice_get c.roles actor ≡ Some Fault →
    AreOrders c.processes plan seed actor (acts_by actor journal)
are_orders c seed plan lots n last journal range turns made actor is =
    let kept = all_kept c seed plan actor lots (few_actors c actor range is) is turns in
    record {
      last = kept.state;
      turns = subst
          (λ them. StrikesInTurn c.processes (fault_of seed plan, stream_of seed actor) (acts_by actor them) kept.state)
          (sym made) kept.orders;
    }
