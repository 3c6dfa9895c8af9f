-- two simulations of one seed are one, where a turn is determined by what was before it
use Rattle.std.proofs.Common.{arith, ◌≡◌, ◌∙◌, ℕ, zero, suc, refl, sym, ap, subst}
use Rattle.std.specs.Prelude.{List, min, Some, slice_get, slice_set}
use Rattle.fy_acts.specs.declared.entry.Entry.{Entry}
use Rattle.fy_cluster.specs.Setup.{Setup}
use Rattle.fy_cluster.specs.Execution.{Execution}
use Rattle.fy_players.specs.declared.faults.Plan.{Plan}
use Rattle.fy_players.specs.declared.player.Player.{Player}
use Rattle.fy_players.specs.Turns.{TakesTurn}
use Rattle.fy_simulate.specs.Simulate.{Stage, OneTurn, Turns, IsSimulated}
use Rattle.fy_simulate.specs.Simulate.Turns.{none, more}

-- a turn is determined
abbrev TurnIsOne : Type 0
TurnIsOne = (was a b : Player × Execution) → TakesTurn was a → TakesTurn was b → a ≡ b

stage_one : TurnIsOne → (lots : List ℕ) (was a b : Stage) → OneTurn lots was a → OneTurn lots was b → a ≡ b
stage_one turn_one lots was a b p q =
    let lot : Some p.actor ≡ Some q.actor = sym p.drawn ∙ q.drawn in
    let actor : p.actor ≡ q.actor = cc in
    let whose : Some p.takes.player ≡ Some q.takes.player =
    sym p.takes.whose ∙ (ap (slice_get was.players) actor ∙ q.takes.whose) in
    let player : p.takes.player ≡ q.takes.player = cc in
    let there : TakesTurn (p.takes.player, was.execution) (q.takes.after, b.execution) =
    subst (λ (it : Player). TakesTurn (it, was.execution) (q.takes.after, b.execution)) (sym player)
    q.takes.takes in
    let same = turn_one (p.takes.player, was.execution) (p.takes.after, a.execution)
    (q.takes.after, b.execution) p.takes.takes there in
    let after : p.takes.after ≡ q.takes.after = ap (λ it. it.0) same in
    let execution : a.execution ≡ b.execution = ap (λ it. it.1) same in
    let players : a.players ≡ b.players =
    p.takes.players
    ∙ ((λ i. slice_set was.players (actor i) (after i)) ∙ sym q.takes.players) in
    let turns : a.turns ≡ b.turns = p.turns ∙ sym q.turns in
    λ i. record { turns = turns i; players = players i; execution = execution i }

before_first : (lots : List ℕ) (start : Stage) {m : ℕ} {now : Stage} → m ≡ 0 → Turns lots start m now →
    now ≡ start
before_first lots start is none = refl
before_first lots start is (more n was now turns one) = let bad : ⊥ = omega arith in absurd bad

before_last : (lots : List ℕ) (start : Stage) (n : ℕ) {m : ℕ} {now : Stage} → m ≡ suc n →
    Turns lots start m now → (was : Stage) × Turns lots start n was × OneTurn lots was now
before_last lots start n is none = let bad : ⊥ = omega arith in absurd bad
before_last lots start n is (more k was now turns one) =
    let same : k ≡ n = omega arith in
    (was, subst (λ (m : ℕ). Turns lots start m was) same turns, one)

turns_one : TurnIsOne → (lots : List ℕ) (start : Stage) (n : ℕ) (a b : Stage) → Turns lots start n a →
    Turns lots start n b → a ≡ b
turns_one turn_one lots start zero a b p q =
    before_first lots start refl p ∙ sym (before_first lots start refl q)
turns_one turn_one lots start (suc n) a b p q =
    let one = before_last lots start n refl p in
    let other = before_last lots start n refl q in
    let was : one.0 ≡ other.0 = turns_one turn_one lots start n one.0 other.0 one.1 other.1 in
    stage_one turn_one lots other.0 a b (subst (λ (it : Stage). OneTurn lots it a) was one.2) other.2

-- what the same cluster file, seed and plan make in as many turns is the same
pub journal_one : TurnIsOne → (c : Setup) (seed : ℕ) (it : Plan) (acts : ℕ) (one other : List Entry) →
    IsSimulated c seed it acts one → IsSimulated c seed it acts other → one ≡ other
journal_one turn_one c seed it acts one other p q =
    p.made
    ∙ (ap (λ (stage : Stage). stage.execution.journal)
    (turns_one turn_one _ _ (min acts c.limit) p.last q.last p.turns q.turns)
    ∙ sym q.made)
