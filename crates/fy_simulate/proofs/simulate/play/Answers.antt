use Rattle.std.proofs.Common.{arith, ◌≡◌, ◌∙◌, ◌<◌, ℕ, List, length, sym, ap, subst}
use Rattle.std.specs.Prelude.{min, OnOk, alloc_error}
use Rattle.std.specs.List.{All}
use Rattle.fy_cluster.specs.Setup.{Setup}
use Rattle.fy_cluster.specs.Survival.{Survives}
use Rattle.fy_cluster.specs.Execution.{Execution}
use Rattle.fy_simulate.specs.Simulate.{Stage, lots_from, opening, stage_of, OneTurn, Turns}
use Rattle.fy_simulate.proofs.Opening.{players_count, lots_some, lots_within, roles_some}
use Rattle.fy_simulate.proofs.Ordered.{are_orders}
use Rattle.fy_simulate.proofs.Turning.{setup_kept, one_more, held_past}
use Rattle.fy_simulate.proofs.simulate.play.Goals as goal

pub loop-init : goal.loop-init
loop-init c =
    let config = c.args.config.now in
    let stage = c.in_ok-simulation.ensures.stage in
    record {
      within = omega arith;
      lots = c.in_ok-simulation.ensures.lots;
      players = ap (λ (s : Stage). length s.players) stage
          ∙ players_count c.args.seed c.args.plan 0 config.roles;
      setup = ap (λ (s : Stage). s.execution.setup) stage;
      turns = subst (λ (s : Stage). Turns (lots_from 0 config.roles)
          (opening config c.args.seed c.args.plan) 0 s) (sym stage) Turns.none;
    }

pub turn-requires-clause-some : goal.turn-requires-clause-some
turn-requires-clause-some c =
    let roles = c.args.config.now.roles in
    subst (λ (xs : List ℕ). 0 < length xs) (sym c.loop.invariant.lots)
    (lots_some roles (roles_some c.args.config.now c.invariant.ensures.in_range))

pub turn-requires-clause-theirs : goal.turn-requires-clause-theirs
turn-requires-clause-theirs c =
    let roles = c.args.config.now.roles in
    let n = length c.loop.simulation.players.items in
    let count = c.loop.invariant.players in
    subst (λ (xs : List ℕ). All (λ actor. actor < n) xs) (sym c.loop.invariant.lots)
    (lots_within 0 n roles (omega arith))

pub loop-preserved : goal.loop-preserved
loop-preserved c =
    let config = c.args.config.now in
    let lots = lots_from 0 config.roles in
    let start = opening config c.args.seed c.args.plan in
    let was = stage_of c.loop.simulation in
    let now = stage_of c.turn.new.self in
    let inv = c.loop.invariant in
    let past : (P : Type 0) → OnOk c.turn.result P → P =
    λ P holds. held_past P c.turn.result alloc_error c.in_ok-or.field-0 holds
    (sym c.in_ok-or.was ∙ c.or.ensures) in
    let took = c.turn.ensures in
    let kept = past (c.turn.new.self.lots.items ≡ c.loop.simulation.lots.items) took.lots in
    let one = subst (λ (xs : List ℕ). OneTurn xs was now) inv.lots
    (past (OneTurn c.loop.simulation.lots.items was now) took.taken) in
    record {
      within = omega arith;
      lots = kept ∙ inv.lots;
      players = past (length c.turn.new.self.players.items
          ≡ length c.loop.simulation.players.items) took.count ∙ inv.players;
      setup = setup_kept lots was now one ∙ inv.setup;
      turns = one_more lots start was now c.loop.counter inv.turns one;
    }

pub returns : goal.returns
returns c =
    let config = c.args.config.now in
    let inv = c.loop.invariant in
    let same = c.into_cluster-cluster.ensures in
    let ended = c.loop-test.false in
    let within = inv.within in
    let all : c.loop.counter ≡ c.min-count.result = omega arith in
    let count : c.min-count.result ≡ min c.args.acts config.limit =
    c.min-count.ensures ∙ ap (min c.args.acts) (c.from-limit.ensures ∙ c.journal_limit.ensures) in
    let turns : Turns (lots_from 0 config.roles) (opening config c.args.seed c.args.plan)
    (min c.args.acts config.limit) (stage_of c.loop.simulation) =
    subst (λ (n : ℕ). Turns (lots_from 0 config.roles)
    (opening config c.args.seed c.args.plan) n (stage_of c.loop.simulation))
    (all ∙ count) inv.turns in
    let made = ap (λ (x : Execution). x.journal) same in
    record {
      survives = subst (λ (s : Setup). Survives s c.into_cluster-cluster.result.journal)
          (ap (λ (x : Execution). x.setup) same ∙ inv.setup) c.survives.ensures;
      last = stage_of c.loop.simulation;
      turns = turns;
      made = made;
      orders = are_orders config c.args.seed c.args.plan (lots_from 0 config.roles)
          (min c.args.acts config.limit) (stage_of c.loop.simulation)
          c.into_cluster-cluster.result.journal c.invariant.ensures.in_range turns made;
    }
