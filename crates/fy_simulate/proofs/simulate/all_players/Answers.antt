use Rattle.std.proofs.Common.{arith, ◌∙◌, ◌≤◌, ◌+◌, ◌++◌, ◌∷◌, [], drop, length, sym, ap, append_assoc, append-nil}
use Rattle.fy_players.specs.Turns.{player_of}
use Rattle.fy_simulate.specs.Simulate.{players_from}
use Rattle.fy_simulate.proofs.Opening.{players_step, players_end}
use Rattle.fy_simulate.proofs.simulate.all_players.Goals as goal

pub loop-actor-preserved : goal.loop-actor-preserved
loop-actor-preserved c =
    let roles = c.args.config.now.roles in
    let seed = c.args.seed in
    let plan = c.args.plan in
    let a = c.loop-actor.actor in
    let role = c.in-Some.role in
    let rest = players_from seed plan (a + 1) (drop (a + 1) roles) in
    ap (λ xs. xs ++ rest)
    (c.in_ok-push.ensures.items
    ∙ ap (λ p. c.loop-actor.players.items ++ p ∷ []) c.make.ensures)
    ∙ (append_assoc c.loop-actor.players.items (player_of seed plan a role ∷ []) rest
    ∙ (ap (λ xs. c.loop-actor.players.items ++ xs)
    (sym (players_step seed plan roles a role (sym c.role.ensures ∙ c.in-Some.is)))
    ∙ c.loop-actor.invariant))

pub returns : goal.returns
returns c =
    let roles = c.args.config.now.roles in
    let ended = c.loop-actor-test.false in
    let count = c.actors-actor-end.ensures in
    let past : length roles ≤ c.loop-actor.actor = omega arith in
    sym (append-nil c.loop-actor.players.items)
    ∙ (ap (λ xs. c.loop-actor.players.items ++ xs)
    (sym (players_end c.args.seed c.args.plan roles c.loop-actor.actor past))
    ∙ c.loop-actor.invariant)
