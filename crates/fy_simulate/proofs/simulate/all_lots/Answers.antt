use Rattle.std.proofs.Common.{arith, ◌∙◌, ◌≤◌, ◌+◌, ◌++◌, drop, length, sym, ap, append_assoc, append-nil}
use Rattle.std.specs.Prelude.{replicate}
use Rattle.fy_simulate.specs.Simulate.{lots_of, lots_from}
use Rattle.fy_simulate.proofs.Opening.{lots_step, lots_end}
use Rattle.fy_simulate.proofs.simulate.all_lots.Goals as goal

pub loop-actor-preserved : goal.loop-actor-preserved
loop-actor-preserved c =
    let roles = c.args.config.now.roles in
    let a = c.loop-actor.actor in
    let role = c.in-Some.role in
    let rest = lots_from (a + 1) (drop (a + 1) roles) in
    ap (λ xs. xs ++ rest)
    (c.in_ok-push_lots.ensures
    ∙ ap (λ n. c.loop-actor.lots.items ++ replicate n a) c.lots_of.ensures)
    ∙ (append_assoc c.loop-actor.lots.items (replicate (lots_of role) a) rest
    ∙ (ap (λ xs. c.loop-actor.lots.items ++ xs)
    (sym (lots_step roles a role (sym c.role.ensures ∙ c.in-Some.is)))
    ∙ c.loop-actor.invariant))

pub returns : goal.returns
returns c =
    let roles = c.args.config.now.roles in
    let ended = c.loop-actor-test.false in
    let count = c.actors-actor-end.ensures in
    let past : length roles ≤ c.loop-actor.actor = omega arith in
    sym (append-nil c.loop-actor.lots.items)
    ∙ (ap (λ xs. c.loop-actor.lots.items ++ xs) (sym (lots_end roles c.loop-actor.actor past))
    ∙ c.loop-actor.invariant)
