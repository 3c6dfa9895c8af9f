use Rattle.std.proofs.Common.{rules, ◌≡◌, [], ◌∷◌, List, Option, Some, sym, subst, ◌∙◌, arith, ◌<◌, ◌^◌}
use Rattle.atomic_table.specs.Table.{opening}
use Rattle.fy_actors.specs.Desk.{DeskState, execution_of}
use Rattle.fy_shared.specs.Yard.{actor_count}
use Rattle.fy_shared.specs.Turnstile.{KeepsTurns, first_view}
use Rattle.fy_shared.proofs.Moves.{starts}
use Rattle.fy_shared.proofs.yard.open_table.Goals as goal

pub new-requires : goal.new-requires
new-requires c =
    let few : actor_count c.args.cluster.setup < 2 ^ 64 = omega (arith, c.requires.actors.0) in
    let same : c.push_reserved.new.self.items ≡ Some c.make.result ∷ [] = search rules in
    subst
    (λ (xs : List (Option DeskState)).
    KeepsTurns (opening (0 ∷ 0 ∷ 0 ∷ []) xs (first_view c.of-setup.result.value)))
    (sym same)
    (starts c.of-setup.result.value c.make.result (search rules) (search rules)
    (search rules) (search rules))

pub returns-in-Err-clause-err : goal.returns-in-Err-clause-err
returns-in-Err-clause-err c =
    let same : c.push_reserved.new.self.items ≡ Some c.make.result ∷ [] = search rules in
    let back : c.in-Err.field-0.slots.items ≡ Some c.make.result ∷ [] = search rules in
    let whole : execution_of c.make.result ≡ c.args.cluster = search rules in
    c.cluster_in.ensures c.make.result back ∙ whole
