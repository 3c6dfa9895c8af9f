use Rattle.std.proofs.Common.{◌++◌, ◌||◌, length, ap, ap₂, arith, ◌∙◌}
use Rattle.fy_kinds.specs.Kinds.{has}
use Rattle.fy_grants.specs.Rights.{grant_count, no_rights, grants_of, protections_of}
use Rattle.fy_cluster.specs.Rules.{grants_to, some_protects}
use Rattle.fy_cluster.proofs.Starting.{in_range, for_actors, for_processes, first_kept}
use Rattle.fy_cluster.proofs.opening.first_rights.Goals as goal

pub give_all-requires-clause-actors : goal.give_all-requires-clause-actors
give_all-requires-clause-actors c =
    let made = c.in_ok-book.ensures ∙ ap₂ no_rights c.actors.ensures c.map.ensures in
    rw c.grants.ensures (for_actors c.args.config.now c.invariant.ensures c.in_ok-book.book made)

pub give_all-requires-clause-few : goal.give_all-requires-clause-few
give_all-requires-clause-few c =
    let none = ap grant_count c.in_ok-book.ensures ∙ c.grants_are_counted.ensures.none c.actors.result c.map.result.now in
    omega (arith, none, ap length c.grants.ensures, (in_range c.args.config.now c.invariant.ensures).few)

pub protect_all-requires : goal.protect_all-requires
protect_all-requires c =
    let made = c.in_ok-book.ensures ∙ ap₂ no_rights c.actors.ensures c.map.ensures in
    rw (c.in_ok-give_all.ensures.protections, c.protections.ensures) (for_processes c.args.config.now c.invariant.ensures c.in_ok-book.book made)

pub returns : goal.returns
returns c =
    let made = c.in_ok-book.ensures ∙ ap₂ no_rights c.actors.ensures c.map.ensures in
    let given = c.in_ok-give_all.ensures in
    let last = c.protect_all.ensures in
    first_kept c.args.config.now c.invariant.ensures c.in_ok-book.book made c.give_all.new.book c.protect_all.new.book
    (λ a. given.given a ∙ ap (λ grants. grants_of c.in_ok-book.book a ++ grants_to a grants) c.grants.ensures)
    given.actors
    given.protections
    given.map
    (λ p deed. last.kinds p deed ∙ ap (λ those. some_protects those p deed || has (protections_of c.give_all.new.book p) deed) c.protections.ensures)
    last.processes
    last.grants
    last.map
