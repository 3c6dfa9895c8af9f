use Rattle.std.proofs.Common.{◌≡◌, ◌∙◌, Some, map, option_map, sym, ap, arith}
use Rattle.std.specs.Prelude.{slice_get}
use Rattle.std.proofs.lemmas.List.{length-map}
use Rattle.std.proofs.lemmas.Option.{slice_get-map}
use Rattle.fy_config.specs.Given.{actor_kept}
use Rattle.fy_config.specs.Config.{bad_name_at}
use Rattle.fy_config.specs.declared.fault.Part.TheVariants.{Actor}
use Rattle.fy_config.proofs.Granted.{granted_more, granted_bad, granted_all}
use Rattle.fy_config.proofs.Places.{at_index}
use Rattle.fy_config.proofs.names.grants_of.Goals as goal

pub returns-then-not-branch : goal.returns-then-not-branch
returns-then-not-branch c = λ spelt kept.
    let actors = map actor_kept c.args.actors.now in
    let actor = c.index-actors-index.result in
    let at : slice_get actors c.loop-index.index ≡ Some (actor_kept actor) =
    slice_get-map actor_kept c.args.actors.now c.loop-index.index
    ∙ ap (option_map actor_kept) (at_index c.args.actors.now c.loop-index.index actor c.loop-index-test.true c.index-actors-index.is) in
    ap (bad_name_at Actor)
    (granted_bad actors c.loop-index.grants.items c.loop-index.index (actor_kept actor) c.loop-index.invariant at
    (sym c.in_ok-push_grants.ensures.good ∙ c.if-not-branch.true) spelt kept)

pub loop-index-preserved : goal.loop-index-preserved
loop-index-preserved c =
    let actors = map actor_kept c.args.actors.now in
    let actor = c.index-actors-index.result in
    let at : slice_get actors c.loop-index.index ≡ Some (actor_kept actor) =
    slice_get-map actor_kept c.args.actors.now c.loop-index.index
    ∙ ap (option_map actor_kept) (at_index c.args.actors.now c.loop-index.index actor c.loop-index-test.true c.index-actors-index.is) in
    granted_more actors c.loop-index.grants.items c.push_grants.new.grants.items c.loop-index.index (actor_kept actor)
    c.loop-index.invariant at (sym c.in_ok-push_grants.ensures.good ∙ c.if-not-branch.false)
    (c.in_ok-push_grants.ensures.last c.if-not-branch.false)

pub returns : goal.returns
returns c = λ spelt kept.
    granted_all (map actor_kept c.args.actors.now) c.loop-index.grants.items c.loop-index.index c.loop-index.invariant
    (omega (arith, length-map c.args.actors.now actor_kept, c.loop-index-test.false)) spelt kept
