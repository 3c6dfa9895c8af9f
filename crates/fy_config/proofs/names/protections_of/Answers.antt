use Rattle.std.proofs.Common.{◌∙◌, refl, sym, ap}
use Rattle.fy_config.specs.Config.{bad_name_at}
use Rattle.fy_config.specs.declared.fault.Part.TheVariants.{Protect}
use Rattle.fy_config.proofs.Places.{at_index}
use Rattle.fy_config.proofs.Protected.{protected_none, protected_more, protected_bad, protected_twice}
use Rattle.fy_config.proofs.names.protections_of.Goals as goal

pub loop-index-init : goal.loop-index-init
loop-index-init c =
    protected_none c.args.map.now c.args.given.now c.new-protections.result.items c.empty-named.result
    c.new-protections.ensures.items c.empty-named.ensures

pub returns-in_default : goal.returns-in_default
returns-in_default c = λ texts kept.
    ap (bad_name_at Protect)
    (protected_bad c.args.map.now c.args.given.now c.loop-index.protections.items c.loop-index.named c.loop-index.index
    c.index-given-index.result c.requires c.loop-index.invariant
    (at_index c.args.given.now c.loop-index.index c.index-given-index.result c.loop-index-test.true c.index-given-index.is)
    (sym c.in_default.ensures.place) texts kept)

pub returns-then-contains : goal.returns-then-contains
returns-then-contains c = λ texts kept.
    ap (bad_name_at Protect)
    (protected_twice c.args.map.now c.args.given.now c.loop-index.protections.items c.loop-index.named c.loop-index.index
    c.index-given-index.result c.in-Some.process.0 c.loop-index.invariant
    (at_index c.args.given.now c.loop-index.index c.index-given-index.result c.loop-index-test.true c.index-given-index.is)
    (sym c.in-Some.ensures.place) (sym c.contains.ensures ∙ c.if-contains.true) texts kept)

pub loop-index-preserved : goal.loop-index-preserved
loop-index-preserved c =
    protected_more c.args.map.now c.args.given.now c.loop-index.protections.items
    c.push_protection.new.protections.items c.loop-index.named c.put.new.self c.loop-index.index
    c.index-given-index.result c.in-Some.process.0 _ c.names_differ.ensures c.loop-index.invariant
    (at_index c.args.given.now c.loop-index.index c.index-given-index.result c.loop-index-test.true c.index-given-index.is)
    (sym c.in-Some.ensures.place) (sym c.contains.ensures ∙ c.if-contains.false) c.put.ensures refl
    c.in_ok-push_protection.ensures
