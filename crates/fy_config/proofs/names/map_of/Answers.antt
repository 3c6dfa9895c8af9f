use Rattle.std.proofs.Common.{◌∙◌, sym, ap}
use Rattle.fy_config.specs.Config.{bad_name_at}
use Rattle.fy_config.specs.declared.fault.Part.TheVariants.{Process}
use Rattle.fy_config.proofs.Mapped.{mapped_more, mapped_bad}
use Rattle.fy_config.proofs.Places.{at_index, not_false, not_true}
use Rattle.fy_config.proofs.names.map_of.Goals as goal

pub returns-then-not-branch : goal.returns-then-not-branch
returns-then-not-branch c = λ texts kept.
    ap (bad_name_at Process)
    (mapped_bad c.args.given.now c.loop-index.map c.loop-index.index c.index-given-index.result c.loop-index.invariant
    (at_index c.args.given.now c.loop-index.index c.index-given-index.result c.loop-index-test.true c.index-given-index.is)
    (not_false _ (sym c.in_ok-push_process.ensures.good ∙ c.if-not-branch.true)) texts kept)

pub loop-index-preserved : goal.loop-index-preserved
loop-index-preserved c =
    mapped_more c.args.given.now c.loop-index.map c.push_process.new.map c.loop-index.index c.index-given-index.result
    c.loop-index.invariant
    (at_index c.args.given.now c.loop-index.index c.index-given-index.result c.loop-index-test.true c.index-given-index.is)
    (not_true _ (sym c.in_ok-push_process.ensures.good ∙ c.if-not-branch.false))
    (c.in_ok-push_process.ensures.last c.if-not-branch.false)
