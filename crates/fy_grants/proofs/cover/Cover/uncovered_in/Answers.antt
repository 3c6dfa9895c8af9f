use Rattle.std.proofs.Common.{sym, ◌∙◌}
use Rattle.fy_grants.proofs.Covered.{open_to_nobody, open_to_others}
use Rattle.fy_grants.proofs.cover.Cover.uncovered_in.Goals as goal

pub returns-then-contains : goal.returns-then-contains
returns-then-contains c = open_to_nobody c.one_deed.ensures.all c.args.self.now c.args.kinds c.args.set.now _ _ c.in_ok-covered.ensures (sym c.contains.ensures ∙ c.if-contains.true) c.empty.ensures

pub returns : goal.returns
returns c = open_to_others c.one_deed.ensures.all c.args.self.now c.args.kinds c.args.set.now _ _ c.in_ok-covered.ensures (sym c.contains.ensures ∙ c.if-contains.false) c.difference.ensures
