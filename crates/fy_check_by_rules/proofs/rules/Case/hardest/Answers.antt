use Rattle.std.proofs.Common.{◌<◌, ◌&&◌, length, sym, ◌∙◌, rules}
use Rattle.std.specs.Prelude.{is_none}
use Rattle.std.specs.FinSet as sets
use Rattle.fy_kinds.specs.Kinds.{Striking}
use Rattle.fy_decide.specs.Verdicts.{bar, is_allowed, hardest_first}
use Rattle.fy_check_by_rules.specs.Cases.{situation_of}
use Rattle.fy_check_by_rules.proofs.Lists.{none_more}
use Rattle.fy_check_by_rules.proofs.rules.Case.hardest.Goals as goal

pub loop-kind-preserved : goal.loop-kind-preserved
loop-kind-preserved c =
    let within : c.loop-kind.kind-index < length hardest_first = search rules in
    none_more (λ kind. is_allowed c.args.order.now kind && is_none (bar (situation_of c.args.self.now) (Striking kind) (sets.contains c.args.targets.now))) hardest_first c.loop-kind.kind-index _ within c.loop-kind.invariant
    (sym c.in_ok-may.ensures ∙ c.if-may.false)
