use Rattle.std.proofs.Common.{length, ◌∙◌, ap}
use Rattle.std.specs.List.{list_any, range_with_len}
use Rattle.std.specs.FinSet as sets
use Rattle.fy_locality.specs.declared.locality.Locality.{Locality}
use Rattle.std.specs.Prelude.{List}
use Rattle.fy_kinds.specs.declared.verdict.Rule.TheVariants.{NoTarget}
use Rattle.fy_check_by_rules.proofs.Ruling.{of_targets, of_no_targets}
use Rattle.fy_check_by_rules.proofs.rules.Case.no_target.Goals as goal

pub returns-then-has_target : goal.returns-then-has_target
returns-then-has_target c =
    of_targets NoTarget c.has_target.result _ (c.has_target.ensures ∙ ap (λ (ps : List Locality). list_any (sets.contains c.args.targets.now) (range_with_len 0 (length ps))) c.map.ensures) c.if-has_target.true

pub returns : goal.returns
returns c =
    of_no_targets NoTarget c.has_target.result _ (c.has_target.ensures ∙ ap (λ (ps : List Locality). list_any (sets.contains c.args.targets.now) (range_with_len 0 (length ps))) c.map.ensures) c.if-has_target.false
