use Rattle.std.specs.FinSet as sets
use Rattle.fy_check_by_rules.specs.Cases.{situation_of}
use Rattle.fy_check_by_rules.specs.Deeds.{deed_of}
use Rattle.fy_check_by_rules.proofs.Ruling.{bar_first, bar_second, bar_third, bar_fourth, bar_fifth}
use Rattle.fy_check_by_rules.proofs.rules.Case.bar.Goals as goal

pub returns-in-Some : goal.returns-in-Some
returns-in-Some c =
    bar_first (situation_of c.args.self.now) (deed_of c.args.asked) (sets.contains c.args.targets.now) c.no_target.result c.in-Some.rule
    c.no_target.ensures c.in-Some.is

pub returns-in-Some-2 : goal.returns-in-Some-2
returns-in-Some-2 c =
    bar_second (situation_of c.args.self.now) (deed_of c.args.asked) (sets.contains c.args.targets.now) c.no_target.result c.in_ok-rule.field-0 c.in-Some-2.rule
    c.no_target.ensures c.in_default.is c.in_ok-rule.ensures c.in-Some-2.is

pub returns-in-Some-protected : goal.returns-in-Some-protected
returns-in-Some-protected c =
    bar_third (situation_of c.args.self.now) (deed_of c.args.asked) (sets.contains c.args.targets.now) c.no_target.result c.in_ok-rule.field-0 c.protected.result c.in-Some-protected.rule
    c.no_target.ensures c.in_default.is c.in_ok-rule.ensures c.in_default-2.is c.protected.ensures c.in-Some-protected.is

pub returns-in-Some-too_many_destroyed : goal.returns-in-Some-too_many_destroyed
returns-in-Some-too_many_destroyed c =
    bar_fourth (situation_of c.args.self.now) (deed_of c.args.asked) (sets.contains c.args.targets.now) c.no_target.result c.in_ok-rule.field-0 c.protected.result c.too_many_destroyed.result c.in-Some-too_many_destroyed.rule
    c.no_target.ensures c.in_default.is c.in_ok-rule.ensures c.in_default-2.is c.protected.ensures c.in_default-protected.is c.too_many_destroyed.ensures c.in-Some-too_many_destroyed.is

pub returns : goal.returns
returns c =
    bar_fifth (situation_of c.args.self.now) (deed_of c.args.asked) (sets.contains c.args.targets.now) c.no_target.result c.in_ok-rule.field-0 c.protected.result c.too_many_destroyed.result c.too_few_left.result
    c.no_target.ensures c.in_default.is c.in_ok-rule.ensures c.in_default-2.is c.protected.ensures c.in_default-protected.is c.too_many_destroyed.ensures c.in_default-too_many_destroyed.is c.too_few_left.ensures
