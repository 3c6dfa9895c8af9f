use Rattle.std.proofs.Common.{sym, ◌∙◌}
use Rattle.std.specs.FinSet as sets
use Rattle.fy_decide.specs.Targets.{targeted}
use Rattle.fy_decide.specs.Verdicts.{situation_of}
use Rattle.fy_decide.proofs.Judging.{rule_of, between, judged_free, judged_barred}
use Rattle.fy_decide.proofs.verdict.Case.verdict.Goals as goal

pub returns-in-None : goal.returns-in-None
returns-in-None c = λ order kind_is floor_is found.
    let situation = situation_of c.args.self.now.dead.now c.args.self.now.book.now c.args.self.now.actor in
    judged_free situation order _ _ (sym kind_is)
    (rule_of situation order (sets.contains (targeted c.args.self.now.targets.now)) _ _ (λ i p. found p i) (sym kind_is) c.bar-rule.ensures)
    c.in-None.is

pub returns-in-Some : goal.returns-in-Some
returns-in-Some c = λ order kind_is floor_is found.
    let situation = situation_of c.args.self.now.dead.now c.args.self.now.book.now c.args.self.now.actor in
    let targets = sets.contains (targeted c.args.self.now.targets.now) in
    judged_barred situation order targets _ _
    (λ i p. found p i)
    (sym c.in-Some.is ∙ rule_of situation order targets _ _ (λ i p. found p i) (sym kind_is) c.bar-rule.ensures)
    (c.lesser-struck.ensures ∙ between situation order targets c.args.kind c.args.floor kind_is floor_is)
