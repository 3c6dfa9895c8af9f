use Rattle.std.proofs.Common.{length}
use Rattle.std.specs.FinSet as sets
use Rattle.fy_decide.specs.Targets.{targeted}
use Rattle.fy_decide.specs.Verdicts.{situation_of}
use Rattle.fy_decide.proofs.Judging.{nobody, permission_untargeted, uncovered_by, barred_by}
use Rattle.fy_decide.proofs.verdict.Case.permission_bar.Goals as goal

pub returns-then-has_no_target : goal.returns-then-has_no_target
returns-then-has_no_target c = λ deed only_one.
    permission_untargeted c.least_is_first_found.ensures (situation_of c.args.self.now.dead.now c.args.self.now.book.now c.args.self.now.actor) deed (sets.contains (targeted c.args.self.now.targets.now))
    c.args.self.now.members
    (nobody (targeted c.args.self.now.targets.now) (length c.args.self.now.dead.now.processes) (c.has_no_target.ensures.0 c.if-has_no_target.true))

pub returns-in-Some : goal.returns-in-Some
returns-in-Some c = λ deed only_one.
    uncovered_by c.least_is_first_found.ensures c.one_deed.ensures.some c.args.self.now.dead.now c.args.self.now.book.now c.args.self.now.actor deed c.args.kinds c.args.self.now.same only_one
    (targeted c.args.self.now.targets.now) c.args.self.now.members _ c.if-has_no_target.false c.has_no_target.ensures
    c.uncovered.result c.in-Some.process c.uncovered.ensures c.in-Some.is

pub returns-in-Some-barred : goal.returns-in-Some-barred
returns-in-Some-barred c = λ deed only_one.
    barred_by c.least_is_first_found.ensures c.one_deed.ensures.some c.args.self.now.dead.now c.args.self.now.book.now c.args.self.now.actor deed c.args.kinds c.args.self.now.same only_one
    (targeted c.args.self.now.targets.now) c.args.self.now.members _ c.if-has_no_target.false c.has_no_target.ensures
    c.uncovered.result c.barred.result _ c.uncovered.ensures c.in_default.is c.barred.ensures c.in-Some-barred.is

pub returns-in-None : goal.returns-in-None
returns-in-None c = λ deed only_one.
    barred_by c.least_is_first_found.ensures c.one_deed.ensures.some c.args.self.now.dead.now c.args.self.now.book.now c.args.self.now.actor deed c.args.kinds c.args.self.now.same only_one
    (targeted c.args.self.now.targets.now) c.args.self.now.members _ c.if-has_no_target.false c.has_no_target.ensures
    c.uncovered.result c.barred.result _ c.uncovered.ensures c.in_default.is c.barred.ensures c.in-None.is
