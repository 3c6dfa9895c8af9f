use Rattle.std.proofs.Common.{true, false, not, sym, ap, ◌∙◌}
use Rattle.std.specs.FinSet as sets
use Rattle.std.specs.Prelude.{is_some}
use Rattle.fy_decide.specs.Safety.{first_satisfied, first_short, with_set, without_set}
use Rattle.fy_decide.proofs.Tallying.{many_found, few_found, not-not, refused, emptied, gone, may-of-test}
use Rattle.fy_decide.proofs.dead_book.DeadBook.may_destroy.Goals as goal

pub returns-then-is_some-clause-test : goal.returns-then-is_some-clause-test
returns-then-is_some-clause-test c = refused c.args.self.now (sets.contains c.args.set.now) c.args.loss c.is_some.result (c.is_some.ensures ∙ ap is_some c.too_many_destroyed.ensures ∙ ap (λ t. is_some (first_satisfied c.args.self.now.processes c.args.self.now.policies (with_set (sets.contains c.args.self.now.destroyed) (sets.contains t)))) c.of-targets.ensures ∙ many_found c.args.self.now (sets.contains c.args.set.now)) c.if-is_some.true

pub returns-then-is_some-clause-relation : goal.returns-then-is_some-clause-relation
returns-then-is_some-clause-relation c = may-of-test c.test_is_satisfaction.ensures c.args.self.now (sets.contains c.args.set.now) c.args.loss false (refused c.args.self.now (sets.contains c.args.set.now) c.args.loss c.is_some.result (c.is_some.ensures ∙ ap is_some c.too_many_destroyed.ensures ∙ ap (λ t. is_some (first_satisfied c.args.self.now.processes c.args.self.now.policies (with_set (sets.contains c.args.self.now.destroyed) (sets.contains t)))) c.of-targets.ensures ∙ many_found c.args.self.now (sets.contains c.args.set.now)) c.if-is_some.true)

pub returns-in-Emptied-clause-test : goal.returns-in-Emptied-clause-test
returns-in-Emptied-clause-test c = emptied c.args.self.now (sets.contains c.args.set.now) c.args.loss c.is_some.result c.in-Emptied.is (c.is_some.ensures ∙ ap is_some c.too_many_destroyed.ensures ∙ ap (λ t. is_some (first_satisfied c.args.self.now.processes c.args.self.now.policies (with_set (sets.contains c.args.self.now.destroyed) (sets.contains t)))) c.of-targets.ensures ∙ many_found c.args.self.now (sets.contains c.args.set.now)) c.if-is_some.false

pub returns-in-Emptied-clause-relation : goal.returns-in-Emptied-clause-relation
returns-in-Emptied-clause-relation c = may-of-test c.test_is_satisfaction.ensures c.args.self.now (sets.contains c.args.set.now) c.args.loss true (emptied c.args.self.now (sets.contains c.args.set.now) c.args.loss c.is_some.result c.in-Emptied.is (c.is_some.ensures ∙ ap is_some c.too_many_destroyed.ensures ∙ ap (λ t. is_some (first_satisfied c.args.self.now.processes c.args.self.now.policies (with_set (sets.contains c.args.self.now.destroyed) (sets.contains t)))) c.of-targets.ensures ∙ many_found c.args.self.now (sets.contains c.args.set.now)) c.if-is_some.false)

pub returns-in-Gone-clause-test : goal.returns-in-Gone-clause-test
returns-in-Gone-clause-test c = sym (not-not c.is_none.result) ∙ ap not (sym c.is_none.ensures) ∙ gone c.args.self.now (sets.contains c.args.set.now) c.args.loss c.is_some.result (is_some c.too_few_left.result) c.in-Gone.is (c.is_some.ensures ∙ ap is_some c.too_many_destroyed.ensures ∙ ap (λ t. is_some (first_satisfied c.args.self.now.processes c.args.self.now.policies (with_set (sets.contains c.args.self.now.destroyed) (sets.contains t)))) c.of-targets.ensures ∙ many_found c.args.self.now (sets.contains c.args.set.now)) c.if-is_some.false (ap is_some c.too_few_left.ensures ∙ ap (λ t. is_some (first_short c.args.self.now.processes c.args.self.now.policies (without_set (sets.contains c.args.self.now.left) (sets.contains t)))) c.of-targets.ensures ∙ few_found c.args.self.now (sets.contains c.args.set.now))

pub returns-in-Gone-clause-relation : goal.returns-in-Gone-clause-relation
returns-in-Gone-clause-relation c = may-of-test c.test_is_satisfaction.ensures c.args.self.now (sets.contains c.args.set.now) c.args.loss c.is_none.result (sym (not-not c.is_none.result) ∙ ap not (sym c.is_none.ensures) ∙ gone c.args.self.now (sets.contains c.args.set.now) c.args.loss c.is_some.result (is_some c.too_few_left.result) c.in-Gone.is (c.is_some.ensures ∙ ap is_some c.too_many_destroyed.ensures ∙ ap (λ t. is_some (first_satisfied c.args.self.now.processes c.args.self.now.policies (with_set (sets.contains c.args.self.now.destroyed) (sets.contains t)))) c.of-targets.ensures ∙ many_found c.args.self.now (sets.contains c.args.set.now)) c.if-is_some.false (ap is_some c.too_few_left.ensures ∙ ap (λ t. is_some (first_short c.args.self.now.processes c.args.self.now.policies (without_set (sets.contains c.args.self.now.left) (sets.contains t)))) c.of-targets.ensures ∙ few_found c.args.self.now (sets.contains c.args.set.now)))
