use Rattle.std.proofs.Common.{subst}
use Rattle.fy_c.specs.Making.{MakesGiven, IsFormOf, NoForm}
use Rattle.fy_c.proofs.Made.{makes_given}
use Rattle.fy_c.proofs.storing.fy_form.Goals as goal

pub returns-clause-made : goal.returns-clause-made
returns-clause-made c =
    subst
    (λ old. MakesGiven old c.make_given.new.guard.value c.args.actor
    (IsFormOf c.args.members.now c.args.policy) (NoForm old c.args.members.now)
    c.make_given.result c.make_given.new.reply)
    c.cluster.ensures.value
    (makes_given c.cluster.result.now c.make_given.new.guard.value c.args.actor
    (IsFormOf c.args.members.now c.args.policy)
    (NoForm c.cluster.result.now c.args.members.now)
    c.form_of-given.result c.make_given.result c.make_given.new.reply
    c.form_of-given.ensures.given c.form_of-given.ensures.not_given c.make_given.ensures.given
    c.make_given.ensures.not_given)
