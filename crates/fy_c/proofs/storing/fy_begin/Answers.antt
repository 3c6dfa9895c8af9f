use Rattle.std.proofs.Common.{subst}
use Rattle.fy_c.specs.Making.{MakesGiven, IsBeginOf, NoBegin}
use Rattle.fy_c.proofs.Made.{makes_given}
use Rattle.fy_c.proofs.storing.fy_begin.Goals as goal

pub returns-clause-made : goal.returns-clause-made
returns-clause-made c =
    subst
    (λ old. MakesGiven old c.make_given.new.guard.value c.args.actor
    (IsBeginOf c.args.team c.args.payload.now) (NoBegin old c.args.payload.now)
    c.make_given.result c.make_given.new.reply)
    c.cluster.ensures.value
    (makes_given c.cluster.result.now c.make_given.new.guard.value c.args.actor
    (IsBeginOf c.args.team c.args.payload.now)
    (NoBegin c.cluster.result.now c.args.payload.now)
    c.begin_of-given.result c.make_given.result c.make_given.new.reply
    c.begin_of-given.ensures.given c.begin_of-given.ensures.not_given c.make_given.ensures.given
    c.make_given.ensures.not_given)
