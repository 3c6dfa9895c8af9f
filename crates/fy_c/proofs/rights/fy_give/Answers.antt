use Rattle.fy_c.specs.Making.{IsGiveOf, NoGive}
use Rattle.fy_c.proofs.Made.{makes_given}
use Rattle.fy_c.proofs.rights.fy_give.Goals as goal

pub returns-clause-made : goal.returns-clause-made
returns-clause-made c =
    makes_given c.args.guard.now.value c.make_given.new.guard.value c.args.actor
    (IsGiveOf c.args.to c.args.kinds c.args.key c.args.value.now) (NoGive c.args.kinds c.args.key c.args.value.now)
    c.give_of-given.result c.make_given.result c.make_given.new.reply
    c.give_of-given.ensures.given c.give_of-given.ensures.not_given c.make_given.ensures.given
    c.make_given.ensures.not_given
