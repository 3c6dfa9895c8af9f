use Rattle.fy_c.specs.Making.{IsUnclogOf}
use Rattle.fy_c.specs.Sets.{NoTarget}
use Rattle.fy_c.proofs.Made.{makes_given}
use Rattle.fy_c.proofs.clogging.fy_unclog.Goals as goal

pub returns-clause-made : goal.returns-clause-made
returns-clause-made c =
    makes_given c.args.guard.now.value c.make_given.new.guard.value c.args.actor
    (IsUnclogOf c.args.key c.args.value.now) (NoTarget c.args.key c.args.value.now)
    c.unclog_of-given.result c.make_given.result c.make_given.new.reply
    c.unclog_of-given.ensures.given c.unclog_of-given.ensures.not_given c.make_given.ensures.given
    c.make_given.ensures.not_given
