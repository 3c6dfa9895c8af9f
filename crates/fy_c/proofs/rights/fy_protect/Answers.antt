use Rattle.fy_c.specs.Making.{IsProtectOf, NoKinds}
use Rattle.fy_c.proofs.Made.{makes_given}
use Rattle.fy_c.proofs.rights.fy_protect.Goals as goal

pub returns-clause-made : goal.returns-clause-made
returns-clause-made c =
    makes_given c.args.guard.now.value c.make_given.new.guard.value c.args.actor
    (IsProtectOf c.args.process c.args.kinds) (NoKinds c.args.kinds)
    c.protect_of-given.result c.make_given.result c.make_given.new.reply
    c.protect_of-given.ensures.given c.protect_of-given.ensures.not_given c.make_given.ensures.given
    c.make_given.ensures.not_given
