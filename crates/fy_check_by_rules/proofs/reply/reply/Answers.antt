use Rattle.std.proofs.Common.{sym, ◌∙◌}
use Rattle.fy_check_by_rules.specs.Past.{history_of}
use Rattle.fy_check_by_rules.proofs.Roles.{stranger, wrong_role, allowed_so}
use Rattle.fy_check_by_rules.proofs.reply.reply.Goals as goal

pub returns-in_default : goal.returns-in_default
returns-in_default c = stranger c.args.before.now.config.now (history_of c.args.before.now) c.args.by c.args.act.now (sym c.in_default.ensures)

pub returns-then-not-may : goal.returns-then-not-may
returns-then-not-may c =
    wrong_role c.args.before.now.config.now (history_of c.args.before.now) c.args.by c.args.act.now c.in-Some.role (sym c.in-Some.ensures) (sym c.may.ensures ∙ c.if-not-may.true)

pub returns : goal.returns
returns c =
    c.in_ok-answer.ensures ∙ allowed_so c.args.before.now c.args.by c.args.act.now c.in-Some.role (sym c.in-Some.ensures) (sym c.may.ensures ∙ c.if-not-may.false)
