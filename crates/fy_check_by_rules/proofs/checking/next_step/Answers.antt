use Rattle.std.proofs.Common.{subst}
use Rattle.fy_check_by_rules.proofs.Nexts.{Tells}
use Rattle.fy_check_by_rules.proofs.Following.{put_last}
use Rattle.fy_check_by_rules.proofs.checking.next_step.Goals as goal

pub returns-then-not-may-clause-next : goal.returns-then-not-may-clause-next
returns-then-not-may-clause-next c = λ so_far are place.
    subst (Tells c.args.version c.args.before.now.config.now so_far c.args.entry.now) c.if-not-may.true
    (c.in_ok-may.ensures.next so_far are place)

pub returns-clause-next : goal.returns-clause-next
returns-clause-next c = λ so_far are place.
    subst (Tells c.args.version c.args.before.now.config.now so_far c.args.entry.now) c.if-not-may.false
    (c.in_ok-may.ensures.next so_far are place)

pub returns-clause-put : goal.returns-clause-put
returns-clause-put c = λ so_far are place.
    let setup = c.args.before.now.config.now in
    let steps = c.args.before.now.steps.now in
    let step = c.in_ok-step.step in
    put_last c.one_entry_more.ensures.steps c.args.version setup so_far c.args.entry.now steps step are c.in_ok-step.ensures
    ((c.in_ok-may.ensures.next so_far are place).0 c.if-not-may.false)
