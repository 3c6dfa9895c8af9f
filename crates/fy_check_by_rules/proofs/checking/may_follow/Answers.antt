use Rattle.std.proofs.Common.{◌≡◌, ◌<◌, length, sym, ◌∙◌, subst, rules}
use Rattle.std.specs.Bool.{Decides}
use Rattle.fy_check_by_rules.proofs.Nexts.{not_known}
use Rattle.fy_check_by_rules.proofs.Following.{full, replied_so}
use Rattle.fy_check_by_rules.proofs.checking.may_follow.Goals as goal

pub returns-then-before-journal_limit-clause-next : goal.returns-then-before-journal_limit-clause-next
returns-then-before-journal_limit-clause-next c = λ so_far are place.
    full c.versions.ensures.next c.args.version c.args.before.now.config.now so_far c.args.entry.now c.args.before.now.steps.now are (search rules)

pub returns-then-not-knows-clause-next : goal.returns-then-not-knows-clause-next
returns-then-not-knows-clause-next c = λ so_far are place.
    not_known c.versions.ensures.next c.args.version c.args.before.now.config.now so_far c.args.entry.now are.legal (sym c.knows.ensures ∙ c.if-not-knows.true)

pub returns-clause-next : goal.returns-clause-next
returns-clause-next c = λ so_far are place.
    let e = c.args.entry.now in
    let answered = c.in_ok-reply.reply in
    let room : length c.args.before.now.steps.now < c.args.before.now.config.now.limit = search rules in
    replied_so c.versions.ensures.next c.args.version c.args.before.now.config.now so_far e c.args.before.now.steps.now answered c.eq.result are place room (sym c.knows.ensures ∙ c.if-not-knows.false) c.in_ok-reply.ensures
    (subst (λ b. Decides b (answered ≡ e.reply)) (sym c.eq.ensures) (c.equal_is_the_same.ensures.replies answered e.reply))
