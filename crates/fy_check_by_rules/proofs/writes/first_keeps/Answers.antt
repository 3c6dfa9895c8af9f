use Rattle.std.proofs.Common.{[], ◌≡◌, ◌<◌, length, get_or, cond, drop, ◌+◌, sym, ◌∙◌, ap, rules}
use Rattle.fy_cluster.specs.History.{close_keeps}
use Rattle.fy_check_by_rules.specs.Past.{as_step}
use Rattle.fy_check_by_rules.proofs.Written.{keeps_first, keeps-next}
use Rattle.fy_check_by_rules.proofs.writes.first_keeps.Goals as goal

pub loop-step-preserved : goal.loop-step-preserved
loop-step-preserved c =
    let later = c.args.later.now in
    let i = c.loop-step.step-index in
    let p = c.args.p.0 in
    let s = c.step-item.result in
    let within : i < length later = search rules in
    let is : s ≡ get_or later i s = search rules in
    c.loop-step.invariant ∙ keeps-next p c.args.place later i s within is
    ∙ ap (λ b. cond b (close_keeps p c.args.place (as_step [] s)) (keeps_first p c.args.place (drop (i + 1) later))) (sym c.closes.ensures ∙ c.if-closes.false)

pub returns-then-closes : goal.returns-then-closes
returns-then-closes c =
    let later = c.args.later.now in
    let i = c.loop-step.step-index in
    let p = c.args.p.0 in
    let s = c.step-item.result in
    let within : i < length later = search rules in
    let is : s ≡ get_or later i s = search rules in
    c.close_keeps.ensures ∙ sym (c.loop-step.invariant ∙ keeps-next p c.args.place later i s within is
    ∙ ap (λ b. cond b (close_keeps p c.args.place (as_step [] s)) (keeps_first p c.args.place (drop (i + 1) later))) (sym c.closes.ensures ∙ c.if-closes.true))
