use Rattle.std.proofs.Common.{◌≡◌, ◌==◌, not, ◌&&◌, false, filter, ◌∙◌, ap, rules}
use Rattle.fy_locality.specs.declared.ProcId.{ProcId}
use Rattle.fy_team.specs.Teams.{is_among}
use Rattle.fy_check_by_rules.proofs.Among.{among-without, healed_at}
use Rattle.fy_check_by_rules.proofs.marks.still_marked.Goals as goal

pub returns-in_ok-list-in-Some : goal.returns-in_ok-list-in-Some
returns-in_ok-list-in-Some c = λ p.
    let marked = c.args.were.now.marked.items in
    let healed = c.in-Some.healed in
    let without : c.in_ok-list-in-Some.list.items ≡ filter (λ (x : ProcId). not (x.0 == healed.0)) marked = search rules in
    let open_yet : c.args.were.now.acked ≡ false = search rules in
    ap (λ ps. is_among ps p) without ∙ among-without marked healed p ∙ ap (λ b. not b && is_among marked p) (healed_at c.args.step.now healed c.args.were.now.acked p c.in-Some.ensures open_yet)
