use Rattle.std.proofs.Common.{◌≡◌, ◌∙◌, sym, ap, subst}
use Rattle.std.specs.Bool.{Decides}
use Rattle.fy_cluster.specs.Execution.{entered, replied}
use Rattle.fy_c.proofs.Followed.{by_reply, entered_is, had_place}
use Rattle.fy_c.proofs.resuming.comes_next.Goals as goal

pub returns-in-Ok-clause-next : goal.returns-in-Ok-clause-next
returns-in-Ok-clause-next c =
    let execution = c.args.cluster.now in
    let e = c.args.entry in
    let parts = c.into_parts-by.ensures in
    let right = c.in-Ok.ensures.replied ∙ ap (λ p. replied execution p.1 p.2) parts in
    let same : Decides c.eq.result (c.in-Ok.made ≡ c.into_parts-by.result.3) =
    subst (λ b. Decides b (c.in-Ok.made ≡ c.into_parts-by.result.3)) (sym c.eq.ensures)
    (c.equal_is_the_same.ensures.replies c.in-Ok.made c.into_parts-by.result.3) in
    by_reply c.one_entry_more.ensures.next execution.setup execution.journal e
    c.in-Ok.made c.eq.result c.survives.ensures.legal
    (had_place _ _ c.in-Ok.made c.in-Ok.ensures.full) c.requires right
    (subst (λ p. Decides c.eq.result (c.in-Ok.made ≡ p.3)) parts same)

pub returns-in-Ok-clause-entered : goal.returns-in-Ok-clause-entered
returns-in-Ok-clause-entered c = λ t.
    let execution = c.args.cluster.now in
    let e = c.args.entry in
    let parts = c.into_parts-by.ensures in
    let right = c.in-Ok.ensures.replied ∙ ap (λ p. replied execution p.1 p.2) parts in
    let is = c.in-Ok.ensures.entered ∙ ap (λ p. entered execution p.1 p.2) parts in
    let same : Decides c.eq.result (c.in-Ok.made ≡ c.into_parts-by.result.3) =
    subst (λ b. Decides b (c.in-Ok.made ≡ c.into_parts-by.result.3)) (sym c.eq.ensures)
    (c.equal_is_the_same.ensures.replies c.in-Ok.made c.into_parts-by.result.3) in
    let told = subst (λ p. Decides c.eq.result (c.in-Ok.made ≡ p.3)) parts same in
    entered_is execution c.apply.new.self e c.in-Ok.made c.requires (told.0 t) right is
