use Rattle.std.proofs.Common.{◌≡◌, refl, sym, ◌∙◌, ap, subst}
use Rattle.std.specs.Bool.{Decides}
use Rattle.fy_acts.specs.declared.entry.Entry.{Entry}
use Rattle.fy_cluster.specs.Execution.{entered, next_entry}
use Rattle.fy_replay.proofs.Nexts.{had_place, by_reply, entered_is}
use Rattle.fy_replay.proofs.replaying.comes_next.Goals as goal

pub returns-in-Ok-clause-next : goal.returns-in-Ok-clause-next
returns-in-Ok-clause-next c =
    let execution = c.args.state.now in
    let e = c.args.entry in
    let parts = c.into_parts-by.ensures in
    let made = c.in-Ok.ensures.entry ∙ ap (λ p. next_entry execution p.1 p.2) parts in
    let right = ap (λ (entry : Entry). entry.reply) made in
    let same : Decides c.eq.result (c.in-Ok.made.reply ≡ c.into_parts-by.result.3) =
    subst (λ b. Decides b (c.in-Ok.made.reply ≡ c.into_parts-by.result.3)) (sym c.eq.ensures)
    (c.equal_is_the_same.ensures.replies c.in-Ok.made.reply c.into_parts-by.result.3) in
    by_reply c.versions.ensures.next c.args.version execution.setup execution.journal e
    c.in-Ok.made.reply c.eq.result c.requires.legal (sym c.knows.ensures ∙ c.if-not-knows.false)
    (had_place _ _ c.in-Ok.made c.in-Ok.ensures.full) c.requires.place right
    (subst (λ p. Decides c.eq.result (c.in-Ok.made.reply ≡ p.3)) parts same)

pub returns-in-Ok-clause-entered : goal.returns-in-Ok-clause-entered
returns-in-Ok-clause-entered c = λ t.
    let execution = c.args.state.now in
    let e = c.args.entry in
    let parts = c.into_parts-by.ensures in
    let made = c.in-Ok.ensures.entry ∙ ap (λ p. next_entry execution p.1 p.2) parts in
    let right = ap (λ (entry : Entry). entry.reply) made in
    let is = c.in-Ok.ensures.entered ∙ ap (λ p. entered execution p.1 p.2) parts in
    let same : Decides c.eq.result (c.in-Ok.made.reply ≡ c.into_parts-by.result.3) =
    subst (λ b. Decides b (c.in-Ok.made.reply ≡ c.into_parts-by.result.3)) (sym c.eq.ensures)
    (c.equal_is_the_same.ensures.replies c.in-Ok.made.reply c.into_parts-by.result.3) in
    let told = subst (λ p. Decides c.eq.result (c.in-Ok.made.reply ≡ p.3)) parts same in
    entered_is execution c.enter.new.self e e.act c.in-Ok.made.reply refl c.requires.place (told.0 t) right is
