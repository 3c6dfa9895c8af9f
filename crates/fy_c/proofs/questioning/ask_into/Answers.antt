use Rattle.std.proofs.Common.{length, refl, subst}
use Rattle.std.proofs.lemmas.Result.{err_from_is_err_and}
use Rattle.fy_c.specs.Acting.{Tells, IsShort}
use Rattle.fy_c.specs.Questioning.{Asks}
use Rattle.fy_c.proofs.questioning.ask_into.Goals as goal

pub returns-in_err-text : goal.returns-in_err-text
returns-in_err-text c =
    let p = err_from_is_err_and c.from_residual.result c.from_residual.ensures.1 in
    rw (p.1, p.2) (Asks.not_told c.in_err-text.field-0.0 c.in_err-text.ensures.err refl refl)

pub returns-then-tell : goal.returns-then-tell
returns-then-tell c =
    Asks.told_it c.in_ok-text.text.items c.in_ok-text.ensures.told
    (subst (Tells c.args.buffer.now c.tell.new.buffer c.tell.new.told) c.deref.ensures.value (c.if-tell.ensures.told refl))

pub returns : goal.returns
returns c =
    Asks.short c.in_ok-text.text.items c.in_ok-text.ensures.told
    (subst (λ line. IsShort c.args.buffer.now (length line) c.tell.new.told) c.deref.ensures.value (c.if-tell.ensures.short refl))
    (c.if-tell.ensures.kept refl)
