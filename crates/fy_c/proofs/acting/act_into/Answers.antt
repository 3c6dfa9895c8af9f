use Rattle.std.proofs.Common.{length, refl, subst}
use Rattle.std.proofs.lemmas.Result.{err_from_is_err_and}
use Rattle.fy_c.specs.Acting.{Acts, IsShort, Tells}
use Rattle.fy_c.proofs.acting.act_into.Goals as goal

pub returns-then-buffer-room-clause-acted : goal.returns-then-buffer-room-clause-acted
returns-then-buffer-room-clause-acted c =
    Acts.short (record { asked_is = refl; short = c.if-buffer-room.true }) refl refl

pub returns-in_err-text-clause-acted : goal.returns-in_err-text-clause-acted
returns-in_err-text-clause-acted c =
    let p = err_from_is_err_and c.from_residual.result c.from_residual.ensures.1 in
    rw (p.1, p.2)
    (Acts.unanswered c.if-buffer-room.false c.in_err-text.field-0.0 c.in_err-text.ensures.err refl
    refl)

pub returns-then-tell-clause-acted : goal.returns-then-tell-clause-acted
returns-then-tell-clause-acted c =
    Acts.answered c.if-buffer-room.false c.in_ok-text.text.items c.in_ok-text.ensures.answered
    (subst (Tells c.args.buffer.now c.tell.new.buffer c.tell.new.told) c.deref.ensures.value
    (c.if-tell.ensures.told refl))

pub returns-clause-acted : goal.returns-clause-acted
returns-clause-acted c =
    Acts.too_long c.if-buffer-room.false c.in_ok-text.text.items c.in_ok-text.ensures.answered
    (subst (λ line. IsShort c.args.buffer.now (length line) c.tell.new.told) c.deref.ensures.value
    (c.if-tell.ensures.short refl))
    (c.if-tell.ensures.kept refl)
