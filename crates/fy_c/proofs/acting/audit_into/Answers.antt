use Rattle.std.proofs.Common.{length, refl, subst}
use Rattle.std.proofs.lemmas.Result.{err_from_is_err_and}
use Rattle.fy_c.specs.Acting.{Reads, Tells, IsShort}
use Rattle.fy_c.proofs.acting.audit_into.Goals as goal

pub returns-in_err-line : goal.returns-in_err-line
returns-in_err-line c =
    let p = err_from_is_err_and c.from_residual.result c.from_residual.ensures.1 in
    rw (p.1, p.2) (Reads.not_read c.in_err-line.field-0.0 c.in_err-line.ensures.err refl refl)

pub returns-then-tell : goal.returns-then-tell
returns-then-tell c =
    Reads.read c.in_ok-line.line.items c.in_ok-line.ensures.line
    (subst (Tells c.args.buffer.now c.tell.new.buffer c.tell.new.told) c.deref.ensures.value
    (c.if-tell.ensures.told refl))

pub returns : goal.returns
returns c =
    Reads.short c.in_ok-line.line.items c.in_ok-line.ensures.line
    (subst (λ line. IsShort c.args.buffer.now (length line) c.tell.new.told) c.deref.ensures.value
    (c.if-tell.ensures.short refl))
    (c.if-tell.ensures.kept refl)
