use Rattle.std.proofs.Common.{rules, ◌+◌, ◌≡◌, ◌∙◌, subst, sym, arith}
use Rattle.std.specs.Prelude.{Err, IfSome}
use Rattle.fy_lines.specs.Windows.{IsNext}
use Rattle.fy_audit.specs.Audit.{AuditOf}
use Rattle.fy_audit.specs.declared.audit.TheConstants.{MOST_AUDIT_BYTES}
use Rattle.fy_spelling.specs.declared.command.TheConstants.{MOST_LINE_BYTES}
use Rattle.fy_streams.specs.Stops.{IfAuditFault}
use Rattle.fy_streams.specs.declared.stop.Stop.TheVariants.{Read}
use Rattle.fy_guard.proofs.CutLemmas.{slid, one_dropped, none_left, none_behind, reads, most_read, unread, refused}
use Rattle.fy_guard.proofs.cut.cut_line.Goals as goal

pub returns-in-Err-clause-refused : goal.returns-in-Err-clause-refused
returns-in-Err-clause-refused g c =
    let known = g.A.Read.remaining c.args.audit.now in
    subst (λ stop. IfAuditFault stop (λ fault. IfSome known (λ bytes. AuditOf bytes (Err fault)))) (sym c.input_stop.ensures.stop)
    (refused _ _ _ c.loop-next.window c.find_line.new.self _ _ c.in-Err.fault c.loop-next.invariant
    c.find_line.ensures.slides c.in-Err.ensures.cut)

pub returns-in-Err-clause-read_fault : goal.returns-in-Err-clause-read_fault
returns-in-Err-clause-read_fault g c is =
    let now = c.find_line.new.self in
    let read : c.input_stop.result ≡ Read = cc in
    reads _ _ _ c.loop-next.window now _ _ MOST_AUDIT_BYTES c.loop-next.invariant c.find_line.ensures.slides
    (unread now.read c.in-Err.fault c.in-Err.ensures.cut (sym c.input_stop.ensures.stop ∙ read))

pub returns-in-Err-clause-no_further : goal.returns-in-Err-clause-no_further
returns-in-Err-clause-no_further g c =
    let now = c.find_line.new.self in
    reads _ _ _ c.loop-next.window now _ _ (MOST_AUDIT_BYTES + 1) c.loop-next.invariant c.find_line.ensures.slides
    (most_read now.read c.in-Err.fault c.in-Err.ensures.cut)

pub loop-next-preserved : goal.loop-next-preserved
loop-next-preserved g c =
    let now = c.find_line.new.self in
    let next = subst (IsNext now.held _ MOST_LINE_BYTES) c.in-Whole.is c.in-Ok.ensures.found in
    one_dropped _ _ now c.drop_front.new.self _ _ c.in-Whole.count
    (slid _ _ _ c.loop-next.window now _ _ c.loop-next.invariant c.find_line.ensures.slides c.in-Ok.ensures.within)
    next.0 next.1 c.drop_front.ensures.held c.drop_front.ensures.read

pub returns-in-Last-clause-no_further : goal.returns-in-Last-clause-no_further
returns-in-Last-clause-no_further g c =
    let within = c.in-Ok.ensures.within in
    reads _ _ _ c.loop-next.window c.find_line.new.self _ _ (MOST_AUDIT_BYTES + 1) c.loop-next.invariant
    c.find_line.ensures.slides (omega arith)

pub returns-in-Long-clause-none : goal.returns-in-Long-clause-none
returns-in-Long-clause-none g c = λ _.
    let now = c.find_line.new.self in
    let next = subst (IsNext now.held _ MOST_LINE_BYTES) c.in-Long.is c.in-Ok.ensures.found in
    none_behind _ _ now _ _
    (slid _ _ _ c.loop-next.window now _ _ c.loop-next.invariant c.find_line.ensures.slides c.in-Ok.ensures.within)
    next

pub returns-in-Long-clause-no_further : goal.returns-in-Long-clause-no_further
returns-in-Long-clause-no_further g c =
    let within = c.in-Ok.ensures.within in
    reads _ _ _ c.loop-next.window c.find_line.new.self _ _ (MOST_AUDIT_BYTES + 1) c.loop-next.invariant
    c.find_line.ensures.slides (omega arith)

pub returns-in-Last-eq0-clause-none : goal.returns-in-Last-eq0-clause-none
returns-in-Last-eq0-clause-none g c = λ _.
    let now = c.find_line.new.self in
    let next = subst (IsNext now.held _ MOST_LINE_BYTES) c.in-Last-eq0.is c.in-Ok.ensures.found in
    none_left _ _ now _ _ c.in-Last-eq0.field-0
    (slid _ _ _ c.loop-next.window now _ _ c.loop-next.invariant c.find_line.ensures.slides c.in-Ok.ensures.within)
    next.0 (search rules)
