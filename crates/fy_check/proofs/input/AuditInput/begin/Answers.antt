use Rattle.std.proofs.Common.{◌≡◌, ◌<◌, ◌+◌, length, subst, arith}
use Rattle.fy_lines.specs.Windows.{IsNext}
use Rattle.fy_spelling.specs.declared.command.TheConstants.{MOST_LINE_BYTES}
use Rattle.fy_audit.specs.Audit.{HasNoHeader}
use Rattle.fy_audit.specs.declared.audit.TheConstants.{MOST_AUDIT_BYTES}
use Rattle.fy_streams.specs.declared.stop.Stop.TheVariants.{Read}
use Rattle.fy_check.proofs.Taking.{header_tells, on_after_slide, first_reads, refused_most, refused_unread}
use Rattle.fy_check.proofs.Headers.{whole_line, long_line}
use Rattle.fy_check.proofs.input.AuditInput.begin.Goals as goal

pub returns-in-Ok-Long-clause-refused : goal.returns-in-Ok-Long-clause-refused
returns-in-Ok-Long-clause-refused g c =
    let first = c.in_ok-window.window in
    let now = c.find_line.new.self in
    let next = subst (IsNext now.held _ MOST_LINE_BYTES) c.in-Ok-Long.field-0-is c.in-Ok-Long.ensures.found in
    let longer = next.long in
    let long : 11 < length next.front = omega arith in
    header_tells _ _ _ first now c.refuse.new.window c.refuse.result c.find_line.ensures.slides c.in_ok-window.ensures.held
    c.in_ok-window.ensures.read c.refuse.ensures.read c.refuse.ensures.stop
    (λ more. long_line now.held next.front next.after more next.split next.whole long)

pub returns-in-Ok-Long-clause-read_fault : goal.returns-in-Ok-Long-clause-read_fault
returns-in-Ok-Long-clause-read_fault g c is =
    let first = c.in_ok-window.window in
    let now = c.find_line.new.self in
    let unread : c.refuse.result ≡ Read = cc in
    first_reads _ _ first c.refuse.new.window MOST_AUDIT_BYTES
    (on_after_slide first now c.refuse.new.window _ _ _ c.find_line.ensures.slides c.refuse.ensures.read)
    c.in_ok-window.ensures.read (refused_unread _ _ _ _ _ c.refuse.ensures.stop unread)

pub returns-in-Ok-Long-clause-no_further : goal.returns-in-Ok-Long-clause-no_further
returns-in-Ok-Long-clause-no_further g c =
    let first = c.in_ok-window.window in
    let now = c.find_line.new.self in
    first_reads _ _ first c.refuse.new.window (MOST_AUDIT_BYTES + 1)
    (on_after_slide first now c.refuse.new.window _ _ _ c.find_line.ensures.slides c.refuse.ensures.read)
    c.in_ok-window.ensures.read (refused_most _ _ _ _ _ c.refuse.ensures.stop)

pub returns-in-None-clause-refused : goal.returns-in-None-clause-refused
returns-in-None-clause-refused g c =
    let first = c.in_ok-window.window in
    let now = c.find_line.new.self in
    let refuse = c.refuse-in-None in
    let next = subst (IsNext now.held _ MOST_LINE_BYTES) c.in-Ok-Whole.field-0-is c.in-Ok-Whole.ensures.found in
    let none = subst HasNoHeader c.held-held.ensures c.in-None.ensures.none in
    header_tells _ _ _ first now refuse.new.window refuse.result c.find_line.ensures.slides c.in_ok-window.ensures.held
    c.in_ok-window.ensures.read refuse.ensures.read refuse.ensures.stop
    (λ more. whole_line now.held next.0.line next.0.after more next.0.split next.0.whole none)

pub returns-in-None-clause-read_fault : goal.returns-in-None-clause-read_fault
returns-in-None-clause-read_fault g c is =
    let first = c.in_ok-window.window in
    let now = c.find_line.new.self in
    let refuse = c.refuse-in-None in
    let unread : c.refuse-in-None.result ≡ Read = cc in
    first_reads _ _ first refuse.new.window MOST_AUDIT_BYTES
    (on_after_slide first now refuse.new.window _ _ _ c.find_line.ensures.slides refuse.ensures.read)
    c.in_ok-window.ensures.read (refused_unread _ _ _ _ _ refuse.ensures.stop unread)

pub returns-in-None-clause-no_further : goal.returns-in-None-clause-no_further
returns-in-None-clause-no_further g c =
    let first = c.in_ok-window.window in
    let now = c.find_line.new.self in
    let refuse = c.refuse-in-None in
    first_reads _ _ first refuse.new.window (MOST_AUDIT_BYTES + 1)
    (on_after_slide first now refuse.new.window _ _ _ c.find_line.ensures.slides refuse.ensures.read)
    c.in_ok-window.ensures.read (refused_most _ _ _ _ _ refuse.ensures.stop)
