use Rattle.std.proofs.Common.{rules, ◌≡◌, ◌∙◌, ◌<◌, ◌+◌, ◌∷◌, ◌++◌, Err, length, take, take_at, length-append, refl, sym, ap, subst, arith}
use Rattle.fy_lines.specs.Windows.{IsNext}
use Rattle.fy_spelling.specs.declared.command.TheConstants.{MOST_LINE_BYTES}
use Rattle.fy_audit.specs.Audit.{BeginsWith}
use Rattle.fy_audit.specs.declared.audit.TheConstants.{MOST_AUDIT_BYTES}
use Rattle.fy_audit.specs.declared.audit.AuditLineFault.TheVariants as of_line
use Rattle.fy_streams.specs.declared.stop.Stop.TheVariants.{Read}
use Rattle.fy_check.specs.Inputs.{HasTaken, TellsFault}
use Rattle.fy_check.proofs.Taking.{slid, taken_on, taken_one, reads_at_most, cut_most, cut_unread, last_faulty, long_ahead, syntax_ahead, refused_tells, refused_most, refused_unread}
use Rattle.fy_check.proofs.input.AuditInput.next_entry.Goals as goal

pub returns-in-Err-clause-read_fault : goal.returns-in-Err-clause-read_fault
returns-in-Err-clause-read_fault g c is known entries taken =
    let input = c.self.inside in
    let now = c.find_line.new.self in
    let unread : c.input_stop.result ≡ Read = cc in
    let few = cut_unread now.read c.in-Err.fault c.in-Err.ensures.cut (sym c.input_stop.ensures.stop ∙ unread) in
    reads_at_most known _ _ entries input.version input.place MOST_AUDIT_BYTES input.window now
    (subst (HasTaken known _ entries) (sym c.self.view_is) taken) (slid _ _ _ _ c.find_line.ensures.slides) few

pub returns-in-Err-clause-no_further : goal.returns-in-Err-clause-no_further
returns-in-Err-clause-no_further g c known entries taken =
    let input = c.self.inside in
    let now = c.find_line.new.self in
    reads_at_most known _ _ entries input.version input.place (MOST_AUDIT_BYTES + 1) input.window now
    (subst (HasTaken known _ entries) (sym c.self.view_is) taken) (slid _ _ _ _ c.find_line.ensures.slides)
    (cut_most now.read c.in-Err.fault c.in-Err.ensures.cut)

pub returns-in-Last-clause-refused : goal.returns-in-Last-clause-refused
returns-in-Last-clause-refused g c known entries taken =
    let input = c.self.inside in
    let now = c.find_line.new.self in
    let last = subst (IsNext now.held _ MOST_LINE_BYTES) c.in-Last.is c.in-Ok.ensures.found in
    let long = last.0.long in
    let few = last.1 in
    let some : 0 < length now.held = search rules in
    subst (TellsFault known) (sym c.line_stop.ensures)
    (last_faulty known _ entries input.version input.place now
    (taken_on known _ _ entries input.version input.place input.window now
    (subst (HasTaken known _ entries) (sym c.self.view_is) taken) c.find_line.ensures.slides c.in-Ok.ensures.within)
    last.0.end last.0.whole some (omega arith))

pub returns-in-Last-clause-no_further : goal.returns-in-Last-clause-no_further
returns-in-Last-clause-no_further g c known entries taken =
    let input = c.self.inside in
    let within = c.in-Ok.ensures.within in
    reads_at_most known _ _ entries input.version input.place (MOST_AUDIT_BYTES + 1) input.window c.find_line.new.self
    (subst (HasTaken known _ entries) (sym c.self.view_is) taken) (slid _ _ _ _ c.find_line.ensures.slides) (omega arith)

pub returns-in-Long-clause-refused : goal.returns-in-Long-clause-refused
returns-in-Long-clause-refused g c known entries taken =
    let input = c.self.inside in
    let now = c.find_line.new.self in
    let long = subst (IsNext now.held _ MOST_LINE_BYTES) c.in-Long.is c.in-Ok.ensures.found in
    refused_tells known _ _ entries input.version input.place now c.refuse.new.window of_line.TooLong c.refuse.result
    (taken_on known _ _ entries input.version input.place input.window now
    (subst (HasTaken known _ entries) (sym c.self.view_is) taken) c.find_line.ensures.slides c.in-Ok.ensures.within)
    c.refuse.ensures.read c.refuse.ensures.stop (long_ahead input.version input.place now.held long)

pub returns-in-Long-clause-read_fault : goal.returns-in-Long-clause-read_fault
returns-in-Long-clause-read_fault g c is known entries taken =
    let input = c.self.inside in
    let now = c.find_line.new.self in
    let unread : c.refuse.result ≡ Read = cc in
    reads_at_most known _ _ entries input.version input.place MOST_AUDIT_BYTES now c.refuse.new.window
    (taken_on known _ _ entries input.version input.place input.window now
    (subst (HasTaken known _ entries) (sym c.self.view_is) taken) c.find_line.ensures.slides c.in-Ok.ensures.within)
    c.refuse.ensures.read (refused_unread _ _ _ _ _ c.refuse.ensures.stop unread)

pub returns-in-Long-clause-no_further : goal.returns-in-Long-clause-no_further
returns-in-Long-clause-no_further g c known entries taken =
    let input = c.self.inside in
    let now = c.find_line.new.self in
    reads_at_most known _ _ entries input.version input.place (MOST_AUDIT_BYTES + 1) now c.refuse.new.window
    (taken_on known _ _ entries input.version input.place input.window now
    (subst (HasTaken known _ entries) (sym c.self.view_is) taken) c.find_line.ensures.slides c.in-Ok.ensures.within)
    c.refuse.ensures.read (refused_most _ _ _ _ _ c.refuse.ensures.stop)

pub returns-in-Ok-read_entry_at-clause-taken : goal.returns-in-Ok-read_entry_at-clause-taken
returns-in-Ok-read_entry_at-clause-taken g c =
    let input = c.self.inside in
    let was = input.window in
    let now = c.find_line.new.self in
    let slides = c.find_line.ensures.slides in
    let count = c.in-Whole.count in
    let next = subst (IsNext now.held _ MOST_LINE_BYTES) c.in-Whole.is c.in-Ok.ensures.found in
    let line = next.0.line in
    let after = next.0.after in
    let same : take count c.held.result.now ≡ line =
    ap (take count) (c.held.ensures ∙ next.0.split) ∙ take_at line (10 ∷ after) count next.0.long in
    let entry = c.in-Ok-read_entry_at.entry in
    let begins = subst (λ l. BeginsWith input.version input.place (l ++ 10 ∷ after) entry after) same
    (c.in-Ok-read_entry_at.ensures.found after) in
    let fits = c.self.invariant in
    let counted = slides.counted in
    let held = ap length slides.held in
    let parts = length-append was.held slides.more in
    let split = ap length next.0.split in
    let halves = length-append line (10 ∷ after) in
    let within = c.in-Ok.ensures.within in
    rw (← c.self.view_is) (record {
      taken = λ known entries taken. taken_one known _ entries entry input.version input.place count now c.drop_front.new.self
          line after (taken_on known _ _ entries input.version input.place was now taken slides within)
          next.0.split next.0.long begins c.drop_front.ensures.held c.drop_front.ensures.read;
      at = begins.may.at;
      place = refl;
      few = omega arith;
      version = refl;
    })

pub returns-in-Ok-read_entry_at-clause-no_further : goal.returns-in-Ok-read_entry_at-clause-no_further
returns-in-Ok-read_entry_at-clause-no_further g c known entries taken =
    let input = c.self.inside in
    let within = c.in-Ok.ensures.within in
    reads_at_most known _ _ entries input.version input.place (MOST_AUDIT_BYTES + 1) input.window c.find_line.new.self
    (subst (HasTaken known _ entries) (sym c.self.view_is) taken) (slid _ _ _ _ c.find_line.ensures.slides) (omega arith)

pub returns-in-Err-Syntax-clause-refused : goal.returns-in-Err-Syntax-clause-refused
returns-in-Err-Syntax-clause-refused g c known entries taken =
    let input = c.self.inside in
    let now = c.find_line.new.self in
    let refuse = c.refuse-in-Err-Syntax in
    let count = c.in-Whole.count in
    let next = subst (IsNext now.held _ MOST_LINE_BYTES) c.in-Whole.is c.in-Ok.ensures.found in
    let line = next.0.line in
    let after = next.0.after in
    let same : take count c.held.result.now ≡ line =
    ap (take count) (c.held.ensures ∙ next.0.split) ∙ take_at line (10 ∷ after) count next.0.long in
    refused_tells known _ _ entries input.version input.place now refuse.new.window of_line.Syntax refuse.result
    (taken_on known _ _ entries input.version input.place input.window now
    (subst (HasTaken known _ entries) (sym c.self.view_is) taken) c.find_line.ensures.slides c.in-Ok.ensures.within)
    refuse.ensures.read refuse.ensures.stop
    (syntax_ahead input.version input.place now.held line _ after next.0.split same
    (c.in-Err-Syntax.ensures.none (ap Err c.in-Err-Syntax.field-0-is)))

pub returns-in-Err-Syntax-clause-read_fault : goal.returns-in-Err-Syntax-clause-read_fault
returns-in-Err-Syntax-clause-read_fault g c is known entries taken =
    let input = c.self.inside in
    let now = c.find_line.new.self in
    let refuse = c.refuse-in-Err-Syntax in
    let unread : c.refuse-in-Err-Syntax.result ≡ Read = cc in
    reads_at_most known _ _ entries input.version input.place MOST_AUDIT_BYTES now refuse.new.window
    (taken_on known _ _ entries input.version input.place input.window now
    (subst (HasTaken known _ entries) (sym c.self.view_is) taken) c.find_line.ensures.slides c.in-Ok.ensures.within)
    refuse.ensures.read (refused_unread _ _ _ _ _ refuse.ensures.stop unread)

pub returns-in-Err-Syntax-clause-no_further : goal.returns-in-Err-Syntax-clause-no_further
returns-in-Err-Syntax-clause-no_further g c known entries taken =
    let input = c.self.inside in
    let now = c.find_line.new.self in
    let refuse = c.refuse-in-Err-Syntax in
    reads_at_most known _ _ entries input.version input.place (MOST_AUDIT_BYTES + 1) now refuse.new.window
    (taken_on known _ _ entries input.version input.place input.window now
    (subst (HasTaken known _ entries) (sym c.self.view_is) taken) c.find_line.ensures.slides c.in-Ok.ensures.within)
    refuse.ensures.read (refused_most _ _ _ _ _ refuse.ensures.stop)

pub returns-in-Err-NoMemory-clause-no_further : goal.returns-in-Err-NoMemory-clause-no_further
returns-in-Err-NoMemory-clause-no_further g c known entries taken =
    let input = c.self.inside in
    let within = c.in-Ok.ensures.within in
    reads_at_most known _ _ entries input.version input.place (MOST_AUDIT_BYTES + 1) input.window c.find_line.new.self
    (subst (HasTaken known _ entries) (sym c.self.view_is) taken) (slid _ _ _ _ c.find_line.ensures.slides) (omega arith)
