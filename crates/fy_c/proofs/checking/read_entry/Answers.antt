use Rattle.std.proofs.Common.{◌∙◌, ◌+◌, ◌-◌, ◌<◌, ◌≤◌, ◌++◌, ◌∷◌, [], ℕ, List, length, refl, sym, ap, subst, arith, append-nil, length-append}
use Rattle.std.specs.Prelude.{Ok}
use Rattle.std.proofs.lemmas.Bool.{false≢true}
use Rattle.std.proofs.lemmas.Result.{err_from_is_err_and}
use Rattle.fy_audit.specs.Audit.{Audit, AuditOf, BeginsWith}
use Rattle.fy_audit.specs.Reading.{ReaderState, Stops}
use Rattle.fy_audit.specs.declared.audit.AuditFault.{AuditFault}
use Rattle.fy_audit.specs.declared.audit.AuditFault.TheVariants.{Line}
use Rattle.fy_audit.specs.declared.audit.AuditLineFault.TheVariants.{TooLong}
use Rattle.fy_audit.specs.declared.audit.TheConstants.{MOST_AUDIT_BYTES}
use Rattle.fy_replay.specs.Replayed.{HasReplayed}
use Rattle.fy_cluster.specs.Setup.{Setup}
use Rattle.fy_c.specs.Progress.{Progress}
use Rattle.fy_c.specs.Checking.{HasProgress, MayBeRead, Refuses, audit_status}
use Rattle.fy_c.proofs.Lined.{stopped, may_be_read, has_no_room, empty_line, some_bytes, entry_and_more, begun_at, grown}
use Rattle.fy_c.proofs.checking.read_entry.Goals as goal

pub returns-then-line-saturating_sub-clause-refused :
    goal.returns-then-line-saturating_sub-clause-refused
returns-then-line-saturating_sub-clause-refused c =
    let line = c.args.line.now in
    Refuses.too_long (λ bytes has. has_no_room bytes line c.begun.inside.bytes
    (ap (λ (it : Progress). it.bytes) c.begun.view_is ∙ has.1.long)
    (subst (λ n. n < length line) c.saturating_sub.ensures c.if-line-saturating_sub.true))

pub returns-then-is_empty-clause-refused : goal.returns-then-is_empty-clause-refused
returns-then-is_empty-clause-refused c =
    Refuses.empty (empty_line c.args.line.now (sym c.is_empty.ensures ∙ c.if-is_empty.true))
    (λ bytes has.
    let audit : Audit = record {
      version = c.args.begun.now.replayed.version;
      entries = has.1.entries;
    } in
    (audit, subst (λ text. AuditOf text (Ok audit)) (sym (append-nil bytes)) has.1.audit))

pub returns-then-front-gt-MOST_LINE_BYTES-clause-refused :
    goal.returns-then-front-gt-MOST_LINE_BYTES-clause-refused
returns-then-front-gt-MOST_LINE_BYTES-clause-refused c =
    let line = c.args.line.now in
    let now = c.args.begun.now in
    let WasRead : List ℕ → Type 0 = λ bytes. (setup : Setup) × HasProgress setup bytes now in
    let state : ReaderState = record {
      version = c.begun.inside.version;
      place = c.begun.inside.count;
      rest = line;
    } in
    let fits = subst (λ n. length line ≤ n) c.saturating_sub.ensures
    c.if-line-saturating_sub.false in
    let fault : AuditFault = Line (now.count + 2) TooLong in
    let stops : Stops state fault = (
      ap (λ (it : Progress). it.count + 2) (sym c.begun.view_is),
      record {
        line = c.first_line.result.0.now;
        after = _;
        first = c.first_line.ensures.first;
        is = c.if-front-gt-MOST_LINE_BYTES.true;
      },
    ) in
    Refuses.faulty TooLong
    (λ bytes has. c.an_audit_is_read_entry_by_entry.ensures.stopped (bytes ++ line) has.1.entries
    state fault (begun_at has.0 bytes line c.begun.inside now state c.begun.view_is
    c.begun.invariant.version refl fits has.1) stops)

pub returns-in_err-entry-clause-refused : goal.returns-in_err-entry-clause-refused
returns-in_err-entry-clause-refused c =
    let p = err_from_is_err_and c.from_residual.result c.from_residual.ensures.1 in
    let line = c.args.line.now in
    let now = c.args.begun.now in
    let state = c.resume-reader.result in
    let WasRead : List ℕ → Type 0 = λ bytes. (setup : Setup) × HasProgress setup bytes now in
    let fits = subst (λ n. length line ≤ n) c.saturating_sub.ensures
    c.if-line-saturating_sub.false in
    rw (p.1, p.2)
    (subst (λ place. Refuses WasRead (place + 2) line (audit_status c.in_err-entry.field-0.0))
    (ap (λ (it : ReaderState). it.place) c.resume-reader.ensures
    ∙ ap (λ (it : Progress). it.count) c.begun.view_is)
    (stopped WasRead state line c.in_err-entry.field-0.0 c.in_err-entry.ensures.stopped
    (subst (λ place. MayBeRead WasRead (place + 2) line)
    (sym (ap (λ (it : ReaderState). it.place) c.resume-reader.ensures
    ∙ ap (λ (it : Progress). it.count) c.begun.view_is))
    (may_be_read line c.first_line.result.0.now _ now
    (subst (λ n. length line ≤ MOST_AUDIT_BYTES - n)
    (ap (λ (it : Progress). it.bytes) c.begun.view_is) fits)
    c.first_line.ensures.first c.if-front-gt-MOST_LINE_BYTES.false))
    (λ bytes has. c.an_audit_is_read_entry_by_entry.ensures.stopped (bytes ++ line) has.1.entries
    state c.in_err-entry.field-0.0
    (begun_at has.0 bytes line c.begun.inside now state c.begun.view_is c.begun.invariant.version
    c.resume-reader.ensures fits has.1) c.in_err-entry.ensures.stopped)))

pub returns-then-not-is_at_end-clause-refused : goal.returns-then-not-is_at_end-clause-refused
returns-then-not-is_at_end-clause-refused c =
    let line = c.args.line.now in
    let state = c.resume-reader.result in
    let after = c.next_entry.new.self.rest in
    let law = c.an_audit_is_read_entry_by_entry.ensures in
    let front = subst (λ rest. BeginsWith state.version state.place rest c.in_ok-entry.entry after)
    (ap (λ (it : ReaderState). it.rest) c.resume-reader.ensures) c.in_ok-entry.ensures.read.front in
    entry_and_more law.more law.end line after c.args.begun.now state c.in_ok-entry.entry
    (ap (λ (it : ReaderState). it.version) c.resume-reader.ensures ∙ c.begun.invariant.version
    ∙ ap (λ (it : Progress). it.replayed.version) c.begun.view_is)
    (ap (λ (it : ReaderState). it.place) c.resume-reader.ensures
    ∙ ap (λ (it : Progress). it.count) c.begun.view_is)
    (subst (λ n. length line ≤ MOST_AUDIT_BYTES - n)
    (ap (λ (it : Progress). it.bytes) c.begun.view_is)
    (subst (λ n. length line ≤ n) c.saturating_sub.ensures c.if-line-saturating_sub.false))
    front (λ none. false≢true (sym c.if-not-is_at_end.true ∙ c.is_at_end.ensures.1 none))

pub returns-in_err-enter-clause-refused : goal.returns-in_err-enter-clause-refused
returns-in_err-enter-clause-refused c =
    let p = err_from_is_err_and c.from_residual-in_err-enter.result
    c.from_residual-in_err-enter.ensures.1 in
    rw (p.1, p.2)
    (Refuses.no_memory (may_be_read c.args.line.now c.first_line.result.0.now _ c.args.begun.now
    (subst (λ n. length c.args.line.now ≤ MOST_AUDIT_BYTES - n)
    (ap (λ (it : Progress). it.bytes) c.begun.view_is)
    (subst (λ n. length c.args.line.now ≤ n) c.saturating_sub.ensures
    c.if-line-saturating_sub.false))
    c.first_line.ensures.first c.if-front-gt-MOST_LINE_BYTES.false))

pub invariant_of-begun-2 : goal.invariant_of-begun-2
invariant_of-begun-2 c =
    let was = c.begun.invariant in
    let more = length-append was.entries (c.in_ok-entry.entry ∷ []) in
    let counted = was.count in
    let few = was.few in
    let some = some_bytes c.args.line.now (sym c.is_empty.ensures ∙ c.if-is_empty.false) in
    record {
      setup = was.setup;
      entries = was.entries ++ c.in_ok-entry.entry ∷ [];
      replayed = c.in_ok-enter.ensures.entered was.setup was.entries was.replayed;
      count = omega arith;
      few = omega arith;
      version = was.version ∙ sym c.enter.ensures.version;
    }

pub returns-clause-read : goal.returns-clause-read
returns-clause-read c = λ setup bytes has.
    let line = c.args.line.now in
    let now = c.args.begun.now in
    let law = c.an_audit_is_read_entry_by_entry.ensures in
    let fits = subst (λ n. length line ≤ n) c.saturating_sub.ensures
    c.if-line-saturating_sub.false in
    let read = begun_at setup bytes line c.begun.inside now c.resume-reader.result c.begun.view_is
    c.begun.invariant.version c.resume-reader.ensures fits has in
    let replayed = subst (HasReplayed setup has.entries)
    (sym (ap (λ (it : Progress). it.replayed) c.begun.view_is)) has.replayed in
    let version = ap (λ (it : ReaderState). it.version) c.resume-reader.ensures
    ∙ c.begun.invariant.version ∙ sym c.enter.ensures.version in
    grown law.more law.end setup bytes line now _ c.resume-reader.result c.next_entry.new.self
    c.in_ok-entry.entry has read c.in_ok-entry.ensures.read
    (c.is_at_end.ensures.0 c.if-not-is_at_end.false)
    (c.in_ok-enter.ensures.entered setup has.entries replayed) version
    (ap (λ (it : Progress). it.count + 1) c.begun.view_is)
    (ap (λ (it : Progress). it.bytes + length line) c.begun.view_is)
