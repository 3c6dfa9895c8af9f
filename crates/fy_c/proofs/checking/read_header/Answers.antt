use Rattle.std.proofs.Common.{◌∙◌, [], refl, sym, subst}
use Rattle.std.specs.Prelude.{Ok}
use Rattle.std.proofs.lemmas.Bool.{false≢true}
use Rattle.std.proofs.lemmas.Result.{err_from_is_err_and}
use Rattle.fy_audit.specs.Audit.{AuditOf}
use Rattle.fy_replay.specs.Replayed.{HasReplayed}
use Rattle.fy_c.specs.Checking.{Refuses}
use Rattle.fy_c.proofs.Lined.{header_and_more, header_may_be_read, no_header}
use Rattle.fy_c.proofs.checking.read_header.Goals as goal

pub returns-in_err-reader-clause-refused : goal.returns-in_err-reader-clause-refused
returns-in_err-reader-clause-refused c =
    let p = err_from_is_err_and c.from_residual.result c.from_residual.ensures.1 in
    rw (p.1, p.2)
    (no_header c.args.line.now c.in_err-reader.field-0.0 c.in_err-reader.ensures.first
    c.in_err-reader.ensures.refused)

pub returns-then-not-is_at_end-clause-refused : goal.returns-then-not-is_at_end-clause-refused
returns-then-not-is_at_end-clause-refused c =
    header_and_more c.an_audit_is_read_entry_by_entry.ensures.end c.args.line.now c.in_ok-reader.reader
    c.in_ok-reader.ensures.begun
    (λ none. false≢true (sym c.if-not-is_at_end.true ∙ c.is_at_end.ensures.1 none))

pub returns-in_err-config-clause-refused : goal.returns-in_err-config-clause-refused
returns-in_err-config-clause-refused c =
    let p = err_from_is_err_and c.from_residual-in_err-config.result
    c.from_residual-in_err-config.ensures.1 in
    rw (p.1, p.2)
    (Refuses.no_memory (header_may_be_read c.args.line.now c.in_ok-reader.reader
    c.in_ok-reader.ensures.begun (c.is_at_end.ensures.0 c.if-not-is_at_end.false)))

pub returns-in_err-replayer-clause-refused : goal.returns-in_err-replayer-clause-refused
returns-in_err-replayer-clause-refused c =
    let p = err_from_is_err_and c.from_residual-in_err-replayer.result
    c.from_residual-in_err-replayer.ensures.1 in
    rw (p.1, p.2)
    (Refuses.no_memory (header_may_be_read c.args.line.now c.in_ok-reader.reader
    c.in_ok-reader.ensures.begun (c.is_at_end.ensures.0 c.if-not-is_at_end.false)))

pub returns-clause-read : goal.returns-clause-read
returns-clause-read c =
    let line = c.args.line.now in
    let none = c.is_at_end.ensures.0 c.if-not-is_at_end.false in
    let whole = c.an_audit_is_read_entry_by_entry.ensures.end line [] c.in_ok-reader.reader
    c.in_ok-reader.ensures.begun none in
    record {
      entries = [];
      audit = subst (λ v. AuditOf line (Ok (record { version = v; entries = [] })))
          (sym (c.in_ok-replayer.ensures.version ∙ c.version-version.ensures)) whole;
      replayed = subst (λ setup. HasReplayed setup [] c.in_ok-replayer.replayer)
          c.in_ok-config.ensures c.in_ok-replayer.ensures.begun;
      count = refl;
      long = refl;
    }
