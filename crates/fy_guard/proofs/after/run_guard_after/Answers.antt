use Rattle.std.proofs.Common.{inl, inr, sym, subst}
use Rattle.std.proofs.lemmas.Result.{err_from_is_err_and}
use Rattle.std.specs.Prelude.{IfOk, IfSome}
use Rattle.std.specs.Io.KnownBytes.{Appends}
use Rattle.fy_check.specs.CheckTexts.{HasVerdict}
use Rattle.fy_streams.specs.Stops.{IfAuditFault}
use Rattle.fy_guard.specs.AfterTexts.{NoJournalOf}
use Rattle.fy_guard.proofs.Going.{fault_told, first_refused, not_of_script, of_check}
use Rattle.fy_guard.proofs.after.run_guard_after.Goals as goal

pub returns-in_err-replayed-clause-refused : goal.returns-in_err-replayed-clause-refused
returns-in_err-replayed-clause-refused g c =
    let p = err_from_is_err_and c.from_residual.result c.from_residual.ensures.1 in
    rw (p.1, p.2)
    (fault_told c.args.config.now (g.A.Read.remaining c.args.audit.now) c.in_err-replayed.field-0.0 c.in_err-replayed.ensures.refused)

pub returns-in_err-replayed-clause-stopped : goal.returns-in_err-replayed-clause-stopped
returns-in_err-replayed-clause-stopped g c =
    let p = err_from_is_err_and c.from_residual.result c.from_residual.ensures.1 in
    rw (p.1, p.2) (not_of_script c.in_err-replayed.field-0.0 _ c.in_err-replayed.ensures.own)

pub returns-in_err-replayed-clause-no_other : goal.returns-in_err-replayed-clause-no_other
returns-in_err-replayed-clause-no_other g c =
    let p = err_from_is_err_and c.from_residual.result c.from_residual.ensures.1 in
    rw (p.1, p.2) (inr (of_check c.in_err-replayed.field-0.0 c.in_err-replayed.ensures.own))

pub returns-then-is_some-clause-refuted : goal.returns-then-is_some-clause-refuted
returns-then-is_some-clause-refuted g c = λ is.
    let setup = c.args.config.now in
    let known = g.A.Read.remaining c.args.audit.now in
    let whole = Appends (g.F.Write.contents c.args.found.now) (g.F.Write.contents c.write_finding.new.writer) in
    let found = c.finding-finding.ensures.found setup known c.in_ok-replayed.ensures.replayed in
    subst (λ r. IfOk r (λ legal. HasVerdict setup known legal whole)) is
    (c.write_finding.ensures.out setup known found)

pub returns-then-is_some-clause-front_out : goal.returns-then-is_some-clause-front_out
returns-then-is_some-clause-front_out g c = λ is.
    let setup = c.args.config.now in
    let known = g.A.Read.remaining c.args.audit.now in
    let found = c.finding-finding.ensures.found setup known c.in_ok-replayed.ensures.replayed in
    inl (c.write_finding.ensures.front_out setup known found is)

pub returns-in_err-cluster-clause-refused : goal.returns-in_err-cluster-clause-refused
returns-in_err-cluster-clause-refused g c =
    let setup = c.args.config.now in
    let known = g.A.Read.remaining c.args.audit.now in
    let p = err_from_is_err_and c.from_residual-in_err-cluster.result c.from_residual-in_err-cluster.ensures.1 in
    rw (p.1, p.2)
    (subst (λ stop. IfAuditFault stop (λ fault. IfSome known (λ bytes. NoJournalOf setup bytes fault)))
    (sym c.in_err-cluster.ensures.of_first)
    (first_refused setup known c.in_ok-replayed.replayed c.in_err-cluster.ensures.first c.in_ok-replayed.ensures.replayed))
