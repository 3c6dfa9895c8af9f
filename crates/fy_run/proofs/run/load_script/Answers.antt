use Rattle.std.proofs.Common.{◌≡◌, Err, ◌∙◌, ap, subst}
use Rattle.std.specs.Prelude.{IfSome}
use Rattle.std.proofs.lemmas.Result.{err_from_is_err_and}
use Rattle.fy_audit.specs.Script.{ScriptAnswers, ScriptOf}
use Rattle.fy_streams.specs.Stops.{script_stop, IsRunStop}
use Rattle.fy_streams.specs.declared.stop.Stop.TheVariants.{JournalFull, Read, Write}
use Rattle.fy_streams.proofs.Loading.{of_unread, same_stop, unread_within}
use Rattle.fy_run.proofs.Loading.{script_told, script_own, script_unfull, script_unread, script_unwritten}
use Rattle.fy_run.specs.RunTexts.{IfScriptFault}
use Rattle.fy_run.proofs.run.load_script.Goals as goal

pub returns-in_err-read_script-clause-refused : goal.returns-in_err-read_script-clause-refused
returns-in_err-read_script-clause-refused g c =
    let known = g.R.Read.remaining c.args.reader.now in
    let fault = c.in_err-read_script.field-0.0 in
    let holds =
    subst (λ bytes. ScriptAnswers bytes (Err fault)) c.deref.ensures.value
    c.in_err-read_script.ensures.refused in
    let p = err_from_is_err_and c.from_residual-in_err-read_script.result c.from_residual-in_err-read_script.ensures.1 in
    rw (p.1, p.2) (script_told known c.in_ok-bytes.bytes.items fault c.in_ok-bytes.ensures.all holds)

pub returns-in_err-read_script-clause-no_other : goal.returns-in_err-read_script-clause-no_other
returns-in_err-read_script-clause-no_other g c =
    let fault = c.in_err-read_script.field-0.0 in
    let p = err_from_is_err_and c.from_residual-in_err-read_script.result c.from_residual-in_err-read_script.ensures.1 in
    rw (p.1, p.2) (script_unfull fault, script_unwritten fault)

pub returns-in_err-read_script-clause-own : goal.returns-in_err-read_script-clause-own
returns-in_err-read_script-clause-own g c =
    let p = err_from_is_err_and c.from_residual-in_err-read_script.result c.from_residual-in_err-read_script.ensures.1 in
    rw (p.1, p.2) (script_own c.in_err-read_script.field-0.0)

pub returns-in_err-read_script-clause-read_fault :
    goal.returns-in_err-read_script-clause-read_fault
returns-in_err-read_script-clause-read_fault g c is =
    let fault = c.in_err-read_script.field-0.0 in
    let p = err_from_is_err_and c.from_residual-in_err-read_script.result c.from_residual-in_err-read_script.ensures.1 in
    absurd (script_unread fault
    (same_stop c.from_residual-in_err-read_script.result (script_stop fault) Read (p.1 ∙ ap Err p.2) is))

pub returns-in_err-bytes-clause-refused : goal.returns-in_err-bytes-clause-refused
returns-in_err-bytes-clause-refused g c =
    let known = g.R.Read.remaining c.args.reader.now in
    let p = err_from_is_err_and c.from_residual.result c.from_residual.ensures.1 in
    rw (p.1, p.2)
    (of_unread (λ s. IfScriptFault s (λ f. IfSome known (λ bytes. ScriptOf bytes (Err f))))
    (λ more. more) tt tt c.in_err-bytes.ensures.err)

pub returns-in_err-bytes-clause-no_other : goal.returns-in_err-bytes-clause-no_other
returns-in_err-bytes-clause-no_other g c =
    let p = err_from_is_err_and c.from_residual.result c.from_residual.ensures.1 in
    rw (p.1, p.2)
    (of_unread (λ s. (s ≡ JournalFull → ⊥) × (s ≡ Write → ⊥))
    (λ more. (λ full. let bad : ⊥ = cc in bad, λ write. let bad : ⊥ = cc in bad))
    (λ full. let bad : ⊥ = cc in bad, λ write. let bad : ⊥ = cc in bad)
    (λ full. let bad : ⊥ = cc in bad, λ write. let bad : ⊥ = cc in bad) c.in_err-bytes.ensures.err)

pub returns-in_err-bytes-clause-own : goal.returns-in_err-bytes-clause-own
returns-in_err-bytes-clause-own g c =
    let p = err_from_is_err_and c.from_residual.result c.from_residual.ensures.1 in
    rw (p.1, p.2) (of_unread IsRunStop (λ more. tt) tt tt c.in_err-bytes.ensures.err)

pub returns-in_err-bytes-clause-read_fault : goal.returns-in_err-bytes-clause-read_fault
returns-in_err-bytes-clause-read_fault g c is =
    let stop = c.in_err-bytes.field-0.0 in
    let p = err_from_is_err_and c.from_residual.result c.from_residual.ensures.1 in
    unread_within c.in_err-bytes.ensures.err
    (same_stop c.from_residual.result stop Read (p.1 ∙ ap Err p.2) is)
    (λ other. let bad : ⊥ = cc in bad)
