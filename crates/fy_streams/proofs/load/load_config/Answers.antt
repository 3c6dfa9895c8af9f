use Rattle.std.proofs.Common.{Ok, Err, ◌∙◌, ap, subst}
use Rattle.std.specs.Prelude.{IfSome}
use Rattle.std.proofs.lemmas.Result.{err_from_is_err_and}
use Rattle.fy_config.specs.Config.{ConfigOf, UnlessOom}
use Rattle.fy_streams.specs.Stops.{config_stop, IfConfigFault, IsConfigStop}
use Rattle.fy_streams.specs.declared.stop.Stop.TheVariants.{Read}
use Rattle.fy_streams.proofs.Loading.{if_known, fault_told, fault_own, fault_unread, same_stop, of_unread, unread_within}
use Rattle.fy_streams.proofs.load.load_config.Goals as goal

pub returns-clause-loaded : goal.returns-clause-loaded
returns-clause-loaded g c =
    if_known (g.R.Read.remaining c.args.reader.now) c.in_ok-bytes.bytes.items
    (λ bytes. ConfigOf bytes (Ok c.in_ok-read_config.field-0)) c.in_ok-bytes.ensures.all
    (subst (λ bytes. ConfigOf bytes (Ok c.in_ok-read_config.field-0)) c.deref.ensures.value
    c.in_ok-read_config.ensures.answers)

pub returns-in_err-read_config-clause-refused : goal.returns-in_err-read_config-clause-refused
returns-in_err-read_config-clause-refused g c =
    let known = g.R.Read.remaining c.args.reader.now in
    let fault = c.in_err-read_config.field-0.0 in
    let holds =
    subst (λ bytes. UnlessOom (ConfigOf bytes) (Err fault)) c.deref.ensures.value
    c.in_err-read_config.ensures.answers in
    let p = err_from_is_err_and c.from_residual-in_err-read_config.result c.from_residual-in_err-read_config.ensures.1 in
    rw (p.1, p.2) (fault_told known c.in_ok-bytes.bytes.items fault c.in_ok-bytes.ensures.all holds)

pub returns-in_err-read_config-clause-no_other : goal.returns-in_err-read_config-clause-no_other
returns-in_err-read_config-clause-no_other g c =
    let p = err_from_is_err_and c.from_residual-in_err-read_config.result c.from_residual-in_err-read_config.ensures.1 in
    rw (p.1, p.2) (fault_own c.in_err-read_config.field-0.0)

pub returns-in_err-read_config-clause-read_fault :
    goal.returns-in_err-read_config-clause-read_fault
returns-in_err-read_config-clause-read_fault g c is =
    let fault = c.in_err-read_config.field-0.0 in
    let p = err_from_is_err_and c.from_residual-in_err-read_config.result c.from_residual-in_err-read_config.ensures.1 in
    absurd (fault_unread fault
    (same_stop c.from_residual-in_err-read_config.result (config_stop fault) Read (p.1 ∙ ap Err p.2) is))

pub returns-in_err-bytes-clause-refused : goal.returns-in_err-bytes-clause-refused
returns-in_err-bytes-clause-refused g c =
    let known = g.R.Read.remaining c.args.reader.now in
    let p = err_from_is_err_and c.from_residual.result c.from_residual.ensures.1 in
    rw (p.1, p.2)
    (of_unread (λ s. IfConfigFault s (λ f. IfSome known (λ bytes. ConfigOf bytes (Err f))))
    (λ more. more) tt tt c.in_err-bytes.ensures.err)

pub returns-in_err-bytes-clause-no_other : goal.returns-in_err-bytes-clause-no_other
returns-in_err-bytes-clause-no_other g c =
    let p = err_from_is_err_and c.from_residual.result c.from_residual.ensures.1 in
    rw (p.1, p.2) (of_unread IsConfigStop (λ more. tt) tt tt c.in_err-bytes.ensures.err)

pub returns-in_err-bytes-clause-read_fault : goal.returns-in_err-bytes-clause-read_fault
returns-in_err-bytes-clause-read_fault g c is =
    let stop = c.in_err-bytes.field-0.0 in
    let p = err_from_is_err_and c.from_residual.result c.from_residual.ensures.1 in
    unread_within c.in_err-bytes.ensures.err
    (same_stop c.from_residual.result stop Read (p.1 ∙ ap Err p.2) is)
    (λ other. let bad : ⊥ = cc in bad)
