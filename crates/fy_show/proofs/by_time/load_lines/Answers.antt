use Rattle.std.proofs.Common.{◌≡◌, ℕ, Err, refl, subst}
use Rattle.std.specs.Prelude.{IfErr, IfSome}
use Rattle.std.proofs.lemmas.Result.{IfErr-weaker}
use Rattle.fy_events.specs.Events.{EventsOf}
use Rattle.fy_events.specs.declared.TheConstants.{MOST_EVENTS_BYTES}
use Rattle.fy_events.specs.declared.events.EventsFault.TheVariants.{TooLong}
use Rattle.fy_streams.specs.Stops.{IfAuditFault, IfEventsFault, IsTimesStop, IsUnread}
use Rattle.fy_streams.specs.declared.stop.Stop.TheVariants.{Events, Write}
use Rattle.fy_streams.proofs.Loading.{of_unread, unread_within}
use Rattle.fy_show.proofs.by_time.load_lines.Goals as goal

pub returns-clause-refused : goal.returns-clause-refused
returns-clause-refused g c =
    let known = g.R.Read.remaining c.args.reader.now in
    IfErr-weaker c.load_bytes.result _ _
    (λ stop. of_unread
    (λ s. IfEventsFault s (λ f. (count : ℕ) → IfSome known (λ lines. EventsOf count lines (Err f))))
    (λ more count. more) tt tt)
    c.load_bytes.ensures.err

pub returns-clause-no_audit : goal.returns-clause-no_audit
returns-clause-no_audit g c =
    IfErr-weaker c.load_bytes.result _ _
    (λ stop. of_unread (λ s. IfAuditFault s (λ _. ⊥)) (λ more. tt) tt tt)
    c.load_bytes.ensures.err

pub returns-clause-own : goal.returns-clause-own
returns-clause-own g c =
    IfErr-weaker c.load_bytes.result _ _ (λ stop. of_unread IsTimesStop (λ more. tt) tt tt)
    c.load_bytes.ensures.err

pub returns-clause-no_write : goal.returns-clause-no_write
returns-clause-no_write g c =
    IfErr-weaker c.load_bytes.result _ _
    (λ stop. of_unread (λ s. s ≡ Write → ⊥) (λ more write. let bad : ⊥ = cc in bad)
    (λ write. let bad : ⊥ = cc in bad) (λ write. let bad : ⊥ = cc in bad))
    c.load_bytes.ensures.err

pub returns-clause-read_fault : goal.returns-clause-read_fault
returns-clause-read_fault g c is =
    let old = g.R.Read.remaining c.args.reader.now in
    let new = g.R.Read.remaining c.load_bytes.new.reader in
    unread_within
    (subst (λ result. IfErr result (IsUnread old new MOST_EVENTS_BYTES (Events TooLong))) is
    c.load_bytes.ensures.err)
    refl (λ other. let bad : ⊥ = cc in bad)
