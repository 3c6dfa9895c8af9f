use Rattle.std.proofs.Common.{◌∙◌, [], refl, subst}
use Rattle.fy_check.specs.declared.check.ReplayedAudit.{ReplayedAudit}
use Rattle.fy_check.proofs.Checking.{begins_with, found_of_replayed, replayed_known}
use Rattle.fy_replay.specs.Replayed.{HasReplayed}
use Rattle.fy_verdict.proofs.Watching.{watched_known}
use Rattle.fy_verdict.proofs.watched.watch_audit.Goals as goal

pub returns-clause-found : goal.returns-clause-found
returns-clause-found g c =
    let setup = c.args.config.now in
    let known = g.R.Read.remaining c.args.reader.now in
    let begun = c.in_ok-watch.watch.replayed in
    let audit : ReplayedAudit = record { count = c.in_ok-count.count; replayer = c.read_into.new.sink.watch.replayed } in
    let those = subst (λ setup. HasReplayed setup [] begun) c.in_ok-config.ensures c.in_ok-watch.ensures.begun in
    found_of_replayed setup known audit _ refl c.first_bad-first_bad.ensures
    (replayed_known setup known c.in_ok-input.input.version begun audit
    (begins_with setup begun those c.in_ok-watch.ensures.none)
    (c.in_ok-watch.ensures.version ∙ c.version.ensures)
    (c.in_ok-count.ensures.read known c.in_ok-input.ensures.begun))

pub returns-clause-watched : goal.returns-clause-watched
returns-clause-watched g c =
    let setup = c.args.config.now in
    let known = g.R.Read.remaining c.args.reader.now in
    let begun = c.in_ok-watch.watch.replayed in
    let audit : ReplayedAudit = record { count = c.in_ok-count.count; replayer = c.read_into.new.sink.watch.replayed } in
    let those = subst (λ setup. HasReplayed setup [] begun) c.in_ok-config.ensures c.in_ok-watch.ensures.begun in
    watched_known setup known audit _ c.in_ok-outages.outages refl c.first_bad-first_bad.ensures c.in_ok-outages.ensures
    (replayed_known setup known c.in_ok-input.input.version begun audit
    (begins_with setup begun those c.in_ok-watch.ensures.none)
    (c.in_ok-watch.ensures.version ∙ c.version.ensures)
    (c.in_ok-count.ensures.read known c.in_ok-input.ensures.begun))

pub returns-clause-no_further : goal.returns-clause-no_further
returns-clause-no_further g c =
    c.read_into.ensures.no_further (g.R.Read.remaining c.args.reader.now) c.in_ok-input.ensures.begun

pub returns-in_err-count-clause-no_further : goal.returns-in_err-count-clause-no_further
returns-in_err-count-clause-no_further g c =
    c.read_into.ensures.no_further (g.R.Read.remaining c.args.reader.now) c.in_ok-input.ensures.begun

pub returns-in_err-outages-clause-no_further : goal.returns-in_err-outages-clause-no_further
returns-in_err-outages-clause-no_further g c =
    c.read_into.ensures.no_further (g.R.Read.remaining c.args.reader.now) c.in_ok-input.ensures.begun
