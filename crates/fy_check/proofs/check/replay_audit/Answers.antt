use Rattle.std.proofs.Common.{rules, ◌∙◌, [], subst}
use Rattle.fy_replay.specs.Replayed.{HasReplayed}
use Rattle.fy_check.proofs.Checking.{begins_with, replayed_known}
use Rattle.fy_check.proofs.check.replay_audit.Goals as goal

pub returns-in_err-count-clause-read_fault : goal.returns-in_err-count-clause-read_fault
returns-in_err-count-clause-read_fault g c = λ is.
    c.read_into.ensures.read_fault (search rules) (g.R.Read.remaining c.args.reader.now) c.in_ok-input.ensures.begun

pub returns-in_err-count-clause-no_further : goal.returns-in_err-count-clause-no_further
returns-in_err-count-clause-no_further g c =
    c.read_into.ensures.no_further (g.R.Read.remaining c.args.reader.now) c.in_ok-input.ensures.begun

pub returns-clause-no_further : goal.returns-clause-no_further
returns-clause-no_further g c =
    c.read_into.ensures.no_further (g.R.Read.remaining c.args.reader.now) c.in_ok-input.ensures.begun

pub returns-clause-replayed : goal.returns-clause-replayed
returns-clause-replayed g c =
    let setup = c.args.config.now in
    let known = g.R.Read.remaining c.args.reader.now in
    let begun = c.in_ok-replayer.replayer in
    let those = subst (λ setup. HasReplayed setup [] begun) c.in_ok-config.ensures c.in_ok-replayer.ensures.begun in
    replayed_known setup known c.in_ok-input.input.version begun _
    (begins_with setup begun those c.in_ok-replayer.ensures.none)
    (c.in_ok-replayer.ensures.version ∙ c.version.ensures)
    (c.in_ok-count.ensures.read known c.in_ok-input.ensures.begun)
