use Rattle.std.proofs.Common.{rules, ◌+◌, ◌∙◌, [], sym, ap, subst, length}
use Rattle.fy_acts.specs.declared.entry.Entry.{Entry}
use Rattle.fy_cluster.specs.Execution.{Execution}
use Rattle.fy_replay.specs.Replayed.{HasReplayed}
use Rattle.fy_replay.proofs.Nexts.{place_is}
use Rattle.fy_replay.proofs.Entering.{one_more_entered, all_are_legal, bad_of_all}
use Rattle.fy_replay.proofs.replaying.replay.Goals as goal

pub loop-entry-init : goal.loop-entry-init
loop-entry-init c = (
  subst (λ setup. HasReplayed setup [] c.in_ok-replayer.replayer) c.in_ok-try_copy.ensures
      c.in_ok-replayer.ensures.begun,
  c.in_ok-replayer.ensures.none,
  c.in_ok-replayer.ensures.version ∙ c.version.ensures,
)

pub enter-requires : goal.enter-requires
enter-requires c = λ none.
    ap (λ (x : Entry). x.at) c.in_ok-try_copy-2.ensures.equal
    ∙ place_is c.args.journal.now.entries c.loop-entry.entry-index c.entry-item.result (search rules)
    (search rules) c.invariant.ensures.numbered
    ∙ sym (ap (λ (replayed : Execution). length replayed.journal)
    (c.loop-entry.invariant.0.execution none))

pub loop-entry-preserved : goal.loop-entry-preserved
loop-entry-preserved c = (
  one_more_entered c.args.config.now c.args.journal.now.entries c.loop-entry.entry-index
      c.entry-item.result _ c.enter.new.self (search rules) (search rules)
      c.in_ok-try_copy-2.ensures.equal
      (c.in_ok-enter.ensures.entered c.args.config.now _ c.loop-entry.invariant.0),
  sym c.first_bad.ensures ∙ c.in_default.is,
  c.enter.ensures.version ∙ c.loop-entry.invariant.2,
)

pub returns-in-Some : goal.returns-in-Some
returns-in-Some c =
    bad_of_all c.args.journal.now.version c.args.config.now c.args.journal.now.entries
    (c.loop-entry.entry-index + 1) c.in-Some.at c.enter.new.self
    (one_more_entered c.args.config.now c.args.journal.now.entries c.loop-entry.entry-index
    c.entry-item.result _ c.enter.new.self (search rules) (search rules)
    c.in_ok-try_copy-2.ensures.equal
    (c.in_ok-enter.ensures.entered c.args.config.now _ c.loop-entry.invariant.0))
    (sym c.first_bad.ensures ∙ c.in-Some.is) (c.enter.ensures.version ∙ c.loop-entry.invariant.2)

pub returns : goal.returns
returns c =
    all_are_legal c.args.journal.now.version c.args.config.now c.args.journal.now.entries
    c.loop-entry.entry-index c.loop-entry.replayer (search rules) c.loop-entry.invariant.0
    c.loop-entry.invariant.1 c.loop-entry.invariant.2
