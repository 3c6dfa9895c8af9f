use Rattle.std.proofs.Common.{◌∙◌, [], sym, subst, ap}
use Rattle.fy_cluster.specs.Execution.{Execution}
use Rattle.fy_cluster.specs.Versions.{LegalUnder}
use Rattle.fy_replay.specs.Replayed.{HasFirstBad}
use Rattle.fy_picture.proofs.recorder.Recorder.begin_planned.Goals as goal

pub invariant_of-result : goal.invariant_of-result
invariant_of-result c whole =
    let replayer = c.in_ok-replayer.replayer in
    let opened = c.in_ok-recorded.ensures.state in
    let begun = c.in_ok-replayer.ensures.begun in
    let legal : LegalUnder replayer.version c.args.config [] =
    subst (HasFirstBad replayer.version c.args.config []) c.in_ok-replayer.ensures.none begun.first in
    record {
      recorded = c.in_ok-recorded.ensures.recorded;
      legal = subst (λ (x : Execution). LegalUnder replayer.version x.setup x.journal) (sym opened)
          (subst (λ s. LegalUnder replayer.version s []) (sym c.in_ok-try_copy.ensures) legal);
      same = λ none.
          begun.execution none
          ∙ ap (λ s. let x : Execution = record { setup = s; journal = [] } in x) (sym c.in_ok-try_copy.ensures) ∙ sym opened;
    }
