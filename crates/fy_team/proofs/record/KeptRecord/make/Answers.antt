use Rattle.std.proofs.Common.{length, ap, sym, ◌∙◌}
use Rattle.fy_team.specs.Counts.{missing_among}
use Rattle.fy_team.proofs.Counting.{all_missing}
use Rattle.fy_team.proofs.record.KeptRecord.make.Goals as goal

pub returns-clause-counted : goal.returns-clause-counted
returns-clause-counted c = record {
  right = λ _. sym (
      ap (λ marks. missing_among marks c.args.members.now) c.empty.ensures
      ∙ all_missing c.args.members.now
      ∙ ap length (sym c.as_slice.ensures.members));
}
