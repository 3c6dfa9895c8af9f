use Rattle.std.proofs.Common.{◌≡◌, length, take}
use Rattle.fy_team.specs.Counts.{recounted}
use Rattle.fy_team.specs.Index.{ChangedAmong}
use Rattle.fy_team.proofs.teams.recount.Given as goal

-- the records that were looked at are counted anew
abbrev pub invariant-loop-rec : goal.invariant-loop-rec
invariant-loop-rec l = record {
  count : length l.records.items ≡ length l.initial.records.items;
  changed : ChangedAmong (take l.rec-index l.numbers) (recounted l.team l.members) l.initial.records.items l.records.items;
}
