use Rattle.std.proofs.Common.{◌≡◌, ◌&&◌, not}
use Rattle.std.specs.Prelude.{None, find}
use Rattle.std.specs.List.{range_with_len}
use Rattle.fy_team.specs.Teams.{is_among}
use Rattle.fy_cluster.specs.History.{acked, has_synced, members_for}
use Rattle.fy_check_by_rules.specs.Past.{history_of}
use Rattle.fy_check_by_rules.proofs.needs.needed_by_member.Given as goal

-- none of the records so far is needed
abbrev pub invariant-loop-rec : goal.invariant-loop-rec
invariant-loop-rec l = find (λ r. acked (history_of l.before) r && is_among (members_for (history_of l.before) r) l.p.0 && not (has_synced (history_of l.before) r l.p.0)) (range_with_len 0 l.rec) ≡ None
