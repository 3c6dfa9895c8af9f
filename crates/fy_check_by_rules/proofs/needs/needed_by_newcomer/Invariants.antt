use Rattle.std.proofs.Common.{◌≡◌, ◌&&◌, not}
use Rattle.std.specs.Prelude.{None, find}
use Rattle.std.specs.List.{range_with_len}
use Rattle.fy_cluster.specs.History.{acked, has_synced}
use Rattle.fy_cluster.specs.Replies.{is_of_team}
use Rattle.fy_check_by_rules.specs.Past.{history_of}
use Rattle.fy_check_by_rules.proofs.needs.needed_by_newcomer.Given as goal

-- none of the records so far is needed
abbrev pub invariant-loop-rec : goal.invariant-loop-rec
invariant-loop-rec l = find (λ r. acked (history_of l.before) r && is_of_team (history_of l.before) l.team r && not (has_synced (history_of l.before) r l.p.0)) (range_with_len 0 l.rec) ≡ None
