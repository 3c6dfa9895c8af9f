use Rattle.std.proofs.Common.{◌≡◌, ◌≤◌, ◌*◌, length}
use Rattle.std.specs.Prelude.{sum_by}
use Rattle.std.specs.List.{range_with_len}
use Rattle.fy_cluster.specs.Rules.{grants}
use Rattle.fy_check_by_rules.specs.Past.{history_of}
use Rattle.fy_check_by_rules.proofs.rights.grant_count.Given as goal

abbrev pub invariant-loop-actor : goal.invariant-loop-actor
invariant-loop-actor l = (l.count ≡ sum_by (λ a. length (grants l.before.config.now (history_of l.before) a)) (range_with_len 0 l.actor)) × (l.count ≤ l.actor * 18446744073709551615)
