use Rattle.std.proofs.Common.{◌≡◌, ◌==◌, ◌∙◌, ap, rules}
use Rattle.std.specs.List.{list_any}
use Rattle.fy_cluster.specs.History.{synced}
use Rattle.fy_check_by_rules.specs.Past.{history_of}
use Rattle.fy_check_by_rules.proofs.Written.{any_recs}
use Rattle.fy_check_by_rules.proofs.writes.has_synced.Goals as goal

pub returns : goal.returns
returns c =
    let told : c.is_one_of-has.result ≡ list_any (λ n. n == c.args.rec) c.in_ok-list.list.items = search rules in
    told ∙ ap (list_any (λ n. n == c.args.rec)) c.in_ok-list.ensures ∙ any_recs (synced (history_of c.args.before.now) c.args.p.0) c.args.rec
