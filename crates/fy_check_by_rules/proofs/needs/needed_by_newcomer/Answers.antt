use Rattle.std.proofs.Common.{◌≡◌, ◌<◌, ℕ, Bool, ◌&&◌, not, length, sym, ◌∙◌, ap, arith, rules}
use Rattle.fy_cluster.specs.History.{records, acked, has_synced}
use Rattle.fy_cluster.specs.Replies.{is_of_team}
use Rattle.fy_check_by_rules.specs.Past.{history_of}
use Rattle.fy_check_by_rules.proofs.Lists.{found_at, teams_counted}
use Rattle.fy_check_by_rules.proofs.needs.needed_by_newcomer.Goals as goal

pub returns-then-needs : goal.returns-then-needs
returns-then-needs c =
    let h = history_of c.args.before.now in
    let p = c.args.p.0 in
    let needed : ℕ → Bool = λ r. acked h r && is_of_team h c.args.team r && not (has_synced h r p) in
    let within : c.loop-rec.rec < length c.in_ok-list.list.items = search rules in
    let counted : length c.in_ok-list.list.items ≡ length (records h) = ap length c.in_ok-list.ensures.teams ∙ teams_counted (records h) in
    sym (found_at needed c.loop-rec.rec (length (records h)) (omega (arith, within, counted)) c.loop-rec.invariant (sym c.in_ok-needs.ensures ∙ c.if-needs.true))
