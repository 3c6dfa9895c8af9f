use Rattle.std.proofs.Common.{◌≡◌, ℕ, map, ◌∙◌, ap, rules}
use Rattle.fy_net.specs.declared.message.Body.TheVariants.{Synced}
use Rattle.fy_cluster.specs.History.{unsynced}
use Rattle.fy_check_by_rules.specs.Past.{history_of}
use Rattle.fy_check_by_rules.proofs.Written.{acks_are}
use Rattle.fy_check_by_rules.proofs.doing.sync_sends.Goals as goal

pub returns : goal.returns
returns c =
    let process = c.args.process in
    let told : c.in_ok-words.words.items ≡ map (λ (rec : ℕ). Synced rec process) c.in_ok-records.records.items = search rules in
    told ∙ ap (map (λ (rec : ℕ). Synced rec process)) c.in_ok-records.ensures ∙ acks_are process (unsynced (history_of c.args.before.now) process.0)
