use Rattle.std.proofs.Common.{◌≡◌, ◌≤◌, ◌+◌, ◌*◌, ℕ, length, sym, ◌∙◌, ap₂, arith, rules}
use Rattle.fy_cluster.specs.Rules.{grants}
use Rattle.fy_check_by_rules.specs.Past.{history_of}
use Rattle.fy_check_by_rules.proofs.Lists.{sum_next}
use Rattle.fy_check_by_rules.proofs.rights.grant_count.Goals as goal

pub loop-actor-preserved : goal.loop-actor-preserved
loop-actor-preserved c =
    let f : ℕ → ℕ = λ a. length (grants c.args.before.now.config.now (history_of c.args.before.now) a) in
    let len : c.len.result ≡ f c.loop-actor.actor = search rules in
    let bound : c.len.result ≤ 18446744073709551615 = search rules in
    let so_far : c.loop-actor.count ≤ c.loop-actor.actor * 18446744073709551615 = c.loop-actor.invariant.1 in (
      ap₂ (λ m n. m + n) c.loop-actor.invariant.0 len ∙ sym (sum_next f c.loop-actor.actor),
      omega (arith, bound, so_far),
    )
