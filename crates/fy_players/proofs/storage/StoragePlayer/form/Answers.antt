use Rattle.std.proofs.Common.{arith, ◌≡◌, length, ap}
use Rattle.fy_players.proofs.Setups.{few_policies}
use Rattle.fy_players.proofs.storage.StoragePlayer.form.Goals as goal

pub overflow_cast-policies : goal.overflow_cast-policies
overflow_cast-policies c =
    let few = few_policies c.config-config.result.now c.invariant.ensures.in_range in
    let same : length c.policies.result.now ≡ length c.config-config.result.now.policies =
    ap length c.policies.ensures in
    omega arith
