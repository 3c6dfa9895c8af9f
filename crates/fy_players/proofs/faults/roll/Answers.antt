use Rattle.std.proofs.Common.{arith, ◌≡◌, ◌∙◌, ◌/◌, max, length, ap}
use Rattle.fy_locality.specs.declared.key.Key.TheVariants.{Process}
use Rattle.fy_locality.specs.Locality.{values_of}
use Rattle.fy_players.specs.Faults.{rolling_kind}
use Rattle.fy_players.proofs.faults.roll.Goals as goal

pub returns : goal.returns
returns c =
    let it = c.kill.ensures in
    let processes = c.args.map.now in
    let counted = c.value_count.ensures in
    let most = c.max-count.ensures in
    let count : c.max-count.result ≡ max 1 (length (values_of processes Process)) = omega arith in
    record {
      order = it.order;
      is = it.is;
      target_is = it.target_is ∙ c.rolling_target-target.ensures;
      kind_is = it.kind_is
          ∙ (c.rolling_kind-kind.ensures ∙ ap (λ n. rolling_kind (c.args.turns / n)) count);
      floor_is = it.floor_is;
      tear_is = it.tear_is;
    }
