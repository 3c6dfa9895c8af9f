use Rattle.std.proofs.Common.{◌∙◌, ap, subst}
use Rattle.fy_players.specs.Faults.{Mixes}
use Rattle.fy_players.specs.Picks.{floor_of, target_of}
use Rattle.fy_players.proofs.faults.mixed.Goals as goal

pub returns-in-Kill : goal.returns-in-Kill
returns-in-Kill c =
    let it = c.kill.ensures in
    let words = c.args.words in
    subst (λ choice. Mixes c.args.map.now words choice c.kill.result) c.in-Kill.ensures (record {
      order = it.order;
      is = it.is;
      target_is = it.target_is
          ∙ (c.pick_target-target.ensures
          ∙ ap (λ key. target_of words.second key c.args.map.now) c.pick_key.ensures);
      kind_is = it.kind_is ∙ c.mixed_kind-kind.ensures;
      floor_is = it.floor_is
          ∙ (c.pick_floor-floor.ensures.value ∙ ap (floor_of words.fourth) c.mixed_kind-kind.ensures);
      tear_is = it.tear_is ∙ c.pick_tear.ensures;
    })
