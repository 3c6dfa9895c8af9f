use Rattle.std.proofs.Common.{◌≡◌, ◌≤◌, ◌+◌, ◌*◌, [], length, map, get_or, ap, ap₂, sym, subst, ◌∙◌, arith}
use Rattle.fy_team.specs.Teams.{Record, healed, healed_record, places_from}
use Rattle.fy_team.specs.Index.{HealedWithin, TeamsKept, SetsRight}
use Rattle.fy_team.specs.declared.blocks.TheConstants.{BLOCK}
use Rattle.fy_team.proofs.Keeping.{held}
use Rattle.fy_team.proofs.Indexing.{healed_on, healed_all}
use Rattle.fy_team.proofs.Kept.{teams_healed}
use Rattle.fy_team.proofs.teams.Teams.heal.Goals as goal

-- every record is healed once each block is
each_healed : (c : goal.After-loop-block) → map held c.loop-block.self-inside.records.items ≡ map (healed_record c.args.p.0) (map held c.self.inside.records.items)
each_healed c =
    let past : length (map held c.self.inside.records.items) ≤ BLOCK * c.loop-block.block = omega (arith, c.self.invariant.kept.blocks.room, c.self.inside.marked.ok.0) in
    healed_all (BLOCK * c.loop-block.block) c.args.p.0 (map held c.self.inside.records.items) (map held c.loop-block.self-inside.records.items) past c.loop-block.invariant.healed

kept_after : (c : goal.After-loop-block) → TeamsKept c.loop-block.self-inside.teams.items c.loop-block.self-inside.records.items c.loop-block.self-inside.numbers.items c.loop-block.self-inside.marked.items
kept_after c = record {
  counts = c.loop-block.invariant.counts;
  lists = omega (arith, c.self.invariant.kept.lists, ap length c.loop-block.invariant.teams, ap length c.loop-block.invariant.numbers);
  each = λ t. ap (λ ns. get_or ns t []) c.loop-block.invariant.numbers
      ∙ c.self.invariant.kept.each t
      ∙ ap (places_from 0 t) (sym (ap (map (λ (it : Record). it.team)) (each_healed c) ∙ teams_healed c.args.p.0 (map held c.self.inside.records.items)));
  blocks = c.loop-block.invariant.seen;
}

pub invariant_of-self : goal.invariant_of-self
invariant_of-self c = record {
  kept = kept_after c;
  member_sets = subst (λ members. SetsRight c.loop-block.self-inside.teams.items members) (sym c.loop-block.invariant.member_sets) (subst (λ teams. SetsRight teams c.self.inside.member_sets.items) (sym c.loop-block.invariant.teams) c.self.invariant.member_sets);
}

pub loop-block-preserved : goal.loop-block-preserved
loop-block-preserved c =
    let was = map held c.self.inside.records.items in
    let now = map held c.loop-block.self-inside.records.items in
    let next = map held c.heal_block.new.records.items in
    let more : BLOCK * c.loop-block.block + BLOCK ≡ BLOCK * (c.loop-block.block + 1) = omega arith in
    record {
      teams = c.loop-block.invariant.teams;
      numbers = c.loop-block.invariant.numbers;
      member_sets = c.loop-block.invariant.member_sets;
      counts = c.heal_block.ensures.counts;
      blocks = c.heal_block.ensures.blocks ∙ c.loop-block.invariant.blocks;
      count = c.heal_block.ensures.count ∙ c.loop-block.invariant.count;
      seen = c.heal_block.ensures.seen;
      healed = subst (λ n. HealedWithin 0 n c.args.p.0 was next) more
          (healed_on 0 (BLOCK * c.loop-block.block) (BLOCK * c.loop-block.block + BLOCK) c.args.p.0 was now next (omega arith) (omega arith) c.loop-block.invariant.healed c.heal_block.ensures.healed);
    }

pub returns : goal.returns
returns c =
    ap₂ (λ teams records. record { teams = teams; records = records }) c.loop-block.invariant.teams (each_healed c)
    ∙ ap (healed c.args.p.0) c.self.view_is
