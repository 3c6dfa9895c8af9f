use Rattle.std.proofs.Common.{◌≡◌, ◌*◌, length, map}
use Rattle.fy_team.specs.Counts.{TeamsInvariant}
use Rattle.fy_team.specs.Index.{MarksSeen, HealedWithin}
use Rattle.fy_team.specs.declared.blocks.TheConstants.{BLOCK}
use Rattle.fy_team.proofs.teams.Teams.heal.Given as goal

-- the blocks up to this one are healed, and each count is right
abbrev pub invariant-loop-block : goal.invariant-loop-block
invariant-loop-block l = record {
  teams : l.self-inside.teams.items ≡ l.initial.self-inside.teams.items;
  numbers : l.self-inside.numbers.items ≡ l.initial.self-inside.numbers.items;
  member_sets : l.self-inside.member_sets.items ≡ l.initial.self-inside.member_sets.items;
  counts : TeamsInvariant l.self-inside.teams.items l.self-inside.records.items;
  blocks : length l.self-inside.marked.items ≡ length l.initial.self-inside.marked.items;
  count : length l.self-inside.records.items ≡ length l.initial.self-inside.records.items;
  seen : MarksSeen (map (λ it. it.held) l.self-inside.records.items) l.self-inside.marked.items;
  healed : HealedWithin 0 (BLOCK * l.block) l.p.0 (map (λ it. it.held) l.initial.self-inside.records.items) (map (λ it. it.held) l.self-inside.records.items);
}
