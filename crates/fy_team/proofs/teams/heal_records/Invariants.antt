use Rattle.std.proofs.Common.{◌≡◌, ◌+◌, ◌≤◌, length, map}
use Rattle.fy_team.specs.Counts.{TeamsInvariant}
use Rattle.fy_team.specs.Index.{HealedWithin}
use Rattle.fy_team.specs.declared.blocks.TheConstants.{BLOCK}
use Rattle.fy_team.proofs.teams.heal_records.Given as goal

-- the records up to this one are healed, and each count is right
abbrev pub invariant-loop-rec : goal.invariant-loop-rec
invariant-loop-rec l = record {
  kept : TeamsInvariant l.teams.items l.records.items;
  count : length l.records.items ≡ length l.initial.records.items;
  near : l.rec ≤ l.first + BLOCK;
  healed : HealedWithin l.first l.rec l.p.0 (map (λ it. it.held) l.initial.records.items) (map (λ it. it.held) l.records.items);
}
