use Rattle.std.proofs.Common.{◌<◌, ◌≤◌, [], length, sym, subst, arith}
use Rattle.std.proofs.lemmas.List.Elements.{All-nil}
use Rattle.fy_team.specs.Teams.{Team, Record, AreMembers}
use Rattle.fy_team.specs.Counts.{TeamsInvariant, CountsMissingIn}
use Rattle.fy_team.specs.Index.{TeamsHeld}
use Rattle.fy_team.specs.declared.limits.TheConstants.{MOST_BYTES}
use Rattle.fy_team.proofs.Kept.{TeamsKept-none, SetsRight-none}
use Rattle.fy_team.proofs.teams.Teams.make.Goals as goal

TeamsInvariant-none : TeamsInvariant [] []
TeamsInvariant-none = record {
  roster = record {
    rising = All-nil (λ (it : Team). AreMembers it.members);
    few_teams = omega arith;
    named = All-nil (λ (it : Record). it.team < 0);
    small = All-nil (λ (it : Record). length it.payload ≤ MOST_BYTES);
    few_records = omega arith;
  };
  counted = All-nil (CountsMissingIn []);
}

none : TeamsHeld [] [] [] [] []
none = record { kept = TeamsKept-none TeamsInvariant-none; member_sets = SetsRight-none }

pub invariant_of-result : goal.invariant_of-result
invariant_of-result c =
    subst (λ teams. TeamsHeld teams c.new-2.result.items c.new-3.result.items c.new-4.result.items c.new-5.result.items) (sym c.new.ensures.items)
    (subst (λ records. TeamsHeld [] records c.new-3.result.items c.new-4.result.items c.new-5.result.items) (sym c.new-2.ensures.items)
    (subst (λ numbers. TeamsHeld [] [] numbers c.new-4.result.items c.new-5.result.items) (sym c.new-3.ensures.items)
    (subst (λ marked. TeamsHeld [] [] [] marked c.new-5.result.items) (sym c.new-4.ensures.items)
    (subst (λ members. TeamsHeld [] [] [] [] members) (sym c.new-5.ensures.items) none))))
