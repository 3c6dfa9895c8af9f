use Rattle.fy_team.proofs.Swapping.{among-swapped, replaced-members, replaced-policies}
use Rattle.fy_team.proofs.laws.a_replacement_changes_one_team.Goals as goal

pub returns-clause-among : goal.returns-clause-among
returns-clause-among c = among-swapped

pub returns-clause-members : goal.returns-clause-members
returns-clause-members c = replaced-members

pub returns-clause-policies : goal.returns-clause-policies
returns-clause-policies c = replaced-policies
