use Rattle.fy_actors.proofs.Playing as playing
use Rattle.fy_actors.proofs.laws.parts_are_kept.Goals as goal

pub returns-clause-turns : goal.returns-clause-turns
returns-clause-turns c = playing.turns_keep_to

pub returns-clause-others : goal.returns-clause-others
returns-clause-others c = playing.others_change_no_part
