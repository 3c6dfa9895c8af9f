use Rattle.fy_actors.proofs.Playing as playing
use Rattle.fy_actors.proofs.laws.answers_tell.Goals as goal

pub returns : goal.returns
returns c = playing.answers_tell
