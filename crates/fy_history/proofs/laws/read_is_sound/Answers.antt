use Rattle.fy_history.proofs.Taking.{read_is_sound}
use Rattle.fy_history.proofs.laws.read_is_sound.Goals as goal

pub returns : goal.returns
returns c = read_is_sound
