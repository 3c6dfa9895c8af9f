use Rattle.fy_actors.proofs.Adding as adding
use Rattle.fy_actors.proofs.laws.receipts_stay_whole.Goals as goal

pub returns : goal.returns
returns c = adding.receipts_stay_whole
