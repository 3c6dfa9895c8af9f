use Rattle.fy_holders.proofs.Turning.{odd_is}
use Rattle.fy_holders.proofs.turns.is_odd.Goals as goal

pub returns : goal.returns
returns c = odd_is c.args.count
