use Rattle.fy_votes.proofs.Electing.{smaller_may_forget}
use Rattle.fy_votes.proofs.laws.smaller_may_forget.Goals as goal

pub returns : goal.returns
returns c = smaller_may_forget
