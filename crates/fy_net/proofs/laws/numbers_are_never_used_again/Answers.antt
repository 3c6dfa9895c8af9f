use Rattle.fy_net.proofs.Numbers.{next-unused, next-sent, earlier-kept, removed-gone}
use Rattle.fy_net.proofs.laws.numbers_are_never_used_again.Goals as goal

pub returns-clause-unused : goal.returns-clause-unused
returns-clause-unused c = next-unused

pub returns-clause-next : goal.returns-clause-next
returns-clause-next c = next-sent

pub returns-clause-earlier : goal.returns-clause-earlier
returns-clause-earlier c = earlier-kept

pub returns-clause-left : goal.returns-clause-left
returns-clause-left c = removed-gone
