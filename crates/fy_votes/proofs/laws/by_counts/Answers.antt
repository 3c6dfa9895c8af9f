use Rattle.std.proofs.Common.{arith}
use Rattle.fy_votes.proofs.ByCount.{by_counts, most_may_forget}
use Rattle.fy_votes.proofs.laws.by_counts.Goals as goal

pub returns-clause-counts : goal.returns-clause-counts
returns-clause-counts c = by_counts c.a_quorum_is_left.ensures c.test_is_satisfaction.ensures

pub returns-clause-none_of_five : goal.returns-clause-none_of_five
returns-clause-none_of_five c = most_may_forget c.a_quorum_is_left.ensures c.test_is_satisfaction.ensures 5 3 3 0 (omega arith) (omega arith) (omega arith)

pub returns-clause-one_of_seven : goal.returns-clause-one_of_seven
returns-clause-one_of_seven c = most_may_forget c.a_quorum_is_left.ensures c.test_is_satisfaction.ensures 7 5 4 1 (omega arith) (omega arith) (omega arith)

pub returns-clause-three_of_seven : goal.returns-clause-three_of_seven
returns-clause-three_of_seven c = most_may_forget c.a_quorum_is_left.ensures c.test_is_satisfaction.ensures 7 7 4 3 (omega arith) (omega arith) (omega arith)
