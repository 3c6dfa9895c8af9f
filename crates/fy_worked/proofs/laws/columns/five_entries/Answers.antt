use Rattle.fy_worked.proofs.Columns.{right, at_the_end, left_out, short, long, narrow, uneven, wide}
use Rattle.fy_worked.proofs.laws.columns.five_entries.Goals as goal

pub returns-clause-right : goal.returns-clause-right
returns-clause-right c = right

pub returns-clause-at_the_end : goal.returns-clause-at_the_end
returns-clause-at_the_end c = at_the_end

pub returns-clause-left_out : goal.returns-clause-left_out
returns-clause-left_out c = left_out

pub returns-clause-short : goal.returns-clause-short
returns-clause-short c = short

pub returns-clause-long : goal.returns-clause-long
returns-clause-long c = long

pub returns-clause-narrow : goal.returns-clause-narrow
returns-clause-narrow c = narrow _

pub returns-clause-uneven : goal.returns-clause-uneven
returns-clause-uneven c = uneven _

pub returns-clause-wide : goal.returns-clause-wide
returns-clause-wide c = wide _
