use Rattle.fy_judge.proofs.WordLemmas.{not_lone}
use Rattle.fy_judge.proofs.line.only_word.Goals as goal

pub returns-in_default-Some-clause-none : goal.returns-in_default-Some-clause-none
returns-in_default-Some-clause-none c = not_lone c.args.line.now c.first_word.result.0.now c.in_default-Some.field-0-1.now (rw c.in_default-Some.is-1 at c.first_word.ensures)
