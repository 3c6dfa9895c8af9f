use Rattle.fy_guard.proofs.guard.put_answer.Goals as goal

pub returns-then-questions-clause-err : goal.returns-then-questions-clause-err
returns-then-questions-clause-err c = rw c.if-questions.true c.handle.ensures.err

pub returns-else-questions-clause-err : goal.returns-else-questions-clause-err
returns-else-questions-clause-err c = rw c.if-questions.false c.answer.ensures.err
