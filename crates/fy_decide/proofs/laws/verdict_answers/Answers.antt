use Rattle.fy_decide.proofs.Hardest.{verdict_answers, one_answers}
use Rattle.fy_decide.proofs.laws.verdict_answers.Goals as goal

pub returns : goal.returns
returns c = record {
  answers = verdict_answers c.test_is_satisfaction.ensures c.least_is_first_found.ensures c.processes_have_values.ensures;
  one = one_answers c.test_is_satisfaction.ensures c.least_is_first_found.ensures c.processes_have_values.ensures;
}
