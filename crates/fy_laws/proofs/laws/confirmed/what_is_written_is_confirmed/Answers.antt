use Rattle.fy_laws.proofs.Confirming.{runs_are_confirmed, answers_are_confirmed}
use Rattle.fy_laws.proofs.laws.confirmed.what_is_written_is_confirmed.Goals as goal

pub returns-clause-runs : goal.returns-clause-runs
returns-clause-runs c = runs_are_confirmed c.a_text_is_a_line.ensures c.versions.ensures.second

pub returns-clause-answers : goal.returns-clause-answers
returns-clause-answers c = answers_are_confirmed c.a_text_is_a_line.ensures c.versions.ensures.second
