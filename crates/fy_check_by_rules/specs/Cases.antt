-- the situation in which the answer of a case is judged
use Rattle.fy_decide.specs.Verdicts.{Situation}
use Rattle.fy_cluster.specs.Rules.{situation}
use Rattle.fy_check_by_rules.specs.declared.rules.Case.{Case}
use Rattle.fy_check_by_rules.specs.Past.{history_of}

-- what the answer rests on
abbrev pub situation_of : Case → Situation
situation_of case = situation case.before.now.config.now (history_of case.before.now) case.by
