use Rattle.std.proofs.Common.{[], ◌∷◌, ◌++◌}
use Rattle.std.proofs.lemmas.List.{length-set}
use Rattle.fy_grants.proofs.Lawful.{read_written}
use Rattle.fy_grants.proofs.laws.grants_after_give.Goals as goal

pub returns-clause-lists : goal.returns-clause-lists
returns-clause-lists c = λ rights grant a within. read_written (λ own. own ++ grant ∷ []) rights.grants grant.actor a [] within

pub returns-clause-actors : goal.returns-clause-actors
returns-clause-actors c = λ rights grant. length-set rights.grants grant.actor _
