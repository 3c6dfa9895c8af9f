use Rattle.std.proofs.lemmas.List.{length-set}
use Rattle.fy_kinds.specs.Kinds.{no_deed}
use Rattle.fy_grants.proofs.Lawful.{read_written}
use Rattle.fy_grants.proofs.laws.protections_after_change.Goals as goal

pub returns-clause-kinds : goal.returns-clause-kinds
returns-clause-kinds c = λ rights p q kinds within. read_written (λ _. kinds) rights.protections p q no_deed within

pub returns-clause-processes : goal.returns-clause-processes
returns-clause-processes c = λ rights p kinds. length-set rights.protections p kinds
