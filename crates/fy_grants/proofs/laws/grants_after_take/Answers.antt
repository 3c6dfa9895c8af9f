use Rattle.std.proofs.Common.{[]}
use Rattle.std.specs.Prelude.{remove}
use Rattle.std.proofs.lemmas.List.{length-set}
use Rattle.fy_grants.proofs.Lawful.{read_written}
use Rattle.fy_grants.proofs.laws.grants_after_take.Goals as goal

pub returns-clause-lists : goal.returns-clause-lists
returns-clause-lists c = λ rights actor index a within. read_written (λ own. remove own index) rights.grants actor a [] within

pub returns-clause-actors : goal.returns-clause-actors
returns-clause-actors c = λ rights actor index. length-set rights.grants actor _
