use Rattle.std.proofs.lemmas.Bool.{false≢true}
use Rattle.fy_laws.proofs.laws.versions.second_is_not.Goals as goal

pub returns-clause-differs : goal.returns-clause-differs
returns-clause-differs c = λ same. false≢true (same.destroyed_then 0)
