use Rattle.std.proofs.lemmas.Bool.{false≢true}
use Rattle.fy_laws.proofs.laws.safe.kept_by_someone.Goals as goal

pub returns-clause-wrong : goal.returns-clause-wrong
returns-clause-wrong c = λ kept. false≢true kept.someone
