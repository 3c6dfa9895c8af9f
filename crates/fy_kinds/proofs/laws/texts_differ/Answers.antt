use Rattle.fy_kinds.proofs.Texts.{kinds_differ, deeds_differ}
use Rattle.fy_kinds.proofs.laws.texts_differ.Goals as goal

pub returns : goal.returns
returns c = record { kinds = kinds_differ; deeds = deeds_differ }
