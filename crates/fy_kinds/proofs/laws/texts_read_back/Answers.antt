use Rattle.fy_kinds.proofs.Texts.{kind_read_back, deed_read_back}
use Rattle.fy_kinds.proofs.laws.texts_read_back.Goals as goal

pub returns : goal.returns
returns c = record { kinds = kind_read_back; deeds = deed_read_back }
