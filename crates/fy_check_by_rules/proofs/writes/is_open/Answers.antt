use Rattle.std.proofs.Common.{not, sym, ◌∙◌, ap}
use Rattle.fy_check_by_rules.proofs.Written.{closes-later}
use Rattle.fy_check_by_rules.proofs.writes.is_open.Goals as goal

pub returns : goal.returns
returns c = λ h place. ap not c.some_closes.ensures ∙ sym (closes-later h c.args.p.0 c.args.later.now)
