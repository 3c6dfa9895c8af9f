use Rattle.std.proofs.Common.{sym, ◌∙◌}
use Rattle.fy_locality.specs.declared.TheConstants.{MOST_PROCESSES}
use Rattle.fy_team.proofs.Rising.{none_above}
use Rattle.fy_team.proofs.forming.unfit_for.Goals as goal

pub set_of-requires : goal.set_of-requires
set_of-requires c = none_above _ MOST_PROCESSES c.as_slice-members.result.now c.has_unknown_process.ensures.few (sym c.has_unknown_process.ensures.strangers ∙ c.if-has_unknown_process.false)
