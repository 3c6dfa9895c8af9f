use Rattle.std.proofs.Common.{List, leb, length, ap, ◌∙◌}
use Rattle.std.specs.List.{list_any}
use Rattle.fy_locality.specs.declared.ProcId.{ProcId}
use Rattle.fy_locality.specs.declared.TheConstants.{MOST_PROCESSES}
use Rattle.fy_team.specs.Teams.{Team}
use Rattle.fy_team.proofs.Rising.{none_above}
use Rattle.fy_team.proofs.forming.set_of_fit.Goals as goal

pub set_of-requires : goal.set_of-requires
set_of-requires c =
    none_above _ MOST_PROCESSES c.as_slice-members.result.now c.has_unknown_process-known.ensures.few
    (ap (λ (ps : List ProcId). list_any (λ p. leb (length c.args.map.now) p.0) ps) (c.as_slice-members.ensures.members ∙ ap (λ (it : Team). it.members) c.team.view_is) ∙ c.requires)
