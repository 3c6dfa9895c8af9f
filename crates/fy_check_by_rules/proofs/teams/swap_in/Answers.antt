use Rattle.std.proofs.Common.{◌<◌, ◌≡◌, length, get_or, refl, rules, ◌∙◌, ap}
use Rattle.fy_team.specs.Teams.{swapped}
use Rattle.fy_check_by_rules.proofs.Formed.{swapped_in}
use Rattle.fy_check_by_rules.proofs.teams.swap_in.Goals as goal

pub returns : goal.returns
returns c =
    let items = c.args.list.now.items in
    let x = c.index_mut-kept.result.now in
    let within : c.args.swap.team < length items = search rules in
    let is : x ≡ get_or items c.args.swap.team x = search rules in
    swapped_in items c.args.swap.team x _ c.args.swap.out c.args.swap.into within is (c.in_ok-kept.ensures ∙ ap (swapped c.args.swap.out c.args.swap.into) c.deref.ensures.value) refl
