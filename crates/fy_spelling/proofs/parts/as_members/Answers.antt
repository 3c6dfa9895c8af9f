use Rattle.std.proofs.Common.{refl}
use Rattle.fy_team.specs.Members.{are_members}
use Rattle.fy_spelling.proofs.Found.{members_kept, members_refused}
use Rattle.fy_spelling.proofs.parts.as_members.Goals as goal

pub returns-in-Ok : goal.returns-in-Ok
returns-in-Ok c =
    members_kept c.members_are_tested.ensures c.args.processes.items c.in-Ok.members (are_members c.args.processes.items) refl
    (λ refused. let no = c.from_vec.ensures.refused refused in let is = c.in-Ok.is in cc)
    c.in-Ok.ensures.made

pub returns-in-Err : goal.returns-in-Err
returns-in-Err c =
    members_refused c.members_are_tested.ensures c.args.processes.items (are_members c.args.processes.items) refl
    (λ are. let no = c.in-Err.ensures.accepted are in cc)
