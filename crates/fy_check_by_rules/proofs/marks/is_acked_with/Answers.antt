use Rattle.std.proofs.Common.{◌≡◌, ◌==◌, ◌||◌, ◌∙◌, ap₂, rules}
use Rattle.std.specs.List.{list_all}
use Rattle.fy_locality.specs.declared.ProcId.{ProcId}
use Rattle.fy_team.specs.Teams.{is_among}
use Rattle.fy_check_by_rules.specs.Past.{history_of}
use Rattle.fy_check_by_rules.proofs.Marking.{acked_with}
use Rattle.fy_check_by_rules.proofs.marks.is_acked_with.Goals as goal

pub returns : goal.returns
returns c =
    let p = c.args.p.0 in
    let marks = c.in_ok-marks.marks in
    let members = c.in_ok-members.members.items in
    let told : c.acked_or_marked-acked.result ≡ (marks.acked || list_all (λ (q : ProcId). is_among marks.marked.items q.0 || q.0 == p) members) = search rules in
    told
    ∙ ap₂ (λ a b. a || b) c.in_ok-marks.ensures.acked (ap₂ list_all (λ j (q : ProcId). c.in_ok-marks.ensures.marked q.0 j || q.0 == p) c.in_ok-members.ensures)
    ∙ acked_with (history_of c.args.before.now) c.args.rec p
