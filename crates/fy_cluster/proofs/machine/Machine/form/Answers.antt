use Rattle.std.proofs.Common.{nat_lt, length, Ok, Err, ◌∙◌, ap}
use Rattle.std.specs.FinSet as sets
use Rattle.fy_team.specs.declared.fault.TeamFault.TheVariants.{NoMemory}
use Rattle.fy_cluster.specs.Setup.{Setup}
use Rattle.fy_cluster.proofs.Formed.{form_ok, form_err, gone_set}
use Rattle.fy_cluster.proofs.Results.{told}
use Rattle.fy_cluster.proofs.machine.Machine.form.Goals as goal

pub returns-in-Ok : goal.returns-in-Ok
returns-in-Ok g c =
    let same = c.requires.1 in
    form_ok g.point c.args.members c.args.policy c.in-Ok.team c.args.self.now c.difference-gone.result c.form.new.self c.map-2.result.now c.policies.result.now c.requires.0
    (c.map-2.ensures ∙ ap (λ (s : Setup). s.processes) same)
    (c.policies.ensures ∙ ap (λ (s : Setup). s.policies) same)
    (λ p l. ap (λ s. sets.contains s p) c.difference-gone.ensures
    ∙ gone_set g.point.setup g.point.before c.everyone.result c.left.result (λ q. c.everyone.ensures q ∙ ap (λ n. nat_lt q n) (ap length (c.map.ensures ∙ ap (λ (s : Setup). s.processes) same))) (λ q. ap (λ s. sets.contains s q) c.left.ensures.left ∙ c.requires.0.dead.left q) p l)
    (told _ NoMemory (Ok c.in-Ok.team) c.in-Ok.ensures.refused c.in-Ok.ensures.memory)
    c.in-Ok.ensures.number
    c.in-Ok.ensures.formed

pub returns-in-Err : goal.returns-in-Err
returns-in-Err g c =
    let same = c.requires.1 in
    rw c.reply_to_fault.ensures
    (form_err g.point c.args.members c.args.policy c.args.self.now c.difference-gone.result c.form.new.self c.map-2.result.now c.policies.result.now c.in-Err.fault c.requires.0
    (c.map-2.ensures ∙ ap (λ (s : Setup). s.processes) same)
    (c.policies.ensures ∙ ap (λ (s : Setup). s.policies) same)
    (λ p l. ap (λ s. sets.contains s p) c.difference-gone.ensures
    ∙ gone_set g.point.setup g.point.before c.everyone.result c.left.result (λ q. c.everyone.ensures q ∙ ap (λ n. nat_lt q n) (ap length (c.map.ensures ∙ ap (λ (s : Setup). s.processes) same))) (λ q. ap (λ s. sets.contains s q) c.left.ensures.left ∙ c.requires.0.dead.left q) p l)
    (told _ NoMemory (Err c.in-Err.fault) c.in-Err.ensures.refused c.in-Err.ensures.memory)
    c.in-Err.ensures.err)
