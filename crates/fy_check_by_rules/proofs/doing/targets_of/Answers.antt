use Rattle.std.proofs.Common.{false, sym, ◌∙◌, ap}
use Rattle.std.specs.Option.{option_map_or}
use Rattle.std.specs.FinSet as sets
use Rattle.fy_kinds.specs.declared.order.Target.{Target}
use Rattle.fy_decide.specs.Verdicts.{targets}
use Rattle.fy_cluster.specs.History.{left}
use Rattle.fy_check_by_rules.specs.Past.{history_of}
use Rattle.std.specs.Ordering.{nat_cmp}
use Rattle.fy_check_by_rules.proofs.doing.targets_of.Goals as goal

pub returns-in-Some : goal.returns-in-Some
returns-in-Some c = λ p.
    let setup = c.args.before.now.config.now in
    let h = history_of c.args.before.now in
    c.targets.ensures p ∙ sym (c.target_of.ensures setup h p ∙ ap (λ o. option_map_or (λ (target : Target). targets setup.processes (left setup h) target p) o false) c.in-Some.is)

pub returns-in-None : goal.returns-in-None
returns-in-None c = λ p.
    let setup = c.args.before.now.config.now in
    let h = history_of c.args.before.now in
    ap (λ s. sets.contains s p) c.empty.ensures ∙ sets.contains-empty nat_cmp p
    ∙ sym (c.target_of.ensures setup h p ∙ ap (λ o. option_map_or (λ (target : Target). targets setup.processes (left setup h) target p) o false) c.in-None.is)
