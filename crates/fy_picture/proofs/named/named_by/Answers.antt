use Rattle.std.proofs.Common.{◌&&◌, false, sym, ◌∙◌, ap, ap₂}
use Rattle.std.specs.Option.{option_map_or}
use Rattle.std.specs.FinSet as sets
use Rattle.std.specs.Ordering.{nat_cmp}
use Rattle.std.specs.Cmp.{nat_cmp_total}
use Rattle.fy_locality.specs.Locality.{has_value}
use Rattle.fy_kinds.specs.declared.order.Target.{Target}
use Rattle.fy_decide.specs.Verdicts.{targets}
use Rattle.fy_cluster.specs.Execution.{history_of}
use Rattle.fy_cluster.specs.Setup.{Setup}
use Rattle.fy_cluster.specs.History.{left}
use Rattle.fy_picture.proofs.named.named_by.Goals as goal

pub returns-in-Some : goal.returns-in-Some
returns-in-Some c = λ p.
    let s = c.args.cluster.now.setup in
    let h = history_of c.args.cluster.now in
    let map = c.map-map.ensures ∙ ap (λ (x : Setup). x.processes) c.config.ensures in
    ap (λ t. sets.contains t p) c.intersection.ensures
    ∙ sets.contains-intersection nat_cmp_total c.left.result c.members.result p
    ∙ ap₂ (λ a b. a && b) (c.left.ensures p) (c.members.ensures p ∙ ap (λ xs. has_value xs c.in-Some.target.key c.in-Some.target.value p) map)
    ∙ sym (c.target_of.ensures s h p ∙ ap (λ o. option_map_or (λ (target : Target). targets s.processes (left s h) target p) o false) c.in-Some.is)

pub returns-in-None : goal.returns-in-None
returns-in-None c = λ p.
    let s = c.args.cluster.now.setup in
    let h = history_of c.args.cluster.now in
    ap (λ t. sets.contains t p) c.empty.ensures ∙ sets.contains-empty nat_cmp p
    ∙ sym (c.target_of.ensures s h p ∙ ap (λ o. option_map_or (λ (target : Target). targets s.processes (left s h) target p) o false) c.in-None.is)
