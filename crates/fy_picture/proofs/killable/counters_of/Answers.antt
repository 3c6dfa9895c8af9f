use Rattle.std.proofs.Common.{◌≡◌, ◌≤◌, ◌<◌, ◌∙◌, ◌++◌, ◌∷◌, [], get_or, length, map, rules, take, subst, ap, arith}
use Rattle.std.specs.Arc.{arc_value}
use Rattle.std.proofs.lemmas.List.{take_all}
use Rattle.fy_picture.proofs.Losing.{counting, mapped_next}
use Rattle.fy_picture.proofs.killable.counters_of.Goals as goal

pub loop-policy-preserved : goal.loop-policy-preserved
loop-policy-preserved c =
    let f = counting c.args.config.now.processes in
    let all = c.args.config.now.policies in
    let i = c.loop-policy.policy-index in
    let own = c.policy-item.result in
    let within : i < length all = subst (λ ps. i < length ps) c.policies-policy-items.ensures c.loop-policy-test.true in
    let is : own ≡ get_or all i own = subst (λ ps. own ≡ get_or ps i own) c.policies-policy-items.ensures c.policy-item.is in
    let over : arc_value c.in_ok-map.map ≡ c.args.config.now.processes = search rules in
    let pushed : c.push.new.self.items ≡ c.loop-policy.counters.items ++ c.in_ok-begin.field-0 ∷ [] = c.in_ok-push.ensures.items in
    pushed ∙ ap (λ cs. cs ++ c.in_ok-begin.field-0 ∷ []) c.loop-policy.invariant
    ∙ ap (λ x. map f (take i all) ++ x ∷ []) (c.in_ok-begin.ensures ∙ ap (λ ps. counting ps own) over)
    ∙ mapped_next f all i own within is

pub returns : goal.returns
returns c =
    let past : length c.args.config.now.policies ≤ c.loop-policy.policy-index =
    subst (λ ps. length ps ≤ c.loop-policy.policy-index) c.policies-policy-items.ensures (omega arith) in
    c.loop-policy.invariant ∙ ap (map (counting c.args.config.now.processes)) (take_all c.loop-policy.policy-index c.args.config.now.policies past)
