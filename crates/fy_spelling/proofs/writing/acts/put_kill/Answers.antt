use Rattle.std.proofs.Common.{◌≡◌, ◌∙◌, ap, subst, codes}
use Rattle.fy_locality.specs.Key.{key_text}
use Rattle.fy_kinds.specs.Kinds.{kind_text}
use Rattle.fy_kinds.specs.declared.order.Target.{Target}
use Rattle.fy_spelling.specs.AppendsOrOom.{AppendsOrOom}
use Rattle.fy_spelling.specs.Pieces.{kill_head_text, valued_text}
use Rattle.fy_spelling.proofs.Joined.{Puts, joins}
use Rattle.fy_spelling.proofs.writing.acts.put_kill.Goals as goal

pub returns-clause-text : goal.returns-clause-text
returns-clause-text c =
    let order = c.args.order.now in
    let floor = kind_text order.floor in
    let key = key_text order.target.key in
    let kind = kind_text order.kind in
    let tear = codes "\",\"tear\":" in
    let words_are : kill_head_text c.text.result.now c.text-2.result.now c.text-3.result.now
    ≡ kill_head_text floor key kind =
    ap (λ w. kill_head_text w c.text-2.result.now c.text-3.result.now)
    (c.text.ensures ∙ ap kind_text c.floor.ensures.floor)
    ∙ ap (λ w. kill_head_text floor w c.text-3.result.now)
    (c.text-2.ensures ∙ ap (λ (target : Target). key_text target.key) c.target-target.ensures)
    ∙ ap (kill_head_text floor key) (c.text-3.ensures ∙ ap kind_text c.kind.ensures.kind) in
    let value_is : valued_text tear c.tear.result c.target-target.result.value
    ≡ valued_text tear order.tear order.target.value =
    ap (λ n. valued_text tear n c.target-target.result.value) c.tear.ensures
    ∙ ap (λ (target : Target). valued_text tear order.tear target.value) c.target-target.ensures in
    joins _ (kill_head_text floor key kind) (valued_text tear order.tear order.target.value)
    c.args.out.now c.put_kill_head.new.out _
    (subst (Puts c.args.out.now c.put_kill_head.new.out) words_are c.in_ok-put_kill_head.ensures)
    (subst (AppendsOrOom c.put_valued.result c.put_kill_head.new.out c.put_valued.new.out) value_is
    c.put_valued.ensures.text)
