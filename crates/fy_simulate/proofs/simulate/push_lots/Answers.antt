use Rattle.std.proofs.Common.{◌∙◌, ◌∷◌, [], ◌++◌, ap, append_assoc}
use Rattle.std.specs.Prelude.{replicate}
use Rattle.std.proofs.lemmas.List.{replicate_more}
use Rattle.fy_simulate.proofs.simulate.push_lots.Goals as goal

pub loop-preserved : goal.loop-preserved
loop-preserved c =
    c.in_ok-push.ensures.items
    ∙ (ap (λ xs. xs ++ c.args.actor ∷ []) c.loop.invariant
    ∙ (append_assoc c.args.lots.now.items (replicate c.loop.counter c.args.actor) (c.args.actor ∷ [])
    ∙ ap (λ xs. c.args.lots.now.items ++ xs) (replicate_more c.loop.counter c.args.actor)))
