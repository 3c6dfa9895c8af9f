use Rattle.std.proofs.Common.{◌≡◌, ◌∙◌, ◌∷◌, ◌++◌, [], true, ap, sym, subst}
use Rattle.std.specs.FinSet as sets
use Rattle.fy_judge.specs.JudgeBooks.{RecordsGranted}
use Rattle.fy_judge.proofs.AnswerLemmas.{answer_no, answer_yes, stands_after}
use Rattle.fy_judge.proofs.answer.answer_ask.Goals as goal

pub returns-then-not-may_destroy : goal.returns-then-not-may_destroy
returns-then-not-may_destroy c = λ i granted stands here.
    let left : sets.contains c.args.dead.now.left c.args.ask.process.0 ≡ true = sym (c.has.ensures ∙ ap (λ s. sets.contains s c.args.ask.process.0) c.left.ensures.left) ∙ c.if-not-has.false in
    (answer_no i granted c.args.dead.now c.args.ask stands here c.put.new.self (c.put.ensures ∙ ap (λ s. sets.insert s c.args.ask.process.0) c.empty-set.ensures) _ left c.may_destroy.ensures.test c.if-not-may_destroy.true, stands)

pub returns : goal.returns
returns c = λ i granted stands here.
    let left : sets.contains c.args.dead.now.left c.args.ask.process.0 ≡ true = sym (c.has.ensures ∙ ap (λ s. sets.contains s c.args.ask.process.0) c.left.ensures.left) ∙ c.if-not-has.false in
    let one = c.put.ensures ∙ ap (λ s. sets.insert s c.args.ask.process.0) c.empty-set.ensures in (
      answer_yes i granted c.args.dead.now c.args.ask stands here c.put.new.self one _ left c.may_destroy.ensures.test c.if-not-may_destroy.false,
      subst (λ dead. RecordsGranted i (granted ++ c.args.ask ∷ []) dead) (sym c.strike.ensures) (stands_after i granted c.args.dead.now c.args.ask stands here c.put.new.self one),
    )
