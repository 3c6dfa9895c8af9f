use Rattle.std.proofs.Common.{◌≡◌, ◌∙◌, ℕ, List, Ok, Err, sym, subst}
use Rattle.fy_decide.specs.Safety.{first_unmet}
use Rattle.fy_judge.specs.JudgeTexts.{Judges, IsFaultless, IfJudgeRefusal, answered}
use Rattle.fy_judge.proofs.LineLemmas.{all_met, unmet_refused}
use Rattle.fy_judge.proofs.judge.answers.Goals as goal

pub returns-in_ok-answer_asks-in-Ok-clause-answered : goal.returns-in_ok-answer_asks-in-Ok-clause-answered
returns-in_ok-answer_asks-in-Ok-clause-answered c = λ bytes faultless.
    let same : first_unmet c.map.result.now c.policies.result.now ≡ first_unmet c.args.input.now.processes c.args.input.now.policies = (λ k. first_unmet (c.map.ensures k) (c.policies.ensures.policies k)) in
    subst (λ text. Judges bytes (Ok text)) (sym c.in_ok-answer_asks-in-Ok.ensures)
    (answered c.args.input.now faultless (all_met _ c.make.result (λ k e. c.make.ensures.unmet k (same ∙ e)) (λ e. c.make.ensures.memory (same ∙ e)) c.in-Ok.dead c.in-Ok.is))

pub returns-in-Err-clause-refused : goal.returns-in-Err-clause-refused
returns-in-Err-clause-refused c =
    let same : first_unmet c.map.result.now c.policies.result.now ≡ first_unmet c.args.input.now.processes c.args.input.now.policies = (λ k. first_unmet (c.map.ensures k) (c.policies.ensures.policies k)) in
    subst (λ stop. (bytes : List ℕ) → IsFaultless bytes c.args.input.now → IfJudgeRefusal stop (Judges bytes (Err stop))) (sym c.dead_book_stop.ensures.stop)
    (unmet_refused c.in-Err.fault c.args.input.now c.make.result (λ k e. c.make.ensures.unmet k (same ∙ e)) (λ e. c.make.ensures.memory (same ∙ e)) c.in-Err.is)
