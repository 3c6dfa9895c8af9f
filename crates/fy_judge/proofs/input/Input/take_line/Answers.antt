use Rattle.std.proofs.Common.{◌∙◌, Some, Err, refl, ap, sym, subst}
use Rattle.std.proofs.lemmas.Result.{err_from_is_err_and}
use Rattle.fy_judge.specs.declared.stop.JudgeFault.TheVariants.{Syntax}
use Rattle.fy_judge.specs.JudgeLines.{tokens_of, parse_line, Step}
use Rattle.fy_judge.proofs.InputLemmas.{missing, lone_unsaid, keyword_unsaid}
use Rattle.fy_judge.proofs.WordLemmas.{nothing_said}
use Rattle.fy_judge.proofs.input.Input.take_line.Goals as goal

pub returns-in_err-rest-clause-refused : goal.returns-in_err-rest-clause-refused
returns-in_err-rest-clause-refused c =
    let p = err_from_is_err_and c.from_residual.result c.from_residual.ensures.1 in
    let m = missing c.first_word.result.1 (Err c.in_err-rest.field-0.0) Syntax c.in_err-rest.field-0.0 c.in_err-rest.ensures.value refl in
    rw (p.1, p.2)
    (subst (λ fault. Step c.args.self.now (parse_line c.args.line.now) (Err fault)) (sym m.1)
    (lone_unsaid c.args.self.now c.args.line.now c.first_word.result.0.now (rw m.0 at c.first_word.ensures)))

pub returns-in_err-ok_or-clause-refused : goal.returns-in_err-ok_or-clause-refused
returns-in_err-ok_or-clause-refused c =
    let p = err_from_is_err_and c.from_residual-in_err-ok_or.result c.from_residual-in_err-ok_or.ensures.1 in
    let m = missing c.keyword_in.result (Err c.in_err-ok_or.field-0.0) Syntax c.in_err-ok_or.field-0.0 c.in_err-ok_or.ensures.value refl in
    rw (p.1, p.2)
    (subst (λ fault. Step c.args.self.now (parse_line c.args.line.now) (Err fault)) (sym m.1)
    (keyword_unsaid c.args.self.now c.args.line.now c.first_word.result.0.now c.in_ok-rest.rest.now _ (rw c.in_ok-rest.ensures.ok_part at c.first_word.ensures)
    (sym m.0 ∙ c.keyword_in.ensures) (nothing_said (tokens_of c.in_ok-rest.rest.now))))

pub returns-in_err-text-in-Policy-clause-refused : goal.returns-in_err-text-in-Policy-clause-refused
returns-in_err-text-in-Policy-clause-refused c =
    let p = err_from_is_err_and c.from_residual-in_err-text-in-Policy.result c.from_residual-in_err-text-in-Policy.ensures.1 in
    let m = missing c.policy_text.result (Err c.in_err-text-in-Policy.field-0.0) Syntax c.in_err-text-in-Policy.field-0.0 c.in_err-text-in-Policy.ensures.value refl in
    rw (p.1, p.2)
    (subst (λ fault. Step c.args.self.now (parse_line c.args.line.now) (Err fault)) (sym m.1)
    (keyword_unsaid c.args.self.now c.args.line.now c.first_word.result.0.now c.in_ok-rest.rest.now _ (rw c.in_ok-rest.ensures.ok_part at c.first_word.ensures)
    (ap Some (sym c.in-Policy.is) ∙ sym c.in_ok-ok_or.ensures.ok_part ∙ c.keyword_in.ensures) (sym (rw m.0 at c.policy_text.ensures))))

pub returns-in_err-locality-in-Process-clause-refused : goal.returns-in_err-locality-in-Process-clause-refused
returns-in_err-locality-in-Process-clause-refused c =
    let p = err_from_is_err_and c.from_residual-in_err-locality-in-Process.result c.from_residual-in_err-locality-in-Process.ensures.1 in
    let m = missing c.process_of.result (Err c.in_err-locality-in-Process.field-0.0) Syntax c.in_err-locality-in-Process.field-0.0 c.in_err-locality-in-Process.ensures.value refl in
    rw (p.1, p.2)
    (subst (λ fault. Step c.args.self.now (parse_line c.args.line.now) (Err fault)) (sym m.1)
    (keyword_unsaid c.args.self.now c.args.line.now c.first_word.result.0.now c.in_ok-rest.rest.now _ (rw c.in_ok-rest.ensures.ok_part at c.first_word.ensures)
    (ap Some (sym c.in-Process.is) ∙ sym c.in_ok-ok_or.ensures.ok_part ∙ c.keyword_in.ensures) (sym (rw m.0 at c.process_of.ensures))))

pub returns-in_err-id-in-Ask-clause-refused : goal.returns-in_err-id-in-Ask-clause-refused
returns-in_err-id-in-Ask-clause-refused c =
    let p = err_from_is_err_and c.from_residual-in_err-id-in-Ask.result c.from_residual-in_err-id-in-Ask.ensures.1 in
    let m = missing c.asked_id.result (Err c.in_err-id-in-Ask.field-0.0) Syntax c.in_err-id-in-Ask.field-0.0 c.in_err-id-in-Ask.ensures.value refl in
    rw (p.1, p.2)
    (subst (λ fault. Step c.args.self.now (parse_line c.args.line.now) (Err fault)) (sym m.1)
    (keyword_unsaid c.args.self.now c.args.line.now c.first_word.result.0.now c.in_ok-rest.rest.now _ (rw c.in_ok-rest.ensures.ok_part at c.first_word.ensures)
    (ap Some (sym c.in-Ask.is) ∙ sym c.in_ok-ok_or.ensures.ok_part ∙ c.keyword_in.ensures) (sym (rw m.0 at c.asked_id.ensures c.in-Ask.loss))))
