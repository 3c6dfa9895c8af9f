use Rattle.std.proofs.Common.{◌≤◌, ◌<◌, Some, Ok, Err, sym, subst}
use Rattle.fy_judge.specs.declared.stop.JudgeFault.TheVariants.{Syntax, TooMany}
use Rattle.fy_judge.specs.JudgeLines.{Input, policy, Step, policy_late, policy_ninth, policy_next}
use Rattle.fy_judge.specs.JudgeViews.{IfFault, policy_fault_of}
use Rattle.std.proofs.lemmas.Result.{err_from_is_err_and}
use Rattle.fy_judge.proofs.InputLemmas.{untrue, policy_line_refused}
use Rattle.fy_judge.proofs.input.Input.take_policy.Goals as goal

pub returns-then-not-is_empty-clause-refused : goal.returns-then-not-is_empty-clause-refused
returns-then-not-is_empty-clause-refused c = subst (λ i. Step i (Some (policy c.args.text.now)) (Err Syntax)) c.self.view_is (policy_late c.args.text.now (λ none. untrue _ c.if-not-is_empty.true (c.is_empty.ensures.1 none)))

pub returns-in_err-policy-clause-refused : goal.returns-in_err-policy-clause-refused
returns-in_err-policy-clause-refused c =
    let p = err_from_is_err_and c.from_residual.result c.from_residual.ensures.1 in
    rw (p.1, p.2)
    (subst (λ i. IfFault (policy_fault_of c.in_err-policy.field-0.0) (λ fault. Step i (Some (policy c.args.text.now)) (Err fault))) c.self.view_is
    (policy_line_refused (record { policies = c.self.inside.policies.items; processes = c.self.inside.map; asks = c.self.inside.asks.items }) c.args.text.now c.in_err-policy.field-0.0 (c.is_empty.ensures.0 c.if-not-is_empty.false) c.in_err-policy.ensures))

pub returns-then-len-ge-MOST_POLICIES-clause-refused : goal.returns-then-len-ge-MOST_POLICIES-clause-refused
returns-then-len-ge-MOST_POLICIES-clause-refused c = subst (λ i. Step i (Some (policy c.args.text.now)) (Err TooMany)) c.self.view_is (policy_ninth c.args.text.now c.in_ok-policy.policy (c.is_empty.ensures.0 c.if-not-is_empty.false) c.in_ok-policy.ensures (subst (λ n. 8 ≤ n) c.self.inside.policies.ok.0 (subst (λ n. 8 ≤ n) c.len.ensures c.if-len-ge-MOST_POLICIES.true)))

pub returns-clause-taken : goal.returns-clause-taken
returns-clause-taken c =
    let inside : Input = record { policies = c.self.inside.policies.items; processes = c.self.inside.map; asks = c.self.inside.asks.items } in
    subst (λ i. Step i (Some (policy c.args.text.now)) (Ok (record inside { policies = c.push.new.self.items }))) c.self.view_is
    (subst (λ ps. Step inside (Some (policy c.args.text.now)) (Ok (record inside { policies = ps }))) (sym c.in_ok-push.ensures.items)
    (policy_next c.args.text.now c.in_ok-policy.policy (c.is_empty.ensures.0 c.if-not-is_empty.false) c.in_ok-policy.ensures (subst (λ n. n < 8) c.self.inside.policies.ok.0 (subst (λ n. n < 8) c.len.ensures c.if-len-ge-MOST_POLICIES.false))))
