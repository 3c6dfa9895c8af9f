use Rattle.std.proofs.Common.{◌++◌, ◌∙◌, ◌<◌, List, ap, ap₂, arith, drop, length, refl, subst}
use Rattle.std.specs.Prelude.{ℕ}
use Rattle.core.specs.Result.{result_from_control_flow}
use Rattle.fy_c.specs.Planning.{Gives}
use Rattle.fy_c.specs.declared.planning.FyOrder.{FyOrder}
use Rattle.fy_c.proofs.planning.give.Goals as goal

pub returns-then-buffer-len-clause-given : goal.returns-then-buffer-len-clause-given
returns-then-buffer-len-clause-given c =
    let count = c.in_ok-orders.orders.ok.0 in
    rw (c.branch-orders.ensures ∙ ap result_from_control_flow c.in_ok-orders.is)
    (Gives.short
    (subst (λ n. length c.args.buffer.now < n) (c.len-2.ensures ∙ count) c.if-buffer-len.true)
    (c.len.ensures ∙ count) refl)

pub returns-clause-given : goal.returns-clause-given
returns-clause-given c =
    let count = c.in_ok-orders.orders.ok.0 in
    let enough = c.if-buffer-len.false in
    let there = c.len-2.ensures ∙ count in
    rw (c.branch-orders.ensures ∙ ap result_from_control_flow c.in_ok-orders.is)
    (Gives.given (omega (arith, enough, there)) (c.len.ensures ∙ count)
    (ap₂ (λ (xs : List FyOrder) (n : ℕ). xs ++ drop n c.args.buffer.now)
    (c.copy_from_slice.ensures.after ∙ c.deref.ensures.value) (c.len-3.ensures ∙ count)))
