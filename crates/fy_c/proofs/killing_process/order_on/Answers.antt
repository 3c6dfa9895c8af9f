use Rattle.std.proofs.Common.{Some, arith, refl, sym, ap, ◌∙◌}
use Rattle.fy_kinds.specs.declared.order.Target.{Target}
use Rattle.fy_c.specs.Numbers.{kind_number}
use Rattle.fy_c.proofs.Processes.{has_name}
use Rattle.fy_c.proofs.killing_process.order_on.Goals as goal

pub value-requires : goal.value-requires
value-requires c = (c.in_ok-kind.ensures.given c.args.tear).process

pub unreachable-requires : goal.unreachable-requires
unreachable-requires c =
    let name = has_name c.args.map.now c.args.process
    (c.in_ok-kind.ensures.given c.args.tear).process in
    c.in_default.not-Some name.0 (c.value.ensures ∙ name.1)

pub returns-in_err-make-clause-none : goal.returns-in_err-make-clause-none
returns-in_err-make-clause-none c =
    let above = c.in_err-make.ensures.refused.0 refl in
    let ordered = c.in_ok-kind.ensures.ordered in
    absurd (omega (arith, above, ordered))

pub returns-clause-order : goal.returns-clause-order
returns-clause-order c =
    let are = c.in_ok-kind.ensures.given c.args.tear in
    let made = c.in_ok-make.ensures in
    record {
      named = record {
        key = ap (λ (target : Target). target.key) made.target;
        name =
            sym c.value.ensures ∙ c.in-Some.is
            ∙ ap (λ (target : Target). Some target.value) (sym made.target);
      };
      kind = are.kind_is ∙ ap kind_number (sym made.kind);
      floor = are.floor_is ∙ ap kind_number (sym made.floor);
      tear = sym made.tear;
    }
