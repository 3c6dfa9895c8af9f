use Rattle.std.proofs.Common.{rules, ◌≡◌, true, false, None, sym, ◌∙◌}
use Rattle.std.proofs.lemmas.List.Sorted.{answers_always}
use Rattle.fy_registers.specs.declared.operation.Operation.{Operation}
use Rattle.fy_registers.specs.declared.operation.Act.TheVariants.{Write}
use Rattle.fy_registers.proofs.Histories.{is_earlier, in_order_from}
use Rattle.fy_values.proofs.Numbering.{out_of_order}
use Rattle.fy_values.proofs.judging.is_in_time.Goals as goal

abbrev no_operation : Operation
no_operation = record { act = Write 0; began = 0; ended = None }

pub returns-then-is_sorted_by : goal.returns-then-is_sorted_by
returns-then-is_sorted_by c = (
  (λ ends. record {
    in_order = in_order_from c.args.operations.now
        (c.if-is_sorted_by.ensures.cases is_earlier (answers_always _ _ _ (λ f a r g called. search rules)));
    each = c.end_in_time.ensures.0 ends;
  }),
  (λ in_time. c.end_in_time.ensures.1 in_time.each),
)

pub returns-else-is_sorted_by : goal.returns-else-is_sorted_by
returns-else-is_sorted_by c =
    let no : c.is_sorted_by.result ≡ false = c.if-is_sorted_by.false in (
      (λ yes. let x : true ≡ false = sym yes ∙ no in let y : ⊥ = cc in absurd y),
      (λ in_time. absurd (out_of_order c.args.operations.now
          (c.if-is_sorted_by.ensures.cases is_earlier (answers_always _ _ _ (λ f a r g called. search rules)))
          no_operation in_time)),
    )
