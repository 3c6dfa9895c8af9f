use Rattle.std.proofs.Common.{Ok, refl, sym, subst}
use Rattle.fy_questions.specs.declared.question.Attempt.TheVariants.{Kill}
use Rattle.fy_questions.specs.declared.question.Question.TheVariants.{Judge}
use Rattle.fy_asking.specs.Asks.{IsCheckedAsk}
use Rattle.fy_asking.proofs.reading.checked.Goals as goal

pub returns-in-Ok : goal.returns-in-Ok
returns-in-Ok c =
    subst (λ asked. IsCheckedAsk asked (Ok (Judge c.in-Order.by (Kill c.in-Ok.order)))) (sym c.in-Order.is)
    (record {
      order = c.in-Ok.order;
      is = refl;
      target_is = c.in-Ok.ensures.target;
      kind_is = c.in-Ok.ensures.kind;
      floor_is = c.in-Ok.ensures.floor;
      tear_is = c.in-Ok.ensures.tear;
    })
