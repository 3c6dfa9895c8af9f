use Rattle.std.proofs.Common.{Ok, refl, sym, subst}
use Rattle.fy_spelling.specs.Candidate.{IsCheckedAct}
use Rattle.fy_acts.specs.declared.act.Act.TheVariants.{Kill}
use Rattle.fy_spelling.proofs.reading.checked_act.Goals as goal

pub returns-in-Ok : goal.returns-in-Ok
returns-in-Ok c =
    subst (λ asked. IsCheckedAct asked (Ok (Kill c.in-Ok.order))) (sym c.in-Order.is)
    (record {
      order = c.in-Ok.order;
      is = refl;
      target_is = c.in-Ok.ensures.target;
      kind_is = c.in-Ok.ensures.kind;
      floor_is = c.in-Ok.ensures.floor;
      tear_is = c.in-Ok.ensures.tear;
    })
