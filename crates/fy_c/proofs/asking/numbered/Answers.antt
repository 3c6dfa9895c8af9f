use Rattle.std.proofs.Common.{subst, sym}
use Rattle.std.proofs.lemmas.Bool.{false≢true}
use Rattle.fy_c.specs.Asking.{Finds}
use Rattle.fy_c.specs.Numbers.{process_number}
use Rattle.fy_c.proofs.Finding.{finds}
use Rattle.fy_c.proofs.asking.numbered.Goals as goal

pub returns-in-Ok : goal.returns-in-Ok
returns-in-Ok c =
    subst (Finds c.args.map.now c.args.name.now) (sym c.process_number.ensures)
    (subst (λ name. Finds c.args.map.now name (process_number c.find.result))
    c.in-Ok.ensures.value
    (finds c.args.map.now c.in-Ok.name c.find.result c.find.ensures.found c.find.ensures.within
    c.find.ensures.missing))

pub returns-in-Err : goal.returns-in-Err
returns-in-Err c = Finds.no_name (λ is. absurd (false≢true (c.in-Err.ensures.accepted.1 is)))
