use Rattle.std.proofs.Common.{refl}
use Rattle.std.proofs.lemmas.Bool.{false≢true}
use Rattle.std.proofs.lemmas.Result.{err_from_is_err_and}
use Rattle.fy_c.specs.Killing.{NoOrder}
use Rattle.fy_c.proofs.killing.order_of.Goals as goal

pub returns-in_default-clause-none : goal.returns-in_default-clause-none
returns-in_default-clause-none c = NoOrder.no_key c.in_default.ensures.none

pub returns-in_default-kind_of-clause-none : goal.returns-in_default-kind_of-clause-none
returns-in_default-kind_of-clause-none c = NoOrder.no_kind c.in_default-kind_of.ensures.none

pub returns-in_default-kind_of-2-clause-none : goal.returns-in_default-kind_of-2-clause-none
returns-in_default-kind_of-2-clause-none c = NoOrder.no_floor c.in_default-kind_of-2.ensures.none

pub returns-in_default-from_bytes-clause-none : goal.returns-in_default-from_bytes-clause-none
returns-in_default-from_bytes-clause-none c =
    NoOrder.no_name
    (record {
      key = c.in-Some.key;
      kind = c.in-Some-kind_of.kind;
      floor = c.in-Some-kind_of-2.floor;
      key_is = c.in-Some.ensures.some;
      kind_is = c.in-Some-kind_of.ensures.some;
      floor_is = c.in-Some-kind_of-2.ensures.some;
    })
    (λ is. absurd (false≢true (c.in_default-from_bytes.ensures.accepted.1 is)))

pub returns-in_err-make-clause-none : goal.returns-in_err-make-clause-none
returns-in_err-make-clause-none c =
    let p = err_from_is_err_and c.from_residual.result c.from_residual.ensures.1 in
    rw (p.1, p.2)
    (NoOrder.above
    (record {
      key = c.in-Some.key;
      kind = c.in-Some-kind_of.kind;
      floor = c.in-Some-kind_of-2.floor;
      key_is = c.in-Some.ensures.some;
      kind_is = c.in-Some-kind_of.ensures.some;
      floor_is = c.in-Some-kind_of-2.ensures.some;
    })
    (c.in-Ok.ensures.accepted.0 refl)
    (c.in_err-make.ensures.refused.0 refl))
