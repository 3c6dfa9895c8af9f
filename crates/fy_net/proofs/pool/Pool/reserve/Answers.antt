use Rattle.std.proofs.Common.{arith}
use Rattle.fy_net.proofs.pool.Pool.reserve.Goals as goal

pub returns-in_err-reserve-clause-like : goal.returns-in_err-reserve-clause-like
returns-in_err-reserve-clause-like c =
    let like = c.tidy.ensures.like in
    record {
      sent = like.sent;
      processes = like.processes;
      room = λ n had. (omega (arith, (like.room n had).0, c.reserve.ensures.len, c.reserve.ensures.capacity), (like.room n had).1);
    }

pub returns-in_err-reserve-clause-there : goal.returns-in_err-reserve-clause-there
returns-in_err-reserve-clause-there c =
    λ had. absurd (omega (arith, (c.tidy.ensures.like.room c.args.count had).0, c.in_err-reserve.ensures.full))

pub returns-clause-like : goal.returns-clause-like
returns-clause-like c =
    let like = c.tidy.ensures.like in
    record {
      sent = like.sent;
      processes = like.processes;
      room = λ n had. (omega (arith, (like.room n had).0, c.reserve.ensures.len, c.reserve.ensures.capacity), omega (arith, (like.room n had).1, c.reserve-2.ensures.len, c.reserve-2.ensures.capacity));
    }

pub returns-clause-there : goal.returns-clause-there
returns-clause-there c = λ had. c.reserve-2.ensures.succeeds (c.tidy.ensures.like.room c.args.count had).1
