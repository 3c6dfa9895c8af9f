use Rattle.std.proofs.Common.{◌≡◌, ◌∙◌, ◌+◌, length, sym, arith}
use Rattle.std.specs.Prelude.{is_some}
use Rattle.fy_net.specs.Pool.{is_busy}
use Rattle.fy_net.proofs.Busy.{noted_put, noted_left, busy_read}
use Rattle.fy_net.proofs.pool.Pool.update_busy.Goals as goal

pub returns-then-is_some-clause-noted : goal.returns-then-is_some-clause-noted
returns-then-is_some-clause-noted c =
    let pool = c.args.self.now in
    let p = c.args.p.0 in
    let wide : length pool.ends.items ≡ pool.processes + pool.processes = omega (arith, pool.ends.ok.0, c.requires.wide) in
    let read : is_busy pool.processes pool.ends.items p ≡ is_some c.lower.result = busy_read pool.processes pool.ends.items p c.index-2.result.now c.index.result.now c.lower.result (omega (arith, c.if-p-ge-MOST_PROCESSES.false)) c.requires.process wide c.index-2.ensures c.index.ensures c.lower.ensures in
    rw c.put.ensures (noted_put pool.busy p (is_busy pool.processes pool.ends.items) c.requires.others (read ∙ sym c.is_some.ensures ∙ c.if-is_some.true))

pub returns-else-is_some-clause-noted : goal.returns-else-is_some-clause-noted
returns-else-is_some-clause-noted c =
    let pool = c.args.self.now in
    let p = c.args.p.0 in
    let wide : length pool.ends.items ≡ pool.processes + pool.processes = omega (arith, pool.ends.ok.0, c.requires.wide) in
    let read : is_busy pool.processes pool.ends.items p ≡ is_some c.lower.result = busy_read pool.processes pool.ends.items p c.index-2.result.now c.index.result.now c.lower.result (omega (arith, c.if-p-ge-MOST_PROCESSES.false)) c.requires.process wide c.index-2.ensures c.index.ensures c.lower.ensures in
    rw c.drop_one.ensures (noted_left pool.busy p (is_busy pool.processes pool.ends.items) c.requires.others (read ∙ sym c.is_some.ensures ∙ c.if-is_some.false))
