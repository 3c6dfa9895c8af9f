use Rattle.std.proofs.Common.{◌≡◌, ◌∙◌, ◌+◌, ◌-◌, length, sym, arith}
use Rattle.fy_holders.proofs.Turning.{last_odd, last_none, last_even_at}
use Rattle.fy_holders.proofs.turns.last_destroyed.Goals as goal

pub returns-then-is_odd : goal.returns-then-is_odd
returns-then-is_odd c = last_odd c.args.end c.args.turns.now c.requires (sym c.is_odd.ensures ∙ c.if-is_odd.true)

pub returns-then-count-eq0 : goal.returns-then-count-eq0
returns-then-count-eq0 c = last_none c.args.end c.args.turns.now (omega arith)

pub overflow_sub-result-2 : goal.overflow_sub-result-2
overflow_sub-result-2 c =
    let last : (length c.args.turns.now - 1) + 1 ≡ length c.args.turns.now = omega arith in
    (last_even_at c.args.end (length c.args.turns.now - 1) 0 c.args.turns.now c.requires (sym c.is_odd.ensures ∙ c.if-is_odd.false) last).0

pub returns : goal.returns
returns c =
    let last : (length c.args.turns.now - 1) + 1 ≡ length c.args.turns.now = omega arith in
    (last_even_at c.args.end (length c.args.turns.now - 1) 0 c.args.turns.now c.requires (sym c.is_odd.ensures ∙ c.if-is_odd.false) last).1
