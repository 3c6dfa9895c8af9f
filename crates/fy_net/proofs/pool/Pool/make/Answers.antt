use Rattle.std.proofs.Common.{◌≡◌, ◌+◌, ◌*◌, [], length, replicate, refl, rules, arith}
use Rattle.fy_net.specs.Pool.{no_ends, AreChained}
use Rattle.fy_net.proofs.Busy.{noted_none}
use Rattle.fy_net.proofs.Chaining.{chained_none}
use Rattle.fy_net.proofs.pool.Pool.make.Goals as goal

pub returns : goal.returns
returns c =
    let processes = c.args.processes in
    let slots = c.new.result.items in
    let made : c.in_ok-ends.ends.items ≡ replicate (2 * processes) no_ends = c.in_ok-ends.ensures.items_if_clones_equal (λ y is. search rules) in
    let twice : 2 * processes ≡ processes + processes = omega arith in
    let ends : c.in_ok-ends.ends.items ≡ replicate (processes + processes) no_ends = rw twice at made in
    let chained : AreChained (length slots) processes slots c.new-2.result.items c.in_ok-ends.ends.items = rw (c.new.ensures.items, c.new-2.ensures.items) (chained_none processes [] c.in_ok-ends.ends.items ends) in (
      record {
        rising = rw c.new.ensures.items tt;
        past = rw c.new.ensures.items (λ k d lt. absurd (omega arith));
        known = rw c.new.ensures.items (λ k d lt. absurd (omega arith));
        counted = rw c.new.ensures.items refl;
        chained = chained;
        noted = λ p. rw c.empty.ensures (noted_none processes (processes + processes) p c.in_ok-ends.ends.items ends);
      },
      c.new.ensures.items,
      refl,
      refl,
    )
