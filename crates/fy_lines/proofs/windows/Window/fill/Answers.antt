use Rattle.std.proofs.Common.{rules, arith, ◌≤◌, ◌+◌, ◌-◌, [], length, slice_range, ap, sym, append-nil, ◌∙◌}
use Rattle.fy_lines.proofs.WindowLemmas.{slice_long, held_still, held_grown, nothing_read}
use Rattle.fy_lines.proofs.windows.Window.fill.Goals as goal

pub returns-in_err-count-clause-slides : goal.returns-in_err-count-clause-slides
returns-in_err-count-clause-slides g c =
    let w = c.self.inside in
    let last = c.read_behind.new.buffer.items in
    let still = held_still w.buffer.items c.move_to_front.new.buffer.items last w.start w.end c.move_to_front.ensures.moved c.read_behind.ensures.before in
    rw (← c.self.view_is) (record {
      more = [];
      consumed = nothing_read _ _ c.in_err-count.ensures.unread;
      counted = omega arith;
      held = still ∙ sym (append-nil _);
    })

pub returns-then-self-limit-clause-slides : goal.returns-then-self-limit-clause-slides
returns-then-self-limit-clause-slides g c =
    let w = c.self.inside in
    let m = w.end - w.start in
    let n = c.in_ok-count.count in
    let last = c.read_behind.new.buffer.items in
    let inside : m + n ≤ length last = search rules in
    let grown = held_grown w.buffer.items c.move_to_front.new.buffer.items last w.start w.end n c.move_to_front.ensures.moved c.read_behind.ensures.before in
    rw (← c.self.view_is) (record {
      more = slice_range last m (m + n);
      consumed = c.in_ok-count.ensures.read;
      counted = ap (λ k. w.read + k) (sym (slice_long last m n inside));
      held = grown;
    })

pub returns-clause-slides : goal.returns-clause-slides
returns-clause-slides g c =
    let w = c.self.inside in
    let m = w.end - w.start in
    let n = c.in_ok-count.count in
    let last = c.read_behind.new.buffer.items in
    let inside : m + n ≤ length last = search rules in
    let grown = held_grown w.buffer.items c.move_to_front.new.buffer.items last w.start w.end n c.move_to_front.ensures.moved c.read_behind.ensures.before in
    rw (← c.self.view_is) (record {
      more = slice_range last m (m + n);
      consumed = c.in_ok-count.ensures.read;
      counted = ap (λ k. w.read + k) (sym (slice_long last m n inside));
      held = grown;
    })
