use Rattle.std.proofs.Common.{◌≡◌, ◌≤◌, ◌<◌, ◌+◌, ◌*◌, ◌/◌, ◌∙◌, [], ◌∷◌, ℕ, length, None, slice_get, sym, ap, arith, length-append, mul-le-mul_right}
use native.Mathlib.Nat.{div-add-mod'}
use Rattle.fy_events.specs.Columns.{end_at}
use Rattle.fy_events.proofs.Ends.{end_is, later, one_end_more, two_ends}
use Rattle.fy_events.proofs.Rising.{last_early}
use Rattle.fy_events.proofs.columns.columns_by_time.Goals as goal

pub width_of-width-requires-clause-early : goal.width_of-width-requires-clause-early
width_of-width-requires-clause-early c =
    let early = last_early c.args.count None c.args.events.now 0 (omega arith) c.requires.rise in
    omega (arith, early, c.last_time-last.ensures)

pub overflow_mul-column : goal.overflow_mul-column
overflow_mul-column c =
    let k = c.loop-column.column in
    let width = c.width_of-width.result in
    let last = c.last_time-last.result in
    let early = last_early c.args.count None c.args.events.now 0 (omega arith) c.requires.rise in
    let low : k ≤ last / width = omega (arith, c.loop-column-test.true) in
    let before : k * width ≤ last / width * width = mul-le-mul_right width low in
    omega (arith, before, div-add-mod' last width, c.width_of-width.ensures.narrow, early, c.last_time-last.ensures)

pub loop-column-preserved : goal.loop-column-preserved
loop-column-preserved c =
    let k = c.loop-column.column in
    let width = c.width_of-width.result in
    let events = c.args.events.now in
    let count = c.args.count in
    let invariant = c.loop-column.invariant in
    let next = c.first_at-at.ensures in
    let one : k ≤ k + 1 = omega arith in
    let wider : k * width ≤ (k + 1) * width = mul-le-mul_right width one in
    let same : (k + 1) * width ≤ (k + 1) * width = omega arith in
    let pushed = c.in_ok-push.ensures.items in
    let end = end_is events c.first_at-at.result count ((k + 1) * width) c.entry_at.result next.there c.entry_at.ensures.event c.entry_at.ensures.behind in
    let is : c.entry_at.result ≡ end_at events count ((k + 1) * width) =
    end ∙ sym (invariant.passed count ((k + 1) * width) wider ∙ next.passed count ((k + 1) * width) same) in
    record {
      within = next.within;
      passed = λ all late h. invariant.passed all late (omega (arith, wider, h)) ∙ next.passed all late h;
      many = omega (arith, ap length pushed, length-append c.loop-column.ends.items (c.entry_at.result ∷ []), invariant.many);
      each = λ j l. ap (λ items. slice_get items j) pushed
          ∙ one_end_more c.loop-column.ends.items c.entry_at.result k (λ j. end_at events count ((j + 1) * width)) invariant.many invariant.each is j l;
    }

pub returns-clause-order : goal.returns-clause-order
returns-clause-order c i j low high le at_i at_j =
    let width = c.width_of-width.result in
    let events = c.args.events.now in
    let count = c.args.count in
    let ends = c.loop-column.ends.items in
    let invariant = c.loop-column.invariant in
    let each = λ (k : ℕ) (l : k < length ends). invariant.each k (omega (arith, l, invariant.many)) in
    let first = two_ends ends i low (λ k. end_at events count ((k + 1) * width)) each at_i in
    let second = two_ends ends j high (λ k. end_at events count ((k + 1) * width)) each at_j in
    let le_next : i + 1 ≤ j + 1 = omega arith in
    let times : (i + 1) * width ≤ (j + 1) * width = mul-le-mul_right width le_next in
    omega (arith, first, second, later events count ((i + 1) * width) ((j + 1) * width) None c.requires.rise times)
