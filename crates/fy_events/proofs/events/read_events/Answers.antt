use Rattle.std.proofs.Common.{◌∙◌, [], ◌∷◌, ◌++◌, None, Some, refl, sym, ap, subst, arith, append_assoc, length-append}
use Rattle.fy_lines.specs.Lines.{lines_of}
use Rattle.fy_events.specs.Events.{none, one_more, IsNext}
use Rattle.fy_events.proofs.Rising.{one_event_more, last_is}
use Rattle.fy_events.proofs.events.read_events.Goals as goal

pub loop-rest-init : goal.loop-rest-init
loop-rest-init c = rw c.new-events.ensures.items (omega arith, [], refl, none, refl, refl, tt)

pub loop-rest-preserved-in_ok-push-in-Ok-Some : goal.loop-rest-preserved-in_ok-push-in-Ok-Some
loop-rest-preserved-in_ok-push-in-Ok-Some c =
    let count = c.args.count in
    let events = c.loop-rest.events.items in
    let event = c.in-Ok-Some.event in
    let bound = c.loop-rest.invariant.0 in
    let done = c.loop-rest.invariant.1 in
    let split = c.loop-rest.invariant.2 in
    let all = c.loop-rest.invariant.3 in
    let number = c.loop-rest.invariant.4 in
    let lasts = c.loop-rest.invariant.5 in
    let rises = c.loop-rest.invariant.6 in
    let line = c.first_line.result.0.now in
    let next = c.first_line.result.1.now in
    let shorter = c.first_line.ensures.shorter in
    let longer = length-append done (line ∷ []) in
    let here = rw c.in-Ok-Some.field-0-is at c.in-Ok-Some.ensures.ok in
    let behind = rw c.in-Ok-Some.field-0-is at c.in-Ok-Some.ensures.next in
    let whole =
    split ∙ ap (λ lines. done ++ lines) c.first_line.ensures.first
    ∙ sym (append_assoc done (line ∷ []) (lines_of next)) in
    rw c.in_ok-push-in-Ok-Some.ensures.items (
      omega arith,
      done ++ line ∷ [],
      whole,
      one_more done events c.loop-rest.last line (Some event) all here,
      omega arith,
      last_is None events event,
      one_event_more count None events event rises (subst (λ before. IsNext count before event) (sym lasts) behind),
    )

pub loop-rest-preserved : goal.loop-rest-preserved
loop-rest-preserved c =
    let done = c.loop-rest.invariant.1 in
    let split = c.loop-rest.invariant.2 in
    let all = c.loop-rest.invariant.3 in
    let number = c.loop-rest.invariant.4 in
    let line = c.first_line.result.0.now in
    let next = c.first_line.result.1.now in
    let shorter = c.first_line.ensures.shorter in
    let longer = length-append done (line ∷ []) in
    let bound = c.loop-rest.invariant.0 in
    let here = rw c.in-Ok-None.field-0-is at c.in-Ok-None.ensures.ok in
    let whole =
    split ∙ ap (λ lines. done ++ lines) c.first_line.ensures.first
    ∙ sym (append_assoc done (line ∷ []) (lines_of next)) in (
      omega arith,
      done ++ line ∷ [],
      whole,
      one_more done c.loop-rest.events.items c.loop-rest.last line None all here,
      omega arith,
      c.loop-rest.invariant.5,
      c.loop-rest.invariant.6,
    )
