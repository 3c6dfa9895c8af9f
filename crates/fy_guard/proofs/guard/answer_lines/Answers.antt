use Rattle.std.proofs.Common.{arith, rules, true, false, ◌≡◌, ◌∙◌, refl, ap}
use Rattle.std.proofs.lemmas.Result.{err_from_is_err_and}
use Rattle.std.specs.Prelude.{Ok, Err}
use Rattle.fy_lines.specs.Readings.{ReadsLine, ReadsWithinLine, ReadsInsideLine}
use Rattle.fy_spelling.specs.declared.command.TheConstants.{MOST_LINE_BYTES}
use Rattle.fy_cluster.specs.Setup.{Setup}
use Rattle.fy_streams.specs.declared.stop.Stop.TheVariants.{Read, Write, NoMemory}
use Rattle.fy_guard.proofs.Made.{limit_is_small}
use Rattle.fy_guard.proofs.Guarding.{at_least, within_nothing, opens, goes_on, answers_all, in_turn, refused_line, refused_answer, still_out, none_out, answer_short, no_line_write, no_line_own, no_answer_read, no_answer_own, same_stop}
use Rattle.fy_guard.proofs.guard.answer_lines.Goals as goal

pub lines-init : goal.lines-init
lines-init g c =
    let config = ap (λ (setup : Setup). setup.limit) c.config.ensures in
    let small = limit_is_small c.config.result.now c.invariant.ensures.in_range in
    opens c.args.questions c.args.cluster (g.R.Read.remaining c.args.reader.now) (g.W.Write.contents c.args.writer.now)
    c.survives.ensures.legal (omega arith)

pub returns-then-answered-clause-in_turn : goal.returns-then-answered-clause-in_turn
returns-then-answered-clause-in_turn g c =
    let has = c.lines.invariant in
    (in_turn ReadsWithinLine _ _ has (within_nothing (g.R.Read.remaining c.lines.reader)) (at_least (g.W.Write.contents c.args.writer.now)
    (g.W.Write.contents c.lines.writer) _ has.written))

pub returns-then-answered-clause-no_memory : goal.returns-then-answered-clause-no_memory
returns-then-answered-clause-no_memory g c _ =
    let has = c.lines.invariant in
    (in_turn ReadsWithinLine _ _ has (within_nothing (g.R.Read.remaining c.lines.reader)) has.written)

pub returns-then-not-branch-clause-answered : goal.returns-then-not-branch-clause-answered
returns-then-not-branch-clause-answered g c =
    let none : c.in_ok-read_line.field-0 ≡ false = search rules in
    (refl, answers_all _ _ c.lines.invariant (c.in_ok-read_line.ensures.end (ap Ok none)) c.lines.invariant.written)

pub returns-then-not-branch-clause-in_turn : goal.returns-then-not-branch-clause-in_turn
returns-then-not-branch-clause-in_turn g c =
    let has = c.lines.invariant in
    (in_turn ReadsWithinLine _ _ has c.read_line.ensures.no_further (at_least (g.W.Write.contents c.args.writer.now)
    (g.W.Write.contents c.lines.writer) _ has.written))

pub returns-in_err-read_line-clause-refused : goal.returns-in_err-read_line-clause-refused
returns-in_err-read_line-clause-refused g c =
    let has = c.lines.invariant in
    let p = err_from_is_err_and c.from_residual.result c.from_residual.ensures.1 in
    rw (p.1, p.2)
    (refused_line _ has c.number_behind-number.ensures c.in_err-read_line.ensures.err has.written)

pub returns-in_err-read_line-clause-in_turn : goal.returns-in_err-read_line-clause-in_turn
returns-in_err-read_line-clause-in_turn g c =
    let has = c.lines.invariant in
    (in_turn ReadsWithinLine _ _ has c.read_line.ensures.no_further (at_least (g.W.Write.contents c.args.writer.now)
    (g.W.Write.contents c.lines.writer) _ has.written))

pub returns-in_err-read_line-clause-read_fault : goal.returns-in_err-read_line-clause-read_fault
returns-in_err-read_line-clause-read_fault g c is =
    let has = c.lines.invariant in
    let p = err_from_is_err_and c.from_residual.result c.from_residual.ensures.1 in
    in_turn (λ rest left. ReadsInsideLine rest left MOST_LINE_BYTES) _ _ has
    (c.in_err-read_line.ensures.cut
    (same_stop c.from_residual.result c.in_err-read_line.field-0.0 Read (p.1 ∙ ap Err p.2) is)) has.written

pub returns-in_err-read_line-clause-no_memory : goal.returns-in_err-read_line-clause-no_memory
returns-in_err-read_line-clause-no_memory g c _ =
    let has = c.lines.invariant in
    (in_turn ReadsWithinLine _ _ has c.read_line.ensures.no_further has.written)

pub returns-in_err-read_line-clause-front_out : goal.returns-in_err-read_line-clause-front_out
returns-in_err-read_line-clause-front_out g c is =
    let p = err_from_is_err_and c.from_residual.result c.from_residual.ensures.1 in
    absurd (no_line_write c.in_err-read_line.ensures.err
    (same_stop c.from_residual.result c.in_err-read_line.field-0.0 Write (p.1 ∙ ap Err p.2) is))

pub returns-in_err-read_line-clause-no_other : goal.returns-in_err-read_line-clause-no_other
returns-in_err-read_line-clause-no_other g c =
    let p = err_from_is_err_and c.from_residual.result c.from_residual.ensures.1 in
    rw (p.1, p.2) (no_line_own c.in_err-read_line.ensures.err)

pub returns-in_err-answer_line-clause-refused : goal.returns-in_err-answer_line-clause-refused
returns-in_err-answer_line-clause-refused g c =
    let left = g.R.Read.remaining c.lines.reader in
    let next = g.R.Read.remaining c.read_line.new.reader in
    let has = c.lines.invariant in
    let some : c.in_ok-read_line.field-0 ≡ true = search rules in
    let reads : ReadsLine left next c.deref.result.now =
    rw c.deref.ensures.value (c.in_ok-read_line.ensures.line (ap Ok some)) in
    let p = err_from_is_err_and c.from_residual-in_err-answer_line.result c.from_residual-in_err-answer_line.ensures.1 in
    rw (p.1, p.2)
    (refused_answer c.deref.result.now next has c.number_behind-number.ensures reads
    c.in_err-answer_line.ensures.err)

pub returns-in_err-answer_line-clause-in_turn : goal.returns-in_err-answer_line-clause-in_turn
returns-in_err-answer_line-clause-in_turn g c =
    let has = c.lines.invariant in
    (in_turn ReadsWithinLine _ _ has c.read_line.ensures.no_further (still_out has c.in_err-answer_line.ensures.err))

pub returns-in_err-answer_line-clause-read_fault : goal.returns-in_err-answer_line-clause-read_fault
returns-in_err-answer_line-clause-read_fault g c is =
    let p = err_from_is_err_and c.from_residual-in_err-answer_line.result c.from_residual-in_err-answer_line.ensures.1 in
    absurd (no_answer_read c.in_err-answer_line.ensures.err
    (same_stop c.from_residual-in_err-answer_line.result c.in_err-answer_line.field-0.0 Read (p.1 ∙ ap Err p.2) is))

pub returns-in_err-answer_line-clause-no_memory : goal.returns-in_err-answer_line-clause-no_memory
returns-in_err-answer_line-clause-no_memory g c is =
    let has = c.lines.invariant in
    let p = err_from_is_err_and c.from_residual-in_err-answer_line.result c.from_residual-in_err-answer_line.ensures.1 in
    (in_turn ReadsWithinLine _ _ has c.read_line.ensures.no_further
    (none_out has c.in_err-answer_line.ensures.err
    (same_stop c.from_residual-in_err-answer_line.result c.in_err-answer_line.field-0.0 NoMemory (p.1 ∙ ap Err p.2) is)))

pub returns-in_err-answer_line-clause-front_out : goal.returns-in_err-answer_line-clause-front_out
returns-in_err-answer_line-clause-front_out g c is =
    let left = g.R.Read.remaining c.lines.reader in
    let next = g.R.Read.remaining c.read_line.new.reader in
    let some : c.in_ok-read_line.field-0 ≡ true = search rules in
    let reads : ReadsLine left next c.deref.result.now =
    rw c.deref.ensures.value (c.in_ok-read_line.ensures.line (ap Ok some)) in
    let p = err_from_is_err_and c.from_residual-in_err-answer_line.result c.from_residual-in_err-answer_line.ensures.1 in
    answer_short c.deref.result.now next c.lines.invariant reads c.in_err-answer_line.ensures.err
    (same_stop c.from_residual-in_err-answer_line.result c.in_err-answer_line.field-0.0 Write (p.1 ∙ ap Err p.2) is)

pub returns-in_err-answer_line-clause-no_other : goal.returns-in_err-answer_line-clause-no_other
returns-in_err-answer_line-clause-no_other g c =
    let p = err_from_is_err_and c.from_residual-in_err-answer_line.result c.from_residual-in_err-answer_line.ensures.1 in
    rw (p.1, p.2) (no_answer_own c.in_err-answer_line.ensures.err)

pub overflow_add-answered : goal.overflow_add-answered
overflow_add-answered g c = omega arith

pub lines-preserved : goal.lines-preserved
lines-preserved g c =
    let left = g.R.Read.remaining c.lines.reader in
    let next = g.R.Read.remaining c.read_line.new.reader in
    let (answer, it, out) = c.in_ok-answer_line.ensures.answered in
    let some : c.in_ok-read_line.field-0 ≡ true = search rules in
    let reads : ReadsLine left next c.deref.result.now =
    rw c.deref.ensures.value (c.in_ok-read_line.ensures.line (ap Ok some)) in
    goes_on c.deref.result.now answer c.lines.invariant reads it out
