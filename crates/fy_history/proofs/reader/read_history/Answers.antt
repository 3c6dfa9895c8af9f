use Rattle.std.proofs.Common.{◌≡◌, ◌≤◌, arith, rules, true, Ok, ap, sym, subst}
use Rattle.std.proofs.lemmas.Result.{err_from_is_err_and}
use Rattle.fy_lines.specs.Readings.{ReadsLine}
use Rattle.fy_history.specs.Progress.{State, state_of}
use Rattle.fy_history.specs.declared.TheConstants.{MOST_HISTORY_LINES}
use Rattle.fy_history.proofs.Reading.{HasTaken, opens, goes_on, no_line, refused}
use Rattle.fy_history.proofs.reader.read_history.Goals as goal

pub lines-init : goal.lines-init
lines-init g c =
    let none : c.new-progress.result.lines ≡ 0 =
    ap (λ (s : State). s.lines) c.new-progress.ensures in (
      omega arith,
      subst (HasTaken c.args.known (g.R.Read.remaining c.args.reader.now)
          (g.R.Read.remaining c.args.reader.now)) (sym c.new-progress.ensures)
          (opens c.args.known (g.R.Read.remaining c.args.reader.now)),
    )

pub returns-in_err-read_line-clause-refused : goal.returns-in_err-read_line-clause-refused
returns-in_err-read_line-clause-refused g c =
    let p = err_from_is_err_and c.from_residual.result c.from_residual.ensures.1 in
    rw (p.1, p.2)
    (no_line c.args.known (g.R.Read.remaining c.args.reader.now) (g.R.Read.remaining c.lines.reader)
    (state_of c.lines.progress) c.in_err-read_line.field-0.0 c.lines.invariant.1
    (rw c.lines-in-lines.ensures at c.in_err-read_line.ensures.err))

pub lines-preserved : goal.lines-preserved
lines-preserved g c =
    let some : c.in_ok-read_line.field-0 ≡ true = search rules in
    let reads : ReadsLine (g.R.Read.remaining c.lines.reader)
    (g.R.Read.remaining c.read_line.new.reader) c.deref.result.now =
    rw c.deref.ensures.value (c.in_ok-read_line.ensures.line (ap Ok some)) in (
      omega (arith, c.in_ok-take_next.ensures.room, c.in_ok-take_next.ensures.lines),
      goes_on c.args.known (g.R.Read.remaining c.args.reader.now)
          (g.R.Read.remaining c.lines.reader) (g.R.Read.remaining c.read_line.new.reader)
          (state_of c.lines.progress) (state_of c.take_next.new.progress) c.deref.result.now
          c.lines.invariant.1 reads (rw c.deref.ensures.value c.in_ok-read_line.ensures.within)
          c.in_ok-take_next.ensures.room c.in_ok-take_next.ensures.ok c.in_ok-take_next.ensures.lines,
    )

pub returns-in_err-take_next-clause-refused : goal.returns-in_err-take_next-clause-refused
returns-in_err-take_next-clause-refused g c =
    let some : c.in_ok-read_line.field-0 ≡ true = search rules in
    let reads : ReadsLine (g.R.Read.remaining c.lines.reader)
    (g.R.Read.remaining c.read_line.new.reader) c.deref.result.now =
    rw c.deref.ensures.value (c.in_ok-read_line.ensures.line (ap Ok some)) in
    let p =
    err_from_is_err_and c.from_residual-in_err-take_next.result
    c.from_residual-in_err-take_next.ensures.1 in
    rw (p.1, p.2)
    (refused c.args.known (g.R.Read.remaining c.args.reader.now)
    (g.R.Read.remaining c.lines.reader) (g.R.Read.remaining c.read_line.new.reader)
    (state_of c.lines.progress) c.deref.result.now c.in_err-take_next.field-0.0
    c.lines.invariant.1 reads (rw c.deref.ensures.value c.in_ok-read_line.ensures.within)
    c.in_err-take_next.ensures.err)
