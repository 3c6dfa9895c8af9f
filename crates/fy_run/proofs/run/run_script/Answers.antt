use Rattle.std.proofs.Common.{inr, arith, refl}
use Rattle.std.proofs.lemmas.Result.{err_from_is_err_and}
use Rattle.std.specs.Io.KnownBytes.{Appends}
use Rattle.fy_lines.specs.Prefixes.{AppendsProperPrefix}
use Rattle.fy_run.proofs.Acting.{has_written, is_refused, is_full}
use Rattle.fy_run.proofs.run.run_script.Goals as goal

pub returns-in_err-commands-clause-refused : goal.returns-in_err-commands-clause-refused
returns-in_err-commands-clause-refused g c =
    let p = err_from_is_err_and c.from_residual.result c.from_residual.ensures.1 in
    rw (p.1, p.2)
    (is_refused c.args.config.now (g.R.Read.remaining c.args.reader.now) c.in_err-commands.field-0.0
    c.in_err-commands.ensures.refused c.in_err-commands.ensures.no_other.0)

pub returns-then-len-journal_limit-clause-refused :
    goal.returns-then-len-journal_limit-clause-refused
returns-then-len-journal_limit-clause-refused g c =
    let many = c.len.ensures in
    let limit = c.journal_limit.ensures in
    let more = c.if-len-journal_limit.true in
    is_full c.args.config.now (g.R.Read.remaining c.args.reader.now) c.in_ok-commands.commands.items
    c.in_ok-commands.ensures.read (omega arith)

pub returns-clause-done : goal.returns-clause-done
returns-clause-done g c =
    let many = c.len.ensures in
    let limit = c.journal_limit.ensures in
    let few = c.if-len-journal_limit.false in (
      refl,
      has_written c.one_entry_more.ensures.next c.args.config.now
          (g.R.Read.remaining c.args.reader.now) c.in_ok-commands.commands.items
          (Appends (g.W.Write.contents c.args.writer.now)
          (g.W.Write.contents c.write_answers.new.writer))
          c.in_ok-commands.ensures.read (omega arith) c.in_ok-write_answers.ensures.ok,
    )

pub returns-in_err-write_answers-clause-front_out :
    goal.returns-in_err-write_answers-clause-front_out
returns-in_err-write_answers-clause-front_out g c _ =
    let many = c.len.ensures in
    let limit = c.journal_limit.ensures in
    let few = c.if-len-journal_limit.false in
    has_written c.one_entry_more.ensures.next c.args.config.now
    (g.R.Read.remaining c.args.reader.now) c.in_ok-commands.commands.items
    (AppendsProperPrefix (g.W.Write.contents c.args.writer.now)
    (g.W.Write.contents c.write_answers.new.writer))
    c.in_ok-commands.ensures.read (omega arith) c.in_err-write_answers.ensures.short

pub returns-in_err-write_answers-clause-no_memory :
    goal.returns-in_err-write_answers-clause-no_memory
returns-in_err-write_answers-clause-no_memory g c _ =
    let many = c.len.ensures in
    let limit = c.journal_limit.ensures in
    let few = c.if-len-journal_limit.false in
    inr (has_written c.one_entry_more.ensures.next c.args.config.now
    (g.R.Read.remaining c.args.reader.now) c.in_ok-commands.commands.items
    (AppendsProperPrefix (g.W.Write.contents c.args.writer.now)
    (g.W.Write.contents c.write_answers.new.writer))
    c.in_ok-commands.ensures.read (omega arith) c.in_err-write_answers.ensures.short)
