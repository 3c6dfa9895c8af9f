use Rattle.std.specs.Io.KnownBytes.{Appends}
use Rattle.fy_linear.proofs.Telling.{tells}
use Rattle.fy_linear.proofs.engine.run_linear.Goals as goal

pub returns-clause-done : goal.returns-clause-done
returns-clause-done g c =
    tells (g.R.Read.remaining c.args.reader.now) (g.S.Spelling.spells c.args.form.now)
    (Appends (g.W.Write.contents c.args.writer.now) (g.W.Write.contents c.write_bytes.new.writer))
    c.in_ok-history.history c.in_ok-judged.judged c.in_ok-text.text.items c.is_linearizable.result
    c.in_ok-history.ensures.read c.in_ok-judged.ensures c.in_ok-text.ensures
    (rw (← c.deref.ensures.value) c.in_ok-write_bytes.ensures.ok) c.is_linearizable.ensures
