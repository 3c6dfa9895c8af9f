use Rattle.std.proofs.Common.{◌∙◌, ◌++◌, OnOk, codes, sym, ap, subst}
use Rattle.std.specs.Io.KnownBytes.{Appends}
use Rattle.fy_streams.specs.Stops.{numbered, events_fault_text}
use Rattle.fy_streams.proofs.stop.write_events_fault.Goals as goal

pub returns-in-Line-clause-ok : goal.returns-in-Line-clause-ok
returns-in-Line-clause-ok g c =
    subst
    (λ text. OnOk c.write_refused_line.result (Appends (g.W.Write.contents c.args.writer.now)
    (g.W.Write.contents c.write_refused_line.new.writer) text))
    (ap (λ word. numbered (codes "events: line ") c.in-Line.number (codes ": " ++ word ++ codes "\n")) c.event_word.ensures
    ∙ ap events_fault_text (sym c.in-Line.is)) c.write_refused_line.ensures.ok
