use Rattle.std.proofs.Common.{◌≡◌, ◌∙◌, ◌++◌, codes, sym, ap, subst}
use Rattle.std.specs.Io.KnownBytes.{Appends}
use Rattle.fy_streams.specs.Stops.{numbered, stop_text}
use Rattle.fy_streams.proofs.stop.write_stop.Goals as goal

pub returns-in_ok-write_bytes-in-Read-clause-ok : goal.returns-in_ok-write_bytes-in-Read-clause-ok
returns-in_ok-write_bytes-in-Read-clause-ok g c =
    subst (λ stop. Appends (g.W.Write.contents c.args.writer.now) (g.W.Write.contents c.write_bytes-in-Read.new.writer) (stop_text stop)) (sym c.in-Read.is) c.in_ok-write_bytes-in-Read.ensures.ok

pub returns-in_ok-write_bytes-in-Write-clause-ok : goal.returns-in_ok-write_bytes-in-Write-clause-ok
returns-in_ok-write_bytes-in-Write-clause-ok g c =
    subst (λ stop. Appends (g.W.Write.contents c.args.writer.now) (g.W.Write.contents c.write_bytes-in-Write.new.writer) (stop_text stop)) (sym c.in-Write.is) c.in_ok-write_bytes-in-Write.ensures.ok

pub returns-in_ok-write_refused_line-in-JudgeLine-clause-ok : goal.returns-in_ok-write_refused_line-in-JudgeLine-clause-ok
returns-in_ok-write_refused_line-in-JudgeLine-clause-ok g c =
    let said : numbered (codes "judge: line ") c.in-JudgeLine.line (codes ": " ++ c.fault_word.result.now ++ codes "\n") ≡ stop_text c.args.stop.now =
    ap (λ word. numbered (codes "judge: line ") c.in-JudgeLine.line (codes ": " ++ word ++ codes "\n")) c.fault_word.ensures ∙ ap stop_text (sym c.in-JudgeLine.is) in
    subst (λ text. Appends (g.W.Write.contents c.args.writer.now) (g.W.Write.contents c.write_refused_line.new.writer) text) said c.in_ok-write_refused_line-in-JudgeLine.ensures.ok
