use Rattle.std.proofs.Common.{◌∙◌, OnOk, OnErr, codes, sym, ap, subst}
use Rattle.std.specs.Io.KnownBytes.{Appends}
use Rattle.fy_lines.specs.Prefixes.{AppendsProperPrefix}
use Rattle.fy_streams.specs.Stops.{worded, config_text}
use Rattle.fy_streams.proofs.stop.write_config_fault.Goals as goal

pub returns-in-Field-clause-ok : goal.returns-in-Field-clause-ok
returns-in-Field-clause-ok g c =
    subst
    (λ text. OnOk c.write_worded.result (Appends (g.W.Write.contents c.args.writer.now)
    (g.W.Write.contents c.write_worded.new.writer) text))
    (ap (worded (codes "config: Field ")) c.part_word.ensures ∙ ap config_text (sym c.in-Field.is)) c.write_worded.ensures.ok

pub returns-in-Limit-clause-ok : goal.returns-in-Limit-clause-ok
returns-in-Limit-clause-ok g c =
    subst
    (λ text. OnOk c.write_worded-in-Limit.result (Appends (g.W.Write.contents c.args.writer.now)
    (g.W.Write.contents c.write_worded-in-Limit.new.writer) text))
    (ap (worded (codes "config: Limit ")) c.part_word-in-Limit.ensures ∙ ap config_text (sym c.in-Limit.is)) c.write_worded-in-Limit.ensures.ok

pub returns-in-Name-clause-err : goal.returns-in-Name-clause-err
returns-in-Name-clause-err g c =
    subst
    (λ text. OnErr c.write_bad_name.result (AppendsProperPrefix (g.W.Write.contents c.args.writer.now)
    (g.W.Write.contents c.write_bad_name.new.writer) text))
    (ap config_text (sym c.in-Name.is)) c.write_bad_name.ensures.err

pub returns-in-Policy-clause-ok : goal.returns-in-Policy-clause-ok
returns-in-Policy-clause-ok g c =
    subst
    (λ text. OnOk c.write_numbered.result (Appends (g.W.Write.contents c.args.writer.now)
    (g.W.Write.contents c.write_numbered.new.writer) text))
    (ap config_text (sym c.in-Policy.is)) c.write_numbered.ensures.ok

pub returns-in-PolicyUnmet-clause-ok : goal.returns-in-PolicyUnmet-clause-ok
returns-in-PolicyUnmet-clause-ok g c =
    subst
    (λ text. OnOk c.write_numbered-in-PolicyUnmet.result (Appends (g.W.Write.contents c.args.writer.now)
    (g.W.Write.contents c.write_numbered-in-PolicyUnmet.new.writer) text))
    (ap config_text (sym c.in-PolicyUnmet.is)) c.write_numbered-in-PolicyUnmet.ensures.ok
