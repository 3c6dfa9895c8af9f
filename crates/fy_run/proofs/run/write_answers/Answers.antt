use Rattle.std.proofs.Common.{rules, ◌≡◌, ◌∙◌, ◌++◌, map, ap, subst}
use Rattle.fy_lines.specs.Prefixes.{AppendsProperPrefix}
use Rattle.fy_audit.specs.AuditText.{header, audit_text}
use Rattle.fy_acts.specs.declared.version.Version.TheVariants.{Second}
use Rattle.fy_cluster.specs.Execution.{opened}
use Rattle.fy_run.specs.RunTexts.{asked, made_by}
use Rattle.fy_run.proofs.Gathering.{lines_of, all_flushed, flushed_short}
use Rattle.fy_run.proofs.run.write_answers.Goals as goal

pub returns-in_err-answer_all-clause-short : goal.returns-in_err-answer_all-clause-short
returns-in_err-answer_all-clause-short g c =
    let commands = c.args.commands.items in
    let whole = audit_text Second (made_by (opened c.args.config.now) (map asked commands)) in
    let text : c.in_ok-buffer.buffer ++ lines_of c.in_ok-cluster.cluster commands ≡ whole =
    ap (λ b. b ++ lines_of c.in_ok-cluster.cluster commands) c.in_ok-buffer.ensures
    ∙ ap (λ e. header Second ++ lines_of e commands) (c.in_ok-cluster.ensures ∙ ap opened c.in_ok-config.ensures) in
    let short =
    subst
    (AppendsProperPrefix (g.W.Write.contents c.args.writer.now)
    (g.W.Write.contents c.answer_all.new.writer)) text c.in_err-answer_all.ensures.short in
    search rules

pub returns-in_err-flush-clause-short : goal.returns-in_err-flush-clause-short
returns-in_err-flush-clause-short g c =
    let commands = c.args.commands.items in
    let whole = audit_text Second (made_by (opened c.args.config.now) (map asked commands)) in
    let text : c.in_ok-buffer.buffer ++ lines_of c.in_ok-cluster.cluster commands ≡ whole =
    ap (λ b. b ++ lines_of c.in_ok-cluster.cluster commands) c.in_ok-buffer.ensures
    ∙ ap (λ e. header Second ++ lines_of e commands) (c.in_ok-cluster.ensures ∙ ap opened c.in_ok-config.ensures) in
    let short =
    flushed_short (g.W.Write.contents c.args.writer.now)
    (g.W.Write.contents c.answer_all.new.writer) (g.W.Write.contents c.flush.new.writer) _
    c.answer_all.new.buffer whole c.in_ok-answer_all.ensures.ok text
    c.in_err-flush.ensures.short in
    search rules

pub returns-clause-ok : goal.returns-clause-ok
returns-clause-ok g c =
    let commands = c.args.commands.items in
    let whole = audit_text Second (made_by (opened c.args.config.now) (map asked commands)) in
    let text : c.in_ok-buffer.buffer ++ lines_of c.in_ok-cluster.cluster commands ≡ whole =
    ap (λ b. b ++ lines_of c.in_ok-cluster.cluster commands) c.in_ok-buffer.ensures
    ∙ ap (λ e. header Second ++ lines_of e commands) (c.in_ok-cluster.ensures ∙ ap opened c.in_ok-config.ensures) in
    all_flushed (g.W.Write.contents c.args.writer.now)
    (g.W.Write.contents c.answer_all.new.writer) (g.W.Write.contents c.flush.new.writer) _
    c.answer_all.new.buffer whole c.in_ok-answer_all.ensures.ok text c.in_ok-flush.ensures.ok
