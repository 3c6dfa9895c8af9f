use Rattle.std.proofs.Common.{rules, ◌≡◌, ◌++◌, ap, sym, subst, Err}
use Rattle.std.proofs.lemmas.Result.{err_from_is_err_and}
use Rattle.fy_cluster.specs.Execution.{entered, next_entry}
use Rattle.fy_lines.specs.Prefixes.{AppendsProperPrefix}
use Rattle.fy_audit.specs.AuditText.{entry_line}
use Rattle.fy_streams.proofs.Moving.{moved_on}
use Rattle.fy_run.proofs.Gathering.{lines_of, next_line, room_left, cut_off, only_memory, not_full}
use Rattle.fy_run.proofs.run.answer_all.Goals as goal

pub returns-in_err-entry-clause-short : goal.returns-in_err-entry-clause-short
returns-in_err-entry-clause-short g c =
    let (done, appended, is) = c.loop-command.invariant.1 in
    let short =
    cut_off (g.W.Write.contents c.args.writer.now) (g.W.Write.contents c.loop-command.writer)
    (c.args.buffer.now ++ lines_of c.args.cluster.now c.args.commands.items) done
    c.loop-command.buffer c.loop-command.cluster c.in-Some.command c.next.new.self.rest.items
    c.loop-command.command-iterator.rest.items c.in-Some.ensures.steps.0 appended is in
    search rules

pub returns-in_err-entry-clause-fault : goal.returns-in_err-entry-clause-fault
returns-in_err-entry-clause-fault g c =
    let p = err_from_is_err_and c.from_residual.result c.from_residual.ensures.1 in
    rw (p.1, p.2)
    (only_memory c.in_err-entry.field-0.0
    (λ full. not_full c.loop-command.cluster c.in-Some.command c.next.new.self.rest.items
    c.loop-command.command-iterator.rest.items c.in-Some.ensures.steps.0
    c.loop-command.invariant.0 (c.in_err-entry.ensures.full.1 (ap Err full))))

pub returns-in_err-push-clause-short : goal.returns-in_err-push-clause-short
returns-in_err-push-clause-short g c =
    let (done, appended, is) = c.loop-command.invariant.1 in
    let whole = c.args.buffer.now ++ lines_of c.args.cluster.now c.args.commands.items in
    let rest = c.next.new.self.rest.items in
    let before = g.W.Write.contents c.args.writer.now in
    let made : c.in_ok-entry.entry ≡ next_entry c.loop-command.cluster c.in-Some.command.by c.in-Some.command.act =
    subst (λ parts. c.in_ok-entry.entry ≡ next_entry c.loop-command.cluster parts.0 parts.1)
    c.into_parts-by.ensures c.in_ok-entry.ensures.entry in
    let enters : c.enter.new.self ≡ entered c.loop-command.cluster c.in-Some.command.by c.in-Some.command.act =
    subst (λ parts. c.enter.new.self ≡ entered c.loop-command.cluster parts.0 parts.1)
    c.into_parts-by.ensures c.in_ok-entry.ensures.entered in
    let next =
    next_line whole done c.loop-command.buffer c.loop-command.cluster c.enter.new.self
    c.in-Some.command rest c.loop-command.command-iterator.rest.items c.in_ok-entry.entry
    c.in-Some.ensures.steps.0 made enters is in
    let told =
    subst (AppendsProperPrefix before (g.W.Write.contents c.push.new.writer)) (sym next)
    (c.short_after_whole.ensures before (g.W.Write.contents c.loop-command.writer)
    (g.W.Write.contents c.push.new.writer) done (c.loop-command.buffer ++ entry_line c.in_ok-entry.entry)
    (lines_of c.enter.new.self rest) appended c.in_err-push.ensures.short) in
    search rules

pub loop-command-preserved : goal.loop-command-preserved
loop-command-preserved g c =
    let (done, appended, is) = c.loop-command.invariant.1 in
    let whole = c.args.buffer.now ++ lines_of c.args.cluster.now c.args.commands.items in
    let rest = c.next.new.self.rest.items in
    let commands = c.loop-command.command-iterator.rest.items in
    let made : c.in_ok-entry.entry ≡ next_entry c.loop-command.cluster c.in-Some.command.by c.in-Some.command.act =
    subst (λ parts. c.in_ok-entry.entry ≡ next_entry c.loop-command.cluster parts.0 parts.1)
    c.into_parts-by.ensures c.in_ok-entry.ensures.entry in
    let enters : c.enter.new.self ≡ entered c.loop-command.cluster c.in-Some.command.by c.in-Some.command.act =
    subst (λ parts. c.enter.new.self ≡ entered c.loop-command.cluster parts.0 parts.1)
    c.into_parts-by.ensures c.in_ok-entry.ensures.entered in
    let next =
    next_line whole done c.loop-command.buffer c.loop-command.cluster c.enter.new.self
    c.in-Some.command rest commands c.in_ok-entry.entry c.in-Some.ensures.steps.0
    made enters is in (
      room_left c.loop-command.cluster c.enter.new.self c.in-Some.command rest commands
          c.in-Some.ensures.steps.0 enters c.loop-command.invariant.0,
      moved_on (g.W.Write.contents c.args.writer.now) (g.W.Write.contents c.loop-command.writer)
          (g.W.Write.contents c.push.new.writer) done
          (c.loop-command.buffer ++ entry_line c.in_ok-entry.entry) c.push.new.self whole
          (lines_of c.enter.new.self rest) appended c.in_ok-push.ensures.ok next,
    )
