use Rattle.std.proofs.Common.{◌<◌, ◌∙◌, length, refl, subst, sym, vec_capacity}
use Rattle.std.proofs.lemmas.Result.{err_from_is_err_and, IfErr-weaker}
use Rattle.fy_acts.specs.declared.entry.Entry.{Entry}
use Rattle.fy_audit.specs.AuditText.{entry_line}
use Rattle.fy_answers.specs.Answers.{HasNoEntry}
use Rattle.fy_answers.proofs.Entering.{has_room, last_entry, no_entry, not_full}
use Rattle.fy_answers.proofs.enters.ClusterEnters.enter_line.Goals as goal

pub returns-in_err-apply-clause-err : goal.returns-in_err-apply-clause-err
returns-in_err-apply-clause-err c =
    let p = err_from_is_err_and c.from_residual.result c.from_residual.ensures.1 in
    rw (p.1, p.2)
    (no_entry c.args.self.now c.apply.new.self c.args.by c.args.act (vec_capacity c.args.text.now)
    c.in_err-apply.field-0.0 _ refl c.in_err-apply.ensures.full c.in_err-apply.ensures.err)

pub returns-clause-err : goal.returns-clause-err
returns-clause-err c =
    let old = c.args.self.now in
    let room = vec_capacity c.args.text.now in
    let is =
    last_entry old c.apply.new.self c.args.by c.args.act c.entries.result.now c.in-Some.entry.now
    c.in_ok-apply.ensures.entered (c.entries.ensures ∙ c.journal.ensures.journal)
    c.in-Some.ensures.value in
    IfErr-weaker c.put_line.result _ _
    (λ fault those. subst (HasNoEntry old c.apply.new.self c.args.by c.args.act room) (sym those.0)
    (HasNoEntry.unwritten
    (record {
      room = has_room old (λ full. not_full _ (c.in_ok-apply.ensures.full.0 full));
      entered = c.in_ok-apply.ensures.entered;
      survives = c.apply.ensures.survives;
    })
    (subst (λ (entry : Entry). room < length (entry_line entry)) is those.1)))
    c.put_line.ensures.err
