use Rattle.std.proofs.Common.{◌<◌, length, refl, subst, sym, vec_capacity}
use Rattle.std.proofs.lemmas.Result.{err_from_is_err_and, IfErr-weaker}
use Rattle.fy_acts.specs.declared.entry.Entry.{Entry}
use Rattle.fy_audit.specs.AuditText.{entry_line}
use Rattle.fy_answers.specs.Answers.{HasNoEntry}
use Rattle.fy_answers.proofs.Entering.{has_room, no_entry, not_full}
use Rattle.fy_answers.proofs.enters.ClusterStateEnters.enter_line.Goals as goal

pub returns-in_err-entry-clause-err : goal.returns-in_err-entry-clause-err
returns-in_err-entry-clause-err c =
    let p = err_from_is_err_and c.from_residual.result c.from_residual.ensures.1 in
    rw (p.1, p.2)
    (no_entry c.args.self.now c.enter.new.self c.args.by c.args.act (vec_capacity c.args.text.now)
    c.in_err-entry.field-0.0 _ refl c.in_err-entry.ensures.full c.in_err-entry.ensures.err)

pub returns-clause-err : goal.returns-clause-err
returns-clause-err c =
    let old = c.args.self.now in
    let room = vec_capacity c.args.text.now in
    IfErr-weaker c.put_line.result _ _
    (λ fault those. subst (HasNoEntry old c.enter.new.self c.args.by c.args.act room) (sym those.0)
    (HasNoEntry.unwritten
    (record {
      room = has_room old (λ full. not_full _ (c.in_ok-entry.ensures.full.0 full));
      entered = c.in_ok-entry.ensures.entered;
      survives = c.enter.ensures.survives;
    })
    (subst (λ (entry : Entry). room < length (entry_line entry)) c.in_ok-entry.ensures.entry those.1)))
    c.put_line.ensures.err
