use Rattle.std.proofs.Common.{◌≡◌, ◌∙◌, ℕ, inr, length, ap, subst}
use Rattle.std.specs.Io.KnownBytes.{Appends}
use Rattle.fy_history.specs.declared.progress.Known.{Known}
use Rattle.fy_lines.specs.Prefixes.{AppendsProperPrefix}
use Rattle.fy_verdict.specs.Told.{IsWatched}
use Rattle.fy_verdict.proofs.Telling.{own_of, refused_of, told_of, told_or_not, tells_both}
use Rattle.fy_verdict.proofs.engine.run_verdict.Goals as goal

pub returns-clause-told : goal.returns-clause-told
returns-clause-told g c =
    let setup = c.args.config.now in
    let audit = g.A.Read.remaining c.args.audit.now in
    let finding = c.in_ok-finding.field-0.finding in
    let count = c.len.ensures.count ∙ ap length c.map.ensures in
    told_of setup audit (g.R.Read.remaining c.args.reader.now) finding c.in-Some.outages _
    (g.S.Spelling.spells c.args.form.now)
    (Appends (g.W.Write.contents c.args.writer.now) (g.W.Write.contents c.tell.new.writer)) c.tell.result
    (subst (IsWatched setup audit finding) c.in-Some.is c.in_ok-finding.ensures.watched)
    (ap (λ (n : ℕ). let k : Known = record { processes = n; entries = finding.count } in k) count)
    c.tell.ensures.told

pub returns-clause-refused : goal.returns-clause-refused
returns-clause-refused g c =
    let setup = c.args.config.now in
    let audit = g.A.Read.remaining c.args.audit.now in
    let finding = c.in_ok-finding.field-0.finding in
    let count = c.len.ensures.count ∙ ap length c.map.ensures in
    refused_of setup audit (g.R.Read.remaining c.args.reader.now) finding c.in-Some.outages _ c.tell.result
    (subst (IsWatched setup audit finding) c.in-Some.is c.in_ok-finding.ensures.watched)
    (ap (λ (n : ℕ). let k : Known = record { processes = n; entries = finding.count } in k) count)
    c.tell.ensures.no_other c.tell.ensures.refused

pub returns-clause-unread : goal.returns-clause-unread
returns-clause-unread g c = told_or_not c.tell.result _ c.tell.ensures.legal c.tell.ensures.no_other

pub returns-clause-front_out : goal.returns-clause-front_out
returns-clause-front_out g c = λ is.
    let setup = c.args.config.now in
    let audit = g.A.Read.remaining c.args.audit.now in
    let finding = c.in_ok-finding.field-0.finding in
    let count = c.len.ensures.count ∙ ap length c.map.ensures in
    let front = c.tell.ensures.front_out is in
    inr (
      front.0,
      tells_both setup audit (g.R.Read.remaining c.args.reader.now) finding c.in-Some.outages _
          (g.S.Spelling.spells c.args.form.now) front.0
          (AppendsProperPrefix (g.W.Write.contents c.args.writer.now) (g.W.Write.contents c.tell.new.writer))
          (subst (IsWatched setup audit finding) c.in-Some.is c.in_ok-finding.ensures.watched)
          (ap (λ (n : ℕ). let k : Known = record { processes = n; entries = finding.count } in k) count)
          front.1,
    )

pub returns-clause-no_other : goal.returns-clause-no_other
returns-clause-no_other g c = own_of c.tell.result c.tell.ensures.no_other
