use Rattle.std.proofs.Common.{Ok, ap, subst}
use Rattle.std.specs.Prelude.{IfSome}
use Rattle.std.specs.Io.KnownBytes.{Appends}
use Rattle.fy_guard.specs.Cuts.{IsCutAt, whole_text}
use Rattle.fy_guard.proofs.CutLemmas.{told_cut, other_cut, no_cut}
use Rattle.fy_guard.proofs.cut.write_whole.Goals as goal

pub returns-in_default-clause-cut : goal.returns-in_default-clause-cut
returns-in_default-clause-cut g c =
    let old = g.W.Write.contents c.args.writer.now in
    no_cut (g.A.Read.remaining c.args.audit.now) c.args.number (λ whole. Appends old old (whole_text whole))
    (c.in_ok-cut.ensures.none (ap Ok c.in_default.is))

pub returns-then-cut-number-clause-cut : goal.returns-then-cut-number-clause-cut
returns-then-cut-number-clause-cut g c =
    let old = g.W.Write.contents c.args.writer.now in
    let known = g.A.Read.remaining c.args.audit.now in
    let cut = c.in-Some.cut in
    let found = subst (λ o. IfSome o (λ cut. IfSome known (λ bytes. IsCutAt bytes cut.line cut.whole)))
    c.in-Some.is c.in_ok-cut.ensures.found in
    other_cut known cut.line c.args.number cut.whole (λ whole. Appends old old (whole_text whole)) found c.if-cut-number.true

pub returns-clause-cut : goal.returns-clause-cut
returns-clause-cut g c =
    let known = g.A.Read.remaining c.args.audit.now in
    let cut = c.in-Some.cut in
    let found = subst (λ o. IfSome o (λ cut. IfSome known (λ bytes. IsCutAt bytes cut.line cut.whole)))
    c.in-Some.is c.in_ok-cut.ensures.found in
    told_cut known (g.W.Write.contents c.args.writer.now) (g.W.Write.contents c.write_numbered.new.writer) cut.line
    c.args.number cut.whole found c.if-cut-number.false c.in_ok-write_numbered.ensures.ok
