use Rattle.std.proofs.Common.{◌≡◌, ◌++◌, [], refl, sym, subst}
use Rattle.std.proofs.lemmas.Result.{IfErr-weaker, err_from_is_err_and}
use Rattle.fy_c.specs.Checking.{HasProgress, HasBegun}
use Rattle.fy_c.proofs.Lined.{refuses_entry, refuses_header}
use Rattle.fy_c.proofs.checking.read_line.Goals as goal

pub returns-in-Some-clause-refused : goal.returns-in-Some-clause-refused
returns-in-Some-clause-refused c =
    IfErr-weaker c.read_entry.result _ _
    (λ status. refuses_entry c.args.check.now _ c.args.line.now status c.in-Some.is)
    c.read_entry.ensures.refused

pub returns-in_ok-read_header-in-None-clause-read :
    goal.returns-in_ok-read_header-in-None-clause-read
returns-in_ok-read_header-in-None-clause-read c =
    let config = c.args.check.now.config in
    record {
      config = refl;
      more = λ bytes has.
          let none : bytes ≡ [] = subst (HasBegun config bytes) c.in-None.is has in
          subst (λ before. HasProgress config (before ++ c.args.line.now) c.in_ok-read_header-in-None.field-0) (sym none)
          c.in_ok-read_header-in-None.ensures.read;
    }

pub returns-in_err-read_header-in-None-clause-refused :
    goal.returns-in_err-read_header-in-None-clause-refused
returns-in_err-read_header-in-None-clause-refused c =
    let p = err_from_is_err_and c.from_residual.result c.from_residual.ensures.1 in
    rw (p.1, p.2)
    (refuses_header c.args.check.now c.args.line.now c.in_err-read_header-in-None.field-0.0 c.in-None.is
    c.in_err-read_header-in-None.ensures.refused)
