use Rattle.std.proofs.Common.{subst}
use Rattle.fy_asking.specs.ToldTexts.{IsToldLine}
use Rattle.fy_answers.proofs.handled.tell.Goals as goal

pub returns-clause-told : goal.returns-clause-told
returns-clause-told c =
    let (line, spelled, is_line, text) = c.in_ok-push_told_line.ensures in (
      c.in_ok-told.told,
      line,
      c.in_ok-told.ensures,
      subst (λ setup. IsToldLine setup c.in_ok-told.told line) c.config.ensures spelled,
      is_line,
      text,
    )
