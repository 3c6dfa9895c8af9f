use Rattle.std.proofs.Common.{ap, ◌∙◌}
use Rattle.std.specs.FinSet as sets
use Rattle.fy_kinds.specs.Kinds.{Clogging}
use Rattle.fy_decide.specs.Targets.{targeted}
use Rattle.fy_decide.specs.Verdicts.{situation_of, bar}
use Rattle.fy_decide.proofs.Judging.{bar_of_clog}
use Rattle.fy_decide.proofs.verdict.Case.clog_bar.Goals as goal

pub returns : goal.returns
returns c =
    c.permission_bar.ensures Clogging c.of_clog.ensures
    ∙ bar_of_clog (situation_of c.args.self.now.dead.now c.args.self.now.book.now c.args.self.now.actor) (sets.contains (targeted c.args.self.now.targets.now))
    ∙ ap (bar (situation_of c.args.self.now.dead.now c.args.self.now.book.now c.args.self.now.actor) Clogging) (λ i p. c.requires.found p i)
