use Rattle.std.proofs.Common.{ap, ◌∙◌}
use Rattle.fy_decide.specs.declared.dead_book.Loss.TheVariants.{Emptied, Gone}
use Rattle.fy_tolerance.specs.Bears.{lost_as_allowed}
use Rattle.fy_tolerance.proofs.BorneLosses.{lost-processes, lost-policies}
use Rattle.fy_tolerance.proofs.book.book_of.Goals as goal

pub returns-clause-processes : goal.returns-clause-processes
returns-clause-processes c =
    ap (λ dead. dead.processes) c.strike_as_allowed-2.ensures ∙ lost-processes _ Emptied _
    ∙ ap (λ dead. dead.processes) c.strike_as_allowed.ensures ∙ lost-processes _ Gone _
    ∙ c.in_ok-dead.ensures.made.processes_are

pub returns-clause-policies : goal.returns-clause-policies
returns-clause-policies c =
    ap (λ dead. dead.policies) c.strike_as_allowed-2.ensures ∙ lost-policies _ Emptied _
    ∙ ap (λ dead. dead.policies) c.strike_as_allowed.ensures ∙ lost-policies _ Gone _
    ∙ c.in_ok-dead.ensures.made.policies_are

pub returns-clause-losses : goal.returns-clause-losses
returns-clause-losses c = (c.in_ok-dead.dead, c.in_ok-dead.ensures.made, c.strike_as_allowed-2.ensures ∙ ap (lost_as_allowed c.args.losses.now.destroyed Emptied) c.strike_as_allowed.ensures)
