use Rattle.std.proofs.Common.{None, sym, subst}
use Rattle.fy_events.specs.Events.{Rises}
use Rattle.fy_events.proofs.Rising.{first_rise}
use Rattle.fy_events.proofs.columns.events_before.Goals as goal

pub returns-clause-rise : goal.returns-clause-rise
returns-clause-rise c all rises =
    subst (Rises c.args.count None) (sym c.count_before.ensures.those)
    (first_rise all c.args.count None c.args.events.now rises)
