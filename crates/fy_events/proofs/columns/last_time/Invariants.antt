use Rattle.std.proofs.Common.{◌≡◌, drop}
use Rattle.fy_events.specs.Columns.{last_from}
use Rattle.fy_events.proofs.columns.last_time.Given as goal

abbrev pub invariant-loop-event : goal.invariant-loop-event
invariant-loop-event l = last_from l.last (drop l.event-index l.events) ≡ last_from 0 l.events
