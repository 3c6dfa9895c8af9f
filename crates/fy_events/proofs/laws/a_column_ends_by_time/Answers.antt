use Rattle.std.proofs.Common.{None}
use Rattle.fy_events.proofs.Ends.{by_time}
use Rattle.fy_events.proofs.laws.a_column_ends_by_time.Goals as goal

pub returns : goal.returns
returns c events count entry time all low early = by_time events count entry time 0 None all low early
