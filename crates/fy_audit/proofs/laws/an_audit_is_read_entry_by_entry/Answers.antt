use Rattle.fy_audit.proofs.Reading.{entries_mount, stops_are_faults, ends_as_audit}
use Rattle.fy_audit.proofs.laws.an_audit_is_read_entry_by_entry.Goals as goal

pub returns-clause-more : goal.returns-clause-more
returns-clause-more c = entries_mount

pub returns-clause-stopped : goal.returns-clause-stopped
returns-clause-stopped c = stops_are_faults

pub returns-clause-end : goal.returns-clause-end
returns-clause-end c = ends_as_audit
