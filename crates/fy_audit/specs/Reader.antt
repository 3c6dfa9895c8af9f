-- a reader of an audit as its fields keep it
use Rattle.std.specs.Prelude.{◌≤◌, ◌+◌, length}
use Rattle.fy_audit.specs.Reading.{ReaderState}
use Rattle.fy_audit.specs.declared.audit.TheConstants.{MOST_AUDIT_BYTES}
use Rattle.fy_audit.specs.declared.reader.AuditReader.TheInside.{Inside}

-- what the fields say
abbrev pub reader_state : Inside → ReaderState
reader_state reader = record { version = reader.version; place = reader.place; rest = reader.rest.now }

-- the entries that were read and what is left are no more than an audit may have bytes
abbrev pub IsWithin : Inside → Type 0
IsWithin reader = reader.place + length reader.rest.now ≤ MOST_AUDIT_BYTES
