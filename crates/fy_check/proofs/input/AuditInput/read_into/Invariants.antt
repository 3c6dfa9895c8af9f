use Rattle.std.proofs.Common.{◌≡◌, ◌-◌, ℕ, List, [], Option}
use Rattle.fy_acts.specs.declared.entry.Entry.{Entry}
use Rattle.fy_audit.specs.declared.audit.TheConstants.{MOST_AUDIT_BYTES}
use Rattle.fy_check.specs.Inputs.{HasTaken}
use Rattle.fy_check.proofs.input.AuditInput.read_into.Given as goal

-- the entries that were taken are those that the sink has taken
abbrev pub invariant-loop-entry : goal.invariant-loop-entry
invariant-loop-entry g l =
    (entries : List Entry)
    × ((known : Option (List ℕ)) → HasTaken known (g.R.Read.remaining l.fn.reader) [] l.fn.self
    → HasTaken known (g.R.Read.remaining l.reader) entries l.self)
    × g.S.Sink.has_taken l.fn.sink entries l.sink
    × ((known : Option (List ℕ)) × HasTaken known (g.R.Read.remaining l.reader) entries l.self)
    × (l.self.version ≡ l.fn.self.version)

abbrev pub decreases-loop-entry : goal.decreases-loop-entry
decreases-loop-entry g l = MOST_AUDIT_BYTES - l.self.place
