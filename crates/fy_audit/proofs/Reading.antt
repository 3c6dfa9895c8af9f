-- an audit is read by its entries one after another
use Rattle.std.proofs.Common.{◌≡◌, ◌∙◌, ◌+◌, ℕ, List, [], ◌∷◌, ◌++◌, sym, subst, ap, arith, append-nil, length-append}
use Rattle.fy_acts.specs.declared.entry.Entry.{Entry}
use Rattle.fy_audit.specs.Audit.{BeginsFaulty, FirstFaulty, MayStandFrom}
use Rattle.fy_audit.specs.AuditText.{audit_text}
use Rattle.fy_audit.specs.Reading.{ReaderState, HasRead, EntryExtendsRead, StopsAreFaults, EndsAsAudit}
use Rattle.fy_audit.specs.declared.audit.AuditFault.TheVariants.{TooLong, Line, NoMemory}
use Rattle.fy_audit.specs.declared.audit.AuditLineFault.{AuditLineFault}
use Rattle.fy_audit.specs.declared.audit.AuditLineFault.TheVariants as of_line
use Rattle.fy_audit.proofs.Steps.{one_more_from, one_line_more}

pub entries_mount : EntryExtendsRead
entries_mount bytes entries entry old new read step =
    let longer = length-append entries (entry ∷ []) in
    let before = read.place in
    let after = step.place in
    let split = one_line_more old.version bytes old.rest new.rest entries entry read.split step.front.split in
    let faultless = one_more_from old.version 0 old.place entries entry read.faultless (omega arith) step.front.may in
    record {
      bound = read.bound;
      split = subst (λ version. bytes ≡ audit_text version (entries ++ entry ∷ []) ++ new.rest) (sym step.version) split;
      faultless = subst (λ version. MayStandFrom version 0 (entries ++ entry ∷ [])) (sym step.version) faultless;
      place = omega arith;
    }

first_faulty : (bytes : List ℕ) (entries : List Entry) (reader_state : ReaderState) (number : ℕ)
    (fault : AuditLineFault) → HasRead bytes entries reader_state → number ≡ reader_state.place + 2 →
    BeginsFaulty reader_state.version reader_state.place reader_state.rest fault → FirstFaulty bytes number fault
first_faulty bytes entries reader_state number fault read is begins = record {
  version = reader_state.version;
  entries = entries;
  rest = reader_state.rest;
  split = read.split;
  faultless = read.faultless;
  place = is ∙ ap (λ n. n + 2) read.place;
  here = subst (λ place. BeginsFaulty reader_state.version place reader_state.rest fault) read.place begins;
}

pub stops_are_faults : StopsAreFaults
stops_are_faults bytes entries reader_state TooLong read stop = absurd stop
stops_are_faults bytes entries reader_state (Line number of_line.Header) read stop = absurd stop.1.is
stops_are_faults bytes entries reader_state (Line number of_line.TooLong) read stop =
    (read.bound, first_faulty bytes entries reader_state number of_line.TooLong read stop.0 stop.1)
stops_are_faults bytes entries reader_state (Line number of_line.Syntax) read stop =
    (read.bound, first_faulty bytes entries reader_state number of_line.Syntax read stop.0 stop.1)
stops_are_faults bytes entries reader_state NoMemory read stop = tt

pub ends_as_audit : EndsAsAudit
ends_as_audit bytes entries reader_state read none = (
  read.bound,
  read.split ∙ ap (λ rest. audit_text reader_state.version entries ++ rest) none
      ∙ append-nil (audit_text reader_state.version entries),
  read.faultless,
)
