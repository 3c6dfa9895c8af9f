-- what is found was read
use Rattle.std.proofs.Common.{◌≡◌, ◌≢◌, ◌∙◌, ◌++◌, ℕ, List, [], refl, sym, subst}
use Rattle.fy_audit.specs.declared.audit.AuditLineFault.{AuditLineFault}
use Rattle.fy_audit.specs.declared.audit.AuditLineFault.TheVariants as of_line
use Rattle.fy_cluster.specs.Setup.{Setup}
use Rattle.fy_c.specs.Checked.{ComesTo, IsFound, WhatWasReadIsFound}
use Rattle.fy_c.specs.Checking.{Finding, HasBegun, HasChecked, HasProgress, ReadsLine, Refuses, line_fault_status}
use Rattle.fy_c.specs.declared.checking.Check.{Check}
use Rattle.fy_c.specs.declared.status.Status.{Status}
use Rattle.fy_c.specs.declared.status.Status.TheVariants.{Done}

-- no refusal is told as done
fault_not_done : (fault : AuditLineFault) → line_fault_status fault ≡ Done → ⊥
fault_not_done of_line.Header is = cc
fault_not_done of_line.TooLong is = cc
fault_not_done of_line.Syntax is = cc

not_done : (WasRead : List ℕ → Type 0) (number : ℕ) (line : List ℕ) (status : Status) →
    Refuses WasRead number line status → status ≡ Done → ⊥
not_done WasRead number line _ (Refuses.too_long told) is = cc
not_done WasRead number line _ (Refuses.faulty fault told) is = fault_not_done fault is
not_done WasRead number line _ (Refuses.empty none whole) is = cc
not_done WasRead number line _ (Refuses.more front after split some fits whole) is = cc
not_done WasRead number line _ (Refuses.no_memory may) is = cc

-- a line that was read was read behind what was read before
line_read : (setup : Setup) (bytes line : List ℕ) (told : ℕ) (old new : Check) (status : Status) →
    (old.config ≡ setup) × HasChecked bytes old → ReadsLine old new line told status →
    status ≡ Done → (new.config ≡ setup) × HasChecked (bytes ++ line) new
line_read setup bytes line told old new status was (ReadsLine.read done on bad) is =
    (on.config ∙ was.0, on.more bytes was.1)
line_read setup bytes line told old new status was (ReadsLine.refused why same bad) is =
    absurd (not_done _ _ line status why is)

-- one that was refused left all as it was
line_refused : (setup : Setup) (bytes line : List ℕ) (told : ℕ) (old new : Check) (status : Status) →
    (old.config ≡ setup) × HasChecked bytes old → ReadsLine old new line told status →
    status ≢ Done → (new.config ≡ setup) × HasChecked bytes new
line_refused setup bytes line told old new status was (ReadsLine.read done on bad) other =
    absurd (other done)
line_refused setup bytes line told old new status was (ReadsLine.refused why same bad) other =
    subst (λ (it : Check). (it.config ≡ setup) × HasChecked bytes it) (sym same) was

came : (setup : Setup) (bytes : List ℕ) (check : Check) → ComesTo setup bytes check →
    (check.config ≡ setup) × HasChecked bytes check
came setup _ _ (ComesTo.begun check config none) =
    (config, subst (HasBegun check.config []) (sym none) refl)
came setup _ _ (ComesTo.read bytes line told old new before reads) =
    line_read setup bytes line told old new Done (came setup bytes old before) reads refl
came setup _ _ (ComesTo.refused bytes line told status old new before reads other) =
    line_refused setup bytes line told old new status (came setup bytes old before) reads other

found_of : (setup : Setup) (bytes : List ℕ) (check : Check) (count bad : ℕ) (status : Status) →
    (check.config ≡ setup) × HasChecked bytes check → Finding check count bad status →
    status ≡ Done → IsFound setup bytes count bad
found_of setup bytes check count bad _ was (Finding.found progress is counted told) done =
    let has : HasProgress setup bytes progress =
    subst (λ c. HasProgress c bytes progress) was.0
    (subst (HasBegun check.config bytes) is was.1) in
    record {
      audit = record { version = progress.replayed.version; entries = has.entries };
      read = has.audit;
      counted = counted ∙ has.count;
      first_bad = progress.replayed.first_bad;
      first = has.replayed.first;
      told = told;
    }
found_of setup bytes check count bad _ was (Finding.no_header none counted told) done = cc

pub what_was_read_is_found : WhatWasReadIsFound
what_was_read_is_found setup bytes check count bad comes finding =
    found_of setup bytes check count bad Done (came setup bytes check comes) finding refl
