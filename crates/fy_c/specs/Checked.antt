-- an audit that was checked line by line, from its begin to what is found
use Rattle.std.specs.Prelude.{◌≡◌, ◌≢◌, ℕ, List, [], ◌++◌, length, Option, None, Ok}
use Rattle.fy_audit.specs.Audit.{Audit, AuditOf}
use Rattle.fy_replay.specs.Replayed.{HasFirstBad}
use Rattle.fy_cluster.specs.Setup.{Setup}
use Rattle.fy_c.specs.Checking.{Finding, ReadsLine, bad_number}
use Rattle.fy_c.specs.declared.checking.Check.{Check}
use Rattle.fy_c.specs.declared.status.Status.{Status}
use Rattle.fy_c.specs.declared.status.Status.TheVariants.{Done}

-- a check with this setup was begun and given lines: these bytes are those that were read, one line
-- behind the other
pub data ComesTo (setup : Setup) : List ℕ → Check → Type 0 where
  begun : (check : Check) → check.config ≡ setup → check.begun ≡ None → ComesTo setup [] check
  read : (bytes line : List ℕ) (told : ℕ) (old new : Check) → ComesTo setup bytes old →
      ReadsLine old new line told Done → ComesTo setup (bytes ++ line) new
  refused : (bytes line : List ℕ) (told : ℕ) (status : Status) (old new : Check) →
      ComesTo setup bytes old → ReadsLine old new line told status → status ≢ Done →
      ComesTo setup bytes new

-- these bytes are an audit of so many entries, with this first bad one: what the program's `check`
-- finds of them
pub record IsFound (setup : Setup) (bytes : List ℕ) (count bad : ℕ) : Type 0 where
  pub audit : Audit
  pub read : AuditOf bytes (Ok audit)
  pub counted : count ≡ length audit.entries
  pub first_bad : Option ℕ
  pub first : HasFirstBad audit.version setup audit.entries first_bad
  pub told : bad ≡ bad_number first_bad

-- what a check finds is found of all that it was given and read
abbrev pub WhatWasReadIsFound : Type 0
WhatWasReadIsFound =
    (setup : Setup) (bytes : List ℕ) (check : Check) (count bad : ℕ) → ComesTo setup bytes check →
    Finding check count bad Done → IsFound setup bytes count bad
