-- a call that answers 0 has opened a guard where an audit ends
use Rattle.std.proofs.Common.{◌≡◌, ◌≢◌, ◌∙◌, ℕ, List, sym}
use Rattle.std.specs.Ptr.{null_ptr}
use Rattle.fy_config.specs.declared.fault.ConfigFault.{ConfigFault}
use Rattle.fy_config.specs.declared.fault.ConfigFault.TheVariants as config
use Rattle.fy_audit.specs.declared.audit.AuditLineFault.{AuditLineFault}
use Rattle.fy_audit.specs.declared.audit.AuditLineFault.TheVariants as of_line
use Rattle.fy_cluster.specs.Setup.{Setup}
use Rattle.fy_c.specs.Checking.{line_fault_status}
use Rattle.fy_c.specs.Opening.{NotOpened}
use Rattle.fy_c.specs.Resuming.{NotFollowed, OpensAfter}
use Rattle.fy_c.specs.Statuses.{Answers, config_status, number}
use Rattle.fy_c.specs.declared.handle.FyGuard.{FyGuard}
use Rattle.fy_c.specs.declared.status.Status.{Status}

config_not_done : (fault : ConfigFault) → 0 ≡ number (config_status fault) → ⊥
config_not_done config.TooLong is = cc
config_not_done config.Toml is = cc
config_not_done (config.Field part) is = cc
config_not_done (config.Limit part) is = cc
config_not_done (config.Name part index) is = cc
config_not_done (config.Policy index) is = cc
config_not_done (config.PolicyUnmet index) is = cc
config_not_done config.NoMemory is = cc

line_not_done : (fault : AuditLineFault) → 0 ≡ number (line_fault_status fault) → ⊥
line_not_done of_line.Header is = cc
line_not_done of_line.TooLong is = cc
line_not_done of_line.Syntax is = cc

not_opened : (bytes : List ℕ) (status : Status) → NotOpened bytes status → 0 ≡ number status → ⊥
not_opened bytes _ (NotOpened.refused fault of) is = config_not_done fault is
not_opened bytes _ (NotOpened.no_memory few text) is = cc

not_followed : (setup : Setup) (audit : List ℕ) (status : Status) → NotFollowed setup audit status →
    0 ≡ number status → ⊥
not_followed setup audit _ (NotFollowed.too_long of) is = cc
not_followed setup audit _ (NotFollowed.no_header of) is = cc
not_followed setup audit _ (NotFollowed.of_first few rest split) is = cc
not_followed setup audit _ (NotFollowed.faulty entries rest begins fault of) is =
    line_not_done fault is
not_followed setup audit _ (NotFollowed.no_memory entries rest begins) is = cc

followed : (config audit : List ℕ) (old new : FyGuard) (bad : ℕ) (status : Status) →
    OpensAfter config audit old new bad status → 0 ≡ number status → new.at ≢ null_ptr
followed config audit old new bad _ (OpensAfter.follows is_open setup of follows none) is = is_open
followed config audit old new bad _ (OpensAfter.not_opened status why same none) is =
    absurd (not_opened config status why is)
followed config audit old new bad _ (OpensAfter.not_followed status setup of why same none) is =
    absurd (not_followed setup audit status why is)
followed config audit old new bad _ (OpensAfter.refutes setup of refutes same) is = cc

pub guard_followed : (config audit : List ℕ) (old new : FyGuard) (bad told : ℕ) →
    Answers told (OpensAfter config audit old new bad) → told ≡ 0 → new.at ≢ null_ptr
guard_followed config audit old new bad told (status, told_is, opens) zero =
    followed config audit old new bad status opens (sym zero ∙ told_is)
