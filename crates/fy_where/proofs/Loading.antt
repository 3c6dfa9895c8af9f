-- what is known of the bytes of a cluster file
use Rattle.std.proofs.Common.{◌≡◌, ◌∙◌, ◌<◌, ℕ, List, length, Option, Some, None, Err, sym, subst}
use Rattle.std.specs.Prelude.{IfSome, Result}
use Rattle.fy_config.specs.Config.{ConfigOf, UnlessOom}
use Rattle.fy_config.specs.declared.fault.ConfigFault.{ConfigFault}
use Rattle.fy_config.specs.declared.fault.ConfigFault.TheVariants.{TooLong, Toml, Field, Limit, Name, Policy, PolicyUnmet, NoMemory}
use Rattle.fy_lines.specs.Readings.{ReadsAtMost}
use Rattle.fy_streams.specs.Stops.{config_stop, IfConfigFault, IsConfigStop, IsUnread}
use Rattle.fy_streams.specs.declared.stop.Stop.{Stop}
use Rattle.fy_streams.specs.declared.stop.Stop.TheVariants.{Read, NoMemory as NoMemoryStop}

-- what holds of the bytes that were read holds of those that were to come
pub if_known : (known : Option (List ℕ)) (read : List ℕ) (P : List ℕ → Type 0) →
    IfSome known (λ bytes. read ≡ bytes) → P read → IfSome known P
if_known None read P same holds = tt
if_known (Some bytes) read P same holds = subst P same holds

-- a fault of the bytes is told
pub fault_told : (known : Option (List ℕ)) (read : List ℕ) (fault : ConfigFault) →
    IfSome known (λ bytes. read ≡ bytes) → UnlessOom (ConfigOf read) (Err fault) →
    IfConfigFault (config_stop fault) (λ f. IfSome known (λ bytes. ConfigOf bytes (Err f)))
fault_told known read TooLong same holds = if_known known read _ same holds
fault_told known read Toml same holds = if_known known read _ same holds
fault_told known read (Field part) same holds = if_known known read _ same holds
fault_told known read (Limit part) same holds = if_known known read _ same holds
fault_told known read (Name part index) same holds = if_known known read _ same holds
fault_told known read (Policy index) same holds = if_known known read _ same holds
fault_told known read (PolicyUnmet index) same holds = if_known known read _ same holds
fault_told known read NoMemory same holds = tt

-- it is a stop of a cluster file
pub fault_own : (fault : ConfigFault) → IsConfigStop (config_stop fault)
fault_own TooLong = tt
fault_own Toml = tt
fault_own (Field part) = tt
fault_own (Limit part) = tt
fault_own (Name part index) = tt
fault_own (Policy index) = tt
fault_own (PolicyUnmet index) = tt
fault_own NoMemory = tt

-- and none of a reader that fails
pub fault_unread : (fault : ConfigFault) → config_stop fault ≡ Read → ⊥
fault_unread TooLong is = cc
fault_unread Toml is = cc
fault_unread (Field part) is = cc
fault_unread (Limit part) is = cc
fault_unread (Name part index) is = cc
fault_unread (Policy index) is = cc
fault_unread (PolicyUnmet index) is = cc
fault_unread NoMemory is = cc

-- what holds of the stop for too many bytes, where they are too many, and of the other two holds of
-- each stop of an input that isn't read whole
pub of_unread : {known left : Option (List ℕ)} {most : ℕ} {too_long stop : Stop} (P : Stop → Type 0) →
    (IfSome known (λ bytes. most < length bytes) → P too_long) → P Read → P NoMemoryStop →
    IsUnread known left most too_long stop → P stop
of_unread {known} {left} {most} {too_long} {stop} P long read no_memory (IsUnread.long is more) =
    subst P (sym is) (long more)
of_unread {known} {left} {most} {too_long} {stop} P long read no_memory (IsUnread.read is within) =
    subst P (sym is) read
of_unread {known} {left} {most} {too_long} {stop} P long read no_memory (IsUnread.no_memory is) =
    subst P (sym is) no_memory

-- of a reader that failed no more was read than it may give
pub unread_within : {known left : Option (List ℕ)} {most : ℕ} {too_long stop : Stop} →
    IsUnread known left most too_long stop → stop ≡ Read → (too_long ≡ Read → ⊥) →
    ReadsAtMost known left most
unread_within {known} {left} {most} {too_long} {stop} (IsUnread.long is more) read other =
    absurd (other (sym is ∙ read))
unread_within {known} {left} {most} {too_long} {stop} (IsUnread.read is within) read other = within
unread_within {known} {left} {most} {too_long} {stop} (IsUnread.no_memory is) read other =
    let bad : ⊥ = cc in absurd bad
