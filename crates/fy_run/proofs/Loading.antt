-- what is known of the bytes of a script
use Rattle.std.proofs.Common.{◌≡◌, ℕ, List, Option, Err}
use Rattle.std.specs.Prelude.{IfSome}
use Rattle.fy_audit.specs.Script.{ScriptOf, ScriptAnswers}
use Rattle.fy_audit.specs.declared.script.ScriptFault.{ScriptFault}
use Rattle.fy_audit.specs.declared.script.ScriptFault.TheVariants.{TooLong, Line, NoMemory}
use Rattle.fy_streams.specs.Stops.{script_stop, IsRunStop}
use Rattle.fy_streams.specs.declared.stop.Stop.TheVariants.{JournalFull, Read, Write}
use Rattle.fy_streams.proofs.Loading.{if_known}
use Rattle.fy_run.specs.RunTexts.{IfScriptFault}

-- a fault of the bytes is told
pub script_told : (known : Option (List ℕ)) (read : List ℕ) (fault : ScriptFault) →
    IfSome known (λ bytes. read ≡ bytes) → ScriptAnswers read (Err fault) →
    IfScriptFault (script_stop fault) (λ f. IfSome known (λ bytes. ScriptOf bytes (Err f)))
script_told known read TooLong same holds = if_known known read _ same holds
script_told known read (Line number fault) same holds = if_known known read _ same holds
script_told known read NoMemory same holds = tt

-- it is a stop of run's own
pub script_own : (fault : ScriptFault) → IsRunStop (script_stop fault)
script_own TooLong = tt
script_own (Line number fault) = tt
script_own NoMemory = tt

-- and none of a full journal, of a reader or of a writer
pub script_unfull : (fault : ScriptFault) → script_stop fault ≡ JournalFull → ⊥
script_unfull TooLong is = cc
script_unfull (Line number fault) is = cc
script_unfull NoMemory is = cc

pub script_unread : (fault : ScriptFault) → script_stop fault ≡ Read → ⊥
script_unread TooLong is = cc
script_unread (Line number fault) is = cc
script_unread NoMemory is = cc

pub script_unwritten : (fault : ScriptFault) → script_stop fault ≡ Write → ⊥
script_unwritten TooLong is = cc
script_unwritten (Line number fault) is = cc
script_unwritten NoMemory is = cc
