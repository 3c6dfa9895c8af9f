-- the statuses that the program exits with
use Rattle.std.specs.Prelude.{◌≡◌, ◌⊎◌, ℕ, Bool, true, false, Result, Ok, Err, if◌then◌else◌}
use Rattle.clap.specs.declared.error.kind.ErrorKind.{ErrorKind}
use Rattle.clap.specs.declared.error.kind.ErrorKind.TheVariants.{OutOfMemory, DisplayHelp, DisplayVersion}
use Rattle.fy_streams.specs.Stops.{stop_status}
use Rattle.fy_streams.specs.declared.stop.Stop.{Stop}
use Rattle.fy_streams.specs.declared.stop.Stop.TheVariants.{Write, NoMemory}
use Rattle.fy_histories.specs.Stops.{histories_status}
use Rattle.fy_histories.specs.declared.stop.HistoriesStop.{HistoriesStop}
use Rattle.fy_where.specs.declared.config.Refusal.{Refusal}
use Rattle.fy_verdict.specs.declared.engine.Outcome.{Outcome}
use Rattle.fy_verdict.specs.declared.engine.Outcome.TheVariants.{NotLegal, Lost, Wrong, Missing, Unreadable, Stale, Kept}

-- the status of a command: 0 where it is done, 5 where an entry isn't what the rules give, else
-- that of its stop
abbrev pub done_status : Result Bool Stop → ℕ
done_status (Ok true) = 0
done_status (Ok false) = 5
done_status (Err stop) = stop_status stop

-- the status of `verdict` for what became of the records: 5 where an entry isn't what the rules
-- give, and where a record may not be stale 7 for one that was
abbrev pub outcome_status : (fresh : Bool) → Outcome → ℕ
outcome_status fresh NotLegal = 5
outcome_status fresh Lost = 10
outcome_status fresh Wrong = 8
outcome_status fresh Missing = 9
outcome_status fresh Unreadable = 6
outcome_status fresh Stale = if fresh then 7 else 0
outcome_status fresh Kept = 0

-- the status of `verdict`
abbrev pub judged_status : (fresh : Bool) → Result Outcome HistoriesStop → ℕ
judged_status fresh (Ok outcome) = outcome_status fresh outcome
judged_status fresh (Err stop) = histories_status stop

-- the status of `linear`: 10 where a key isn't linearizable
abbrev pub keys_status : Result Bool HistoriesStop → ℕ
keys_status (Ok true) = 0
keys_status (Ok false) = 10
keys_status (Err stop) = histories_status stop

-- the status of `config`
abbrev pub told_status : Result Unit Refusal → ℕ
told_status (Ok done) = 0
told_status (Err refusal) = stop_status refusal.stop

-- the status once help or the version was printed
abbrev pub printed_status : {E : Type 0} → Result Unit E → ℕ
printed_status (Ok done) = 0
printed_status (Err fault) = stop_status Write

-- the status of words that name no task: help and the version are written, or the writer failed;
-- an allocation failed; or the words are wrong
abbrev pub IsAnsweredStatus : ErrorKind → ℕ → Type 0
IsAnsweredStatus DisplayHelp status = (status ≡ 0) ⊎ (status ≡ stop_status Write)
IsAnsweredStatus DisplayVersion status = (status ≡ 0) ⊎ (status ≡ stop_status Write)
IsAnsweredStatus OutOfMemory status = status ≡ stop_status NoMemory
IsAnsweredStatus _ status = status ≡ 2

-- the status where the words can't be had: they are no texts, or an allocation failed
abbrev pub IsUnreadStatus : ℕ → Type 0
IsUnreadStatus status = (status ≡ 2) ⊎ (status ≡ stop_status NoMemory)
