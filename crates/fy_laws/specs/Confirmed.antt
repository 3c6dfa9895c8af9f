-- what `check` finds of the audits that `run` and `guard` write
use Rattle.std.specs.Prelude.{◌≤◌, ℕ, true, List, length, Ok}
use Rattle.std.specs.List.{AllByRecursion}
use Rattle.fy_lines.specs.Lines.{lines_of}
use Rattle.fy_spelling.specs.declared.command.TheConstants.{MOST_LINE_BYTES}
use Rattle.fy_audit.specs.declared.audit.TheConstants.{MOST_AUDIT_BYTES}
use Rattle.fy_cluster.specs.Setup.{Setup}
use Rattle.fy_config.specs.Config.{ConfigOf}
use Rattle.fy_run.specs.RunTexts.{Runs}
use Rattle.fy_guard.specs.GuardTexts.{Answered}
use Rattle.fy_check.specs.CheckTexts.{Finds, legal_line}

-- a text is no longer than an audit may be, and none of its lines is longer than a line may be
pub record IsWithinLimits (text : List ℕ) : Type 0 where
  pub whole : length text ≤ MOST_AUDIT_BYTES
  pub lines : AllByRecursion (λ line. length line ≤ MOST_LINE_BYTES) (lines_of text)

-- under the setup of a cluster file, what `run` writes for a script is found legal, with an entry
-- for each line of the script, where it is within the limits
abbrev pub RunsAreConfirmed : Type 0
RunsAreConfirmed =
    (file script text : List ℕ) (setup : Setup) → ConfigOf file (Ok setup) →
    Runs setup script (Ok text) → IsWithinLimits text →
    Finds setup text (Ok (true, legal_line (length (lines_of script))))

-- so is what `guard` writes for the lines that it answers, at every moment
abbrev pub AnswersAreConfirmed : Type 0
AnswersAreConfirmed =
    (file text : List ℕ) (lines : List (List ℕ)) (setup : Setup) → ConfigOf file (Ok setup) →
    Answered setup lines text → IsWithinLimits text →
    Finds setup text (Ok (true, legal_line (length lines)))
