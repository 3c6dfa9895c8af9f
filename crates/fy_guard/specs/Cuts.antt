-- an audit whose last line is cut, as a crash leaves it
use Rattle.std.specs.List.{AllByRecursion, flat_map}
use Rattle.std.specs.Prelude.{◌≡◌, ◌≤◌, ◌<◌, ◌+◌, ℕ, List, [], ◌∷◌, ◌++◌, length, take, Ok, Err, codes}
use Rattle.fy_lines.specs.Lines.{IsLine}
use Rattle.fy_spelling.specs.declared.command.TheConstants.{MOST_LINE_BYTES}
use Rattle.fy_audit.specs.Audit.{Audit, AuditOf}
use Rattle.fy_audit.specs.declared.audit.AuditFault.TheVariants.{Line}
use Rattle.fy_audit.specs.declared.audit.AuditLineFault.TheVariants.{Syntax}
use Rattle.fy_streams.specs.Stops.{numbered}

-- lines, each with its line feed
abbrev pub with_feeds : List (List ℕ) → List ℕ
with_feeds lines = flat_map (λ line. line ++ 10 ∷ []) lines

-- no line feed, and no more bytes than a line of an audit may have
abbrev pub IsShortLine : List ℕ → Type 0
IsShortLine line = IsLine line × (length line ≤ MOST_LINE_BYTES)

-- the line of this number, from 1, is the last one and lacks its line feed; so many bytes stand
-- before it, all of them whole lines
pub record IsCutAt (bytes : List ℕ) (number whole : ℕ) : Type 0 where
  pub lines : List (List ℕ)
  pub half : List ℕ
  pub split : bytes ≡ with_feeds lines ++ half
  pub each : AllByRecursion IsShortLine lines
  pub short : IsShortLine half
  pub some : 0 < length half
  pub at : number ≡ length lines + 1
  pub before : whole ≡ length (with_feeds lines)

-- the line of this number is the last one and is cut
abbrev pub IsCutLine : List ℕ → ℕ → Type 0
IsCutLine bytes number = (whole : ℕ) × IsCutAt bytes number whole

-- no line is cut
abbrev pub IsUncut : List ℕ → Type 0
IsUncut bytes = (number : ℕ) → ¬ IsCutLine bytes number

-- where a line is refused as no entry since it is cut, the bytes before it are an audit
abbrev pub WholeIsAudit : Type 0
WholeIsAudit =
    (bytes : List ℕ) (number whole : ℕ) → AuditOf bytes (Err (Line number Syntax)) →
    IsCutAt bytes number whole → (audit : Audit) × AuditOf (take whole bytes) (Ok audit)

-- the line that says how many bytes are whole lines
abbrev pub whole_text : ℕ → List ℕ
whole_text whole = numbered (codes "audit: whole to ") whole (codes "\n")
