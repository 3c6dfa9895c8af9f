-- what is left of an audit, where its first line is faulty
use Rattle.std.proofs.Common.{◌≡◌, ◌∙◌, ℕ, ◌<◌, ◌≤◌, List, [], ◌∷◌, ◌++◌, length, ap, arith}
use Rattle.fy_lines.specs.Lines.{lines_of, IsLine}
use Rattle.fy_lines.proofs.SplitLemmas.{lines_of_lone}
use Rattle.fy_lines.proofs.FeedLemmas.{begins}
use Rattle.fy_spelling.specs.Values.{text_of}
use Rattle.fy_spelling.specs.declared.command.TheConstants.{MOST_LINE_BYTES}
use Rattle.fy_audit.specs.Audit.{BeginsFaulty}
use Rattle.fy_audit.specs.declared.audit.AuditLineFault.TheVariants.{TooLong, Syntax}
use Rattle.fy_audit.proofs.Steps.{spread}
use Rattle.fy_acts.specs.declared.version.Version.{Version}

-- a line has no line feed in it
no_feed : (xs ys zs : List ℕ) → IsLine xs → xs ≡ ys ++ 10 ∷ zs → ⊥
no_feed [] [] zs whole is = cc
no_feed [] (y ∷ ys) zs whole is = cc
no_feed (x ∷ xs) [] zs whole is = whole.0 cc
no_feed (x ∷ xs) (y ∷ ys) zs whole is = no_feed xs ys zs whole.1 cc

-- a last line that lacks its line feed
pub no_last : (version : Version) (place : ℕ) (rest : List ℕ) → 0 < length rest → IsLine rest → length rest ≤ MOST_LINE_BYTES
    → BeginsFaulty version place rest Syntax
no_last version place rest some whole short = record {
  line = rest;
  after = [];
  first = lines_of_lone rest some whole;
  is = (short, λ entry after begins. no_feed rest (text_of entry) after whole (begins.split ∙ spread entry after));
}

-- a line that begins with more bytes than a line may have
pub long_front : (version : Version) (place : ℕ) (rest front after : List ℕ) → rest ≡ front ++ after → IsLine front
    → MOST_LINE_BYTES < length front → BeginsFaulty version place rest TooLong
long_front version place rest front after split whole long =
    let first = begins front after (omega arith) whole in
    let longer = first.3 in
    record {
      line = first.0;
      after = first.1;
      first = ap lines_of split ∙ first.2;
      is = omega arith;
    }
