use Rattle.std.proofs.Common.{◌∙◌, Option, false, sym, ap}
use Rattle.std.specs.Prelude.{nat_lt}
use Rattle.std.specs.Option.{option_map_or}
use Rattle.fy_history.specs.declared.history.EntryLine.{EntryLine}
use Rattle.fy_verdict.specs.Whole.{line_of, is_beyond_guard}
use Rattle.fy_verdict.proofs.Fronts.{first_is_any}
use Rattle.fy_verdict.proofs.entries.is_behind.Goals as goal

pub returns-in-Some : goal.returns-in-Some
returns-in-Some c = λ journal entries order is.
    ap (λ (o : Option EntryLine). option_map_or (λ (e : EntryLine). nat_lt (line_of e) c.args.line) o false)
    (sym c.in-Some.is ∙ is)
    ∙ first_is_any line_of (is_beyond_guard journal) c.args.line entries order

pub returns-in-None : goal.returns-in-None
returns-in-None c = λ journal entries order is.
    ap (λ (o : Option EntryLine). option_map_or (λ (e : EntryLine). nat_lt (line_of e) c.args.line) o false)
    (sym c.in-None.is ∙ is)
    ∙ first_is_any line_of (is_beyond_guard journal) c.args.line entries order
