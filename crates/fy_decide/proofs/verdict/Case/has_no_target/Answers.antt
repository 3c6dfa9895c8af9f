use Rattle.std.proofs.Common.{true≢false, sym, ap}
use Rattle.fy_decide.specs.Targets.{set_of, targeted}
use Rattle.fy_decide.proofs.Alone.{one_is_some}
use Rattle.fy_decide.proofs.verdict.Case.has_no_target.Goals as goal

pub returns-in-One : goal.returns-in-One
returns-in-One c = (
  λ e. absurd (true≢false (sym e)),
  λ none. absurd (one_is_some (targeted c.args.self.now.targets.now) c.in-One.field-0.0 (ap set_of c.in-One.is) none),
)
