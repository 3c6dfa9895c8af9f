use Rattle.std.proofs.Common.{take}
use Rattle.fy_check_by_rules.specs.Steps.{AreStepsOf}
use Rattle.fy_check_by_rules.proofs.checking.check.Given as goal

abbrev pub invariant-loop-entry : goal.invariant-loop-entry
invariant-loop-entry l = AreStepsOf l.version l.config (take l.entry-index l.journal.entries) l.steps.items
