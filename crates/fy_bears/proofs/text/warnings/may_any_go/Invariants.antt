use Rattle.std.proofs.Common.{◌≡◌}
use Rattle.fy_bears.specs.Warnings.{may_any_go}
use Rattle.fy_bears.proofs.text.warnings.may_any_go.Given as goal

abbrev pub invariant-loop-p : goal.invariant-loop-p
invariant-loop-p l = l.any ≡ may_any_go l.findings l.p
