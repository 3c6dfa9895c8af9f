use Rattle.std.proofs.Common.{sym, ap, ◌∙◌, true≢false, arith}
use Rattle.std.specs.Ordering.{nat_cmp}
use Rattle.std.specs.FinSet as sets
use Rattle.fy_tolerance.proofs.Taking.{too_many_taken}
use Rattle.fy_tolerance.proofs.parts.least_of.Goals as goal

pub returns-in-None-clause-least : goal.returns-in-None-clause-least
returns-in-None-clause-least c = record {
  level = 1025;
  taken = c.min-taken.result;
  few = omega arith;
  within = too_many_taken c.min-taken.result c.args.parts.now c.in-None.ensures.none;
}

pub returns-in-None-clause-within : goal.returns-in-None-clause-within
returns-in-None-clause-within c = λ s each p h. absurd (true≢false (sym h ∙ ap (λ t. sets.contains t p) c.empty.ensures ∙ sets.contains-empty nat_cmp p))
