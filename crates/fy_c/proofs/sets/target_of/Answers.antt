use Rattle.std.proofs.lemmas.Bool.{false≢true}
use Rattle.fy_c.specs.Sets.{NoTarget}
use Rattle.fy_c.proofs.sets.target_of.Goals as goal

pub returns-in_default-clause-none : goal.returns-in_default-clause-none
returns-in_default-clause-none c = NoTarget.no_key c.in_default.ensures.none

pub returns-in_default-from_bytes-clause-none : goal.returns-in_default-from_bytes-clause-none
returns-in_default-from_bytes-clause-none c =
    NoTarget.no_name c.in-Some.key c.in-Some.ensures.some
    (λ is. absurd (false≢true (c.in_default-from_bytes.ensures.accepted.1 is)))
