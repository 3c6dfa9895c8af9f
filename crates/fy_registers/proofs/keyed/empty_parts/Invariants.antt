use Rattle.std.proofs.Common.{◌≡◌, [], All, vec_len}
use Rattle.fy_registers.proofs.keyed.empty_parts.Given as goal

-- the parts so far are empty
abbrev pub invariant-loop : goal.invariant-loop
invariant-loop l = (vec_len l.parts ≡ l.counter) × All (λ part. part.items ≡ []) l.parts.items
