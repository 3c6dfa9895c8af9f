use Rattle.std.proofs.Common.{ℕ, ◌<◌, ◌≡◌, ◌++◌, List, slice_index_or}
use Rattle.fy_locality.specs.declared.key.Key.{Key}
use Rattle.fy_locality.specs.Key.{key_text}
use Rattle.fy_policy.proofs.reading.read_key.Given as goal

-- no key so far begins the text
abbrev pub invariant-loop-key : goal.invariant-loop-key
invariant-loop-key l = (k : ℕ) (d : Key) → k < l.key-index → (rest : List ℕ) → l.text ≡ key_text (slice_index_or l.key-items k d) ++ rest → ⊥
