use Rattle.std.proofs.Common.{◌∙◌, ◌++◌, ℕ, List, ap, ap₂, drop, length}
use Rattle.std.specs.Prelude.{replicate}
use Rattle.fy_c.proofs.Drawn.{drop_zeros}
use Rattle.fy_c.proofs.planning.with_zeros.Goals as goal

pub returns : goal.returns
returns c =
    ap₂ (λ (xs : List ℕ) (n : ℕ). xs ++ drop n (replicate 33 0))
    (c.copy_from_slice.ensures.after ∙ c.as_bytes-text.ensures.bytes)
    (ap length c.as_bytes-text.ensures.bytes)
    ∙ ap (λ zeros. c.args.name.now ++ zeros) (drop_zeros (length c.args.name.now) 33)
