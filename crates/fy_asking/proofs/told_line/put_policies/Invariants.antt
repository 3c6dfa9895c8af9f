use Rattle.std.proofs.Common.{◌≡◌, ◌++◌, drop, false, []}
use Rattle.fy_policy.specs.Text.{text}
use Rattle.fy_asking.specs.ToldPieces.{listed_text, quoted_text}
use Rattle.fy_asking.proofs.told_line.put_policies.Given as goal

abbrev pub invariant-loop-policy : goal.invariant-loop-policy
invariant-loop-policy l =
    l.out.items ++ listed_text (λ policy. quoted_text [] (text policy)) l.later (drop l.policy-index l.policies)
    ≡ l.fn.out.items ++ listed_text (λ policy. quoted_text [] (text policy)) false l.policies
