use Rattle.std.proofs.Common.{rules}
use Rattle.fy_locality.proofs.Counting.{IsLeast-some}
use Rattle.fy_locality.proofs.process_set.ProcSet.is_empty.Goals as goal

pub returns-in-Some : goal.returns-in-Some
returns-in-Some c = (λ h. absurd (search rules), λ none. absurd (IsLeast-some _ _ c.in-Some.ensures.some none))
