use Rattle.fy_judge.proofs.WordLemmas.{ascii_is_text}
use Rattle.fy_judge.proofs.line.policy_text.Goals as goal

pub unreachable-requires : goal.unreachable-requires
unreachable-requires c = ascii_is_text _ c.if-not-is_policy_text.ensures c.in-Err.ensures.cases.0
