use Rattle.std.proofs.Common.{ℕ, rules, subst}
use Rattle.std.proofs.lemmas.List.Sorted.{IsNonDecreasingBy-from_sort_by_key}
use Rattle.fy_records.specs.declared.verdict.Judged.{Judged}
use Rattle.fy_records.specs.Verdicts.{AreJudgedBelow}
use Rattle.fy_records.proofs.judge.judge_records.Goals as goal

pub returns : goal.returns
returns c h is = record {
  by_key = c.in_ok-records.records.items;
  all = subst (λ (n : ℕ). AreJudgedBelow h n c.in_ok-records.records.items) is.names (c.in_ok-records.ensures h is);
  same = c.in_ok-sort_by_key.ensures.permutation;
  order = IsNonDecreasingBy-from_sort_by_key (λ (judged : Judged). judged.acked.line) _ c.in_ok-sort_by_key.ensures.sorted (λ a r q k. search rules);
}
