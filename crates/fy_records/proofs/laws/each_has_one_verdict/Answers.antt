use Rattle.std.proofs.Common.{◌≡◌, ◌+◌, ℕ, suc, Bool, List, [], ◌∷◌, length, cond, refl, arith}
use Rattle.std.proofs.lemmas.List.Sums.{sum_by-cons}
use Rattle.fy_records.specs.declared.verdict.Judged.{Judged}
use Rattle.fy_records.specs.declared.verdict.Verdict.{Verdict}
use Rattle.fy_records.specs.declared.verdict.Verdict.TheVariants.{Lost, Wrong, Missing, Unreadable, Stale, Kept}
use Rattle.fy_records.specs.Counted.{count_of, is_lost, is_wrong, is_missing, is_unreadable, is_stale, is_kept}
use Rattle.fy_records.proofs.laws.each_has_one_verdict.Goals as goal

-- the six counts together
sums : (records : List Judged) → count_of is_lost records + count_of is_wrong records + count_of is_missing records
    + count_of is_unreadable records + count_of is_stale records + count_of is_kept records ≡ length records
sums [] = refl
sums (judged ∷ records) =
    let more = λ (p : Verdict → Bool). sum_by-cons (λ (j : Judged). cond (p j.verdict) 1 0) judged records in
    omega (arith, more is_lost, more is_wrong, more is_missing, more is_unreadable, more is_stale, more is_kept, by judged.verdict (count_of is_lost records) (count_of is_wrong records) (count_of is_missing records) (count_of is_unreadable records) (count_of is_stale records) (count_of is_kept records) (sums records))
  where
    by : (v : Verdict) (l w m u s k : ℕ) → l + w + m + u + s + k ≡ length records
        → (cond (is_lost v) 1 0 + l) + (cond (is_wrong v) 1 0 + w) + (cond (is_missing v) 1 0 + m)
        + (cond (is_unreadable v) 1 0 + u) + (cond (is_stale v) 1 0 + s) + (cond (is_kept v) 1 0 + k) ≡ suc (length records)
    by (Lost loss) l w m u s k rest = omega (arith, rest)
    by Wrong l w m u s k rest = omega (arith, rest)
    by Missing l w m u s k rest = omega (arith, rest)
    by Unreadable l w m u s k rest = omega (arith, rest)
    by Stale l w m u s k rest = omega (arith, rest)
    by Kept l w m u s k rest = omega (arith, rest)

pub returns : goal.returns
returns c records = sums records
