use Rattle.std.proofs.Common.{◌≡◌, ◌+◌, ◌++◌, suc, get_or, drop, map, sym, ap, subst, ◌∙◌, arith}
use Rattle.std.specs.FinSet as sets
use Rattle.std.specs.Ordering.{nat_cmp}
use Rattle.std.proofs.lemmas.Option.{slice_get-get_or}
use Rattle.fy_decide.specs.DeadBook.{may_lose}
use Rattle.fy_decide.specs.Safety.{with_set}
use Rattle.fy_tolerance.specs.Bears.{borne_pairs}
use Rattle.fy_tolerance.proofs.BorneLosses.{map_pushed}
use Rattle.fy_tolerance.proofs.Tolerating.{pairs_on}
use Rattle.fy_tolerance.proofs.groups.borne_in_pairs.Goals as goal

pub loop-i-preserved : goal.loop-i-preserved
loop-i-preserved c =
    let sets' = c.as_slice-sets.result.now in
    let more : suc c.loop-i.i ≡ c.loop-i.i + 1 = omega arith in
    let one : sets.FinSet nat_cmp = get_or sets' c.loop-i.i sets.empty in
    let at = slice_get-get_or sets' c.loop-i.i (sets.empty {R = nat_cmp}) c.loop-i-test.true in
    subst (λ n. map (λ row. row.items) c.push.new.self.items ++ borne_pairs c.args.dead.now c.args.loss (drop n (map (λ set. sets.contains set) sets')) ≡ borne_pairs c.args.dead.now c.args.loss (map (λ set. sets.contains set) sets')) more
    (pairs_on c.args.dead.now c.args.loss sets' c.loop-i.i (map (λ row. row.items) c.loop-i.rows.items) (map (λ row. row.items) c.push.new.self.items) c.in_ok-row_of.field-0.items one _
    c.loop-i-test.true at
    (ap (λ rows. map (λ row. row.items) rows) c.in_ok-push.ensures.items ∙ map_pushed (λ row. row.items) c.loop-i.rows.items c.in_ok-row_of.field-0)
    (c.in_ok-row_of.ensures one at ∙ ap (λ n. map (λ other. may_lose c.args.dead.now (with_set (sets.contains one) (sets.contains other)) c.args.loss) (drop n sets')) (sym more))
    c.loop-i.invariant)
