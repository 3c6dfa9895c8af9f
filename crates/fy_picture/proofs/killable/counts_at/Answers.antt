use Rattle.std.proofs.Common.{◌∙◌, ◌++◌, ◌∷◌, ◌<◌, [], get_or, length, map, rules, set, take, sym, ap, arith}
use Rattle.std.proofs.lemmas.List.{take_all, set-get_or}
use Rattle.fy_picture.specs.Counters.{Counting, counted_in}
use Rattle.fy_picture.proofs.Losing.{mapped_next}
use Rattle.fy_picture.proofs.killable.counts_at.Goals as goal

pub loop-i-preserved : goal.loop-i-preserved
loop-i-preserved c = record {
  same =
      ap (set c.loop-i.counters c.loop-i.i) c.count_at-count.ensures.same
      ∙ set-get_or c.loop-i.counters c.loop-i.i c.index-counters-i.result
      ∙ c.loop-i.invariant.same;
  counts =
      c.in_ok-push.ensures.items
      ∙ ap (λ ns. ns ++ c.count_at-count.result ∷ []) c.loop-i.invariant.counts
      ∙ ap (λ n. map (counted_in c.args.states.now) (take c.loop-i.i c.args.counters.now) ++ n ∷ []) (c.count_at-count.ensures.count ∙ ap (λ (x : Counting). counted_in c.args.states.now x) (sym c.index-counters-i.is))
      ∙ mapped_next (counted_in c.args.states.now) c.args.counters.now c.loop-i.i c.index-counters-i.result (let within : c.loop-i.i < length c.args.counters.now = search rules in within)
      (c.index-counters-i.is ∙ ap (λ cs. get_or cs c.loop-i.i c.index-counters-i.result) c.loop-i.invariant.same);
}

pub returns-clause-same : goal.returns-clause-same
returns-clause-same c = c.loop-i.invariant.same

pub returns-clause-counts : goal.returns-clause-counts
returns-clause-counts c = c.loop-i.invariant.counts ∙ ap (map (counted_in c.args.states.now)) (take_all c.loop-i.i c.args.counters.now (omega arith))
