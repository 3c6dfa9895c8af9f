use Rattle.std.proofs.Common.{◌≡◌, ◌∙◌, ◌<◌, Some, rules, length, get_or, refl, sym, ap, subst, slice_get}
use Rattle.std.proofs.lemmas.List.{length-map}
use Rattle.std.proofs.lemmas.Option.{slice_get-get_or}
use Rattle.fy_picture.specs.declared.column.Column.{Column}
use Rattle.fy_picture.specs.Counters.{AreCounters}
use Rattle.fy_picture.specs.Killable.{AreCounted, AreCountsAt}
use Rattle.fy_picture.proofs.Losing.{count_one, kept_items}
use Rattle.fy_picture.proofs.killable.count_columns.Goals as goal

pub loop-k-preserved : goal.loop-k-preserved
loop-k-preserved c =
    let setup = c.args.config.now in
    let start = c.args.columns.now.items in
    let now = c.loop-k.columns.items in
    let k = c.loop-k.k in
    let own = c.index_mut.result.now in
    let count : length now ≡ length start =
    sym (length-map now (λ (x : Column). x.end)) ∙ ap length c.loop-k.invariant.ends ∙ length-map start (λ (x : Column). x.end) in
    let within : k < length now = search rules in
    let is : own ≡ get_or now k own = search rules in
    let there : slice_get c.deref.result.now k ≡ Some own =
    ap (λ xs. slice_get xs k) c.deref.ensures.value ∙ slice_get-get_or now k own within ∙ ap Some (sym is) in
    let counted : AreCountsAt setup.processes setup.policies own.states c.in_ok-counts.counts.items =
    c.in_ok-counts.ensures.counts setup own (subst (AreCounted setup k) (sym c.deref.ensures.value) c.loop-k.invariant.counted) (subst (AreCounters setup) (sym c.deref_mut.ensures.value) c.loop-k.invariant.counters) there in
    let all = count_one setup start now k own (record { end = own.end; states = own.states; counts = c.in_ok-counts.counts }) within is refl refl counted
    c.loop-k.invariant.ends c.loop-k.invariant.states c.loop-k.invariant.counted in
    record { counters = kept_items c.loop-k.counters c.deref_mut.result.now c.next_counts.new.counters c.in_ok-counts.ensures.same c.deref_mut.ensures.value ∙ c.loop-k.invariant.counters; ends = all.0; states = all.1; counted = all.2 }
