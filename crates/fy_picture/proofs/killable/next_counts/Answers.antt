use Rattle.std.proofs.Common.{◌≡◌, ◌∙◌, ◌-◌, Some, get_or, rules, map, sym, ap, subst, slice_get}
use Rattle.std.proofs.lemmas.Option.{get_or_from_slice_get, slice_get-get_or}
use Rattle.fy_picture.specs.declared.column.Column.{Column}
use Rattle.fy_picture.specs.Counters.{counted_in}
use Rattle.fy_picture.specs.Killable.{AreCountsAt, HaveSameLosses}
use Rattle.fy_picture.proofs.Losing.{counting, counts_by, counts_same}
use Rattle.fy_picture.proofs.killable.next_counts.Goals as goal

pub returns-then-has_same_losses-clause-counts : goal.returns-then-has_same_losses-clause-counts
returns-then-has_same_losses-clause-counts c = λ setup column counted counters is.
    let columns = c.args.columns.now in
    let own = c.index-columns-k.result in
    let before = c.index-columns-k-then-k-gt0.result in
    let same : own ≡ column = c.index-columns-k.is ∙ get_or_from_slice_get columns c.args.k column own is in
    let there : slice_get columns (c.args.k - 1) ≡ Some before =
    slice_get-get_or columns (c.args.k - 1) before (search rules) ∙ ap Some (sym c.index-columns-k-then-k-gt0.is) in
    let earlier : AreCountsAt setup.processes setup.policies before.states before.counts.items = counted (c.args.k - 1) before (search rules) there in
    let losses : HaveSameLosses before.states own.states =
    subst (λ (x : Column). HaveSameLosses before.states x.states) (sym c.index-columns-k.is) (c.has_same_losses.ensures c.if-has_same_losses.true) in
    let now = counts_same setup.processes setup.policies before.states own.states before.counts.items losses earlier in
    subst (λ (x : Column). AreCountsAt setup.processes setup.policies x.states c.in_ok-counts.counts.items) same
    (subst (AreCountsAt setup.processes setup.policies own.states) (sym (c.in_ok-counts.ensures.items ∙ c.deref.ensures.value)) now)

pub returns-clause-counts : goal.returns-clause-counts
returns-clause-counts c = λ setup column counted counters is.
    let own = c.index-columns-k.result in
    let at : Column = get_or c.args.columns.now c.args.k own in
    let same : at ≡ column = get_or_from_slice_get c.args.columns.now c.args.k column own is in
    let fresh : c.in_ok-fresh.fresh.items ≡ map (counted_in at.states) (map (counting setup.processes) setup.policies) =
    c.in_ok-fresh.ensures.counts ∙ ap (map (counted_in at.states)) counters in
    subst (λ (x : Column). AreCountsAt setup.processes setup.policies x.states c.in_ok-fresh.fresh.items) same
    (counts_by setup.processes setup.policies at.states c.in_ok-fresh.fresh.items fresh)
