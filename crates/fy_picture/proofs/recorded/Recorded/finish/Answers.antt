use Rattle.std.proofs.Common.{◌≡◌, ◌∙◌, ◌≤◌, length, sym, subst, ap, arith}
use Rattle.std.specs.Prelude.{IsSome, IsSomeAnd}
use Rattle.fy_cluster.specs.Execution.{Execution}
use Rattle.fy_picture.specs.Keeping.{AreAckedAt}
use Rattle.fy_picture.specs.Killable.{AreCounted}
use Rattle.fy_picture.specs.Layouts.{AreAllMade, AreEven, IsWidth, laid_by, width_in}
use Rattle.fy_picture.specs.Pictures.{ShowEnds}
use Rattle.fy_picture.proofs.Laying.{ended_alike, ended_even, ended_laid, no_width}
use Rattle.fy_picture.proofs.Recordings.{counted_show, few_told, keepers_are}
use Rattle.fy_picture.proofs.recorded.Recorded.finish.Goals as goal

pub returns-clause-picture : goal.returns-clause-picture
returns-clause-picture c =
    let old = c.args.self in
    let mid = c.end_due.new.self in
    let last = c.end_last.new.self in
    let state = c.in_ok-end_due.ensures.state in
    let same = c.in_ok-end_last.ensures.same in
    let acked : AreAckedAt old.state.setup old.state.journal last.acked_at.items =
    subst (AreAckedAt old.state.setup old.state.journal) (sym same.acked)
    (subst (λ (x : Execution). AreAckedAt x.setup x.journal mid.acked_at.items) state c.in_ok-end_due.ensures.recorded.acked) in
    let few : length last.acked_at.items ≤ 1000 = few_told old.state.setup old.state.journal last.acked_at.items acked in
    let count : c.min-count.result ≡ length last.acked_at.items = let told = c.told.ensures in let least = c.min-count.ensures in omega arith in
    let columns = c.count_columns.new.columns.items in
    let counted : AreCounted mid.state.setup (length columns) columns =
    subst (λ s. AreCounted s (length columns) columns) (c.config.ensures ∙ ap (λ (x : Execution). x.setup) same.state) c.in_ok-count_columns.ensures.counted in
    record {
      columns = subst (λ (x : Execution). ShowEnds x.setup x.journal columns) state
          (counted_show mid.state.setup mid.state.journal last.columns.items columns c.in_ok-count_columns.ensures.ends c.in_ok-count_columns.ensures.states counted
          c.in_ok-end_last.ensures.columns);
      keepers = keepers_are old.state.setup old.state.journal last.acked_at.items c.in_ok-keepers.keepers.items c.min-count.result last.state
          (same.state ∙ state) acked count c.in_ok-keepers.ensures;
      acked = acked;
    }

pub returns-clause-even : goal.returns-clause-even
returns-clause-even c = λ none.
    let mid = c.end_due.new.self in
    let last = c.end_last.new.self in
    let state = c.in_ok-end_due.ensures.state in
    let n = ap (λ (x : Execution). length x.journal) state in
    let columns = c.count_columns.new.columns.items in
    let ended = ended_alike mid.plan (length mid.state.journal) last.columns.items columns c.in_ok-count_columns.ensures.ends c.in_ok-end_last.ensures.ended in
    let even = ended_even mid.plan (length mid.state.journal) columns (c.in_ok-end_due.ensures.laid ∙ none) ended in (
      subst (λ k. AreEven k columns) n even.0,
      subst (λ w. IsSomeAnd w (IsWidth (length c.args.self.state.journal))) (sym (c.width_of-width.ensures ∙ ap width_in c.in_ok-end_last.ensures.same.plan))
          (subst (λ k. IsSomeAnd (width_in mid.plan) (IsWidth k)) n even.1),
    )

pub returns-clause-laid : goal.returns-clause-laid
returns-clause-laid c = λ ends laid order.
    let mid = c.end_due.new.self in
    let last = c.end_last.new.self in
    let n = ap (λ (x : Execution). length x.journal) c.in_ok-end_due.ensures.state in
    let columns = c.count_columns.new.columns.items in
    let ended = ended_alike mid.plan (length mid.state.journal) last.columns.items columns c.in_ok-count_columns.ensures.ends c.in_ok-end_last.ensures.ended in
    subst (λ k. AreAllMade ends k columns) n
    (ended_laid mid.plan (length mid.state.journal) columns ends (c.in_ok-end_due.ensures.laid ∙ laid) ended order)

pub returns-clause-uneven : goal.returns-clause-uneven
returns-clause-uneven c = λ laid.
    c.width_of-width.ensures
    ∙ no_width c.end_last.new.self.plan (subst IsSome (sym (ap laid_by c.in_ok-end_last.ensures.same.plan ∙ c.in_ok-end_due.ensures.laid)) laid)
