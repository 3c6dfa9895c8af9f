use Rattle.std.proofs.Common.{◌≡◌, ◌∙◌, ◌<◌, ◌≤◌, ◌==◌, length, refl, sym, subst, ap, arith}
use Rattle.fy_cluster.specs.Setup.{Setup}
use Rattle.fy_cluster.specs.Execution.{Execution, history_of}
use Rattle.fy_cluster.specs.History.{record_marked, records, some_is}
use Rattle.fy_picture.specs.Keeping.{BeginsNext, Notes, acknowledged, with_begun}
use Rattle.fy_picture.proofs.Recordings.{entry_recorded, may_next, next_is}
use Rattle.fy_picture.proofs.recorded.Recorded.enter.Goals as goal

pub returns-clause-recorded : goal.returns-clause-recorded
returns-clause-recorded c =
    let old = c.args.self.now in
    let mid = c.end_due.new.self in
    let e = c.args.entry in
    let setup = old.state.setup in
    let entries = old.state.journal in
    let parts = c.into_parts-at.ensures in
    let is_mid = c.in_ok-end_due.ensures.state in
    let may = may_next setup entries e c.one_entry_more.ensures.fronts c.one_entry_more.ensures.next c.requires.legal in
    let behind = next_is setup entries e mid.state may is_mid _ _ (ap (λ t. t.1) parts) (ap (λ t. t.2) parts) c.enter.new.self c.in-Ok.ensures.entered in
    let limit : c.journal_limit-limit.result ≡ setup.limit =
    c.journal_limit-limit.ensures ∙ ap (λ (x : Setup). x.limit) c.config.ensures ∙ ap (λ (x : Execution). x.setup.limit) behind in
    entry_recorded setup entries c.one_entry_more.ensures.fronts c.one_entry_more.ensures.next c.clients_told.ensures e
    mid c.min-self.result c.note_entry.new.acked_at.items c.begins_next-is_begun.result c.marks-marked.result c.enter.new.self
    is_mid c.in_ok-end_due.ensures.recorded c.in_ok-end_due.ensures.late c.requires.legal
    (λ n is most. let added = c.saturating_add.ensures in let least = c.min-self.ensures in let fits = c.journal_limit-limit.type_inv in omega arith)
    behind
    (λ t. subst (BeginsNext mid.state e) c.told-known.ensures (c.begins_next-is_begun.ensures.next t))
    (λ few begun unbegun. c.begins_next-is_begun.ensures.only (subst (λ n. n < 1000) (sym c.told-known.ensures) few) begun (subst (λ n. length (records (history_of mid.state)) ≤ n) (sym c.told-known.ensures) unbegun))
    (c.marks-marked.ensures.marked ∙ ap (λ act. record_marked (history_of mid.state) act) (ap (λ t. t.2) parts))
    (subst (λ at. Notes at (λ r. some_is (λ rec. rec == r) (acknowledged e.reply c.marks-marked.result)) (with_begun c.begins_next-is_begun.result mid.acked_at.items) c.note_entry.new.acked_at.items) (ap (λ t. t.0) parts)
    (subst (λ found. Notes c.into_parts-at.result.0 (λ r. some_is (λ rec. rec == r) found) (with_begun c.begins_next-is_begun.result mid.acked_at.items) c.note_entry.new.acked_at.items)
    (c.acknowledged-acked.ensures ∙ ap (λ reply. acknowledged reply c.marks-marked.result) (ap (λ t. t.3) parts))
    c.in_ok-note_entry.ensures))
    _ refl refl refl refl refl
