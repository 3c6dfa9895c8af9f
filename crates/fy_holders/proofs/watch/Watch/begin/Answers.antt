use Rattle.std.proofs.Common.{[], ◌∙◌, List, length, sym, subst, ap, Option}
use Rattle.fy_cluster.specs.Execution.{Execution}
use Rattle.fy_cluster.specs.Versions.{LegalUnder}
use Rattle.fy_replay.specs.Replayed.{HasFirstBad}
use Rattle.fy_events.specs.declared.event.Done.{Done}
use Rattle.fy_holders.specs.declared.outages.Heal.{Heal}
use Rattle.fy_holders.specs.Noted.{AreNoted}
use Rattle.fy_holders.specs.Turns.{AreEmpty}
use Rattle.fy_holders.proofs.Watching.{none_noted}
use Rattle.fy_holders.proofs.watch.Watch.begin.Goals as goal

pub invariant_of-result : goal.invariant_of-result
invariant_of-result c whole none =
    let replayer = c.in_ok-begin.field-0 in
    let begun = c.in_ok-begin.ensures.begun in
    let legal : LegalUnder replayer.version c.args.config [] = subst (HasFirstBad replayer.version c.args.config []) none begun.first in
    let turns = c.in_ok-turns.turns.items in
    let empty = subst (λ n. AreEmpty n turns) (c.len.ensures.count ∙ ap length c.map.ensures) c.in_ok-turns.ensures in
    let noted = none_noted c.args.config turns legal.legal empty in
    let same = sym (begun.execution none) in
    record {
      legal = subst (λ (x : Execution). LegalUnder replayer.version x.setup x.journal) same legal;
      noted = subst (λ (x : Execution). AreNoted x.setup x.journal 0 turns c.new.result.items c.new-2.result.items) same
          (subst (λ (heals : List Heal). AreNoted c.args.config [] 0 turns heals c.new-2.result.items) (sym c.new.ensures.items)
          (subst (λ (answers : List (Option Done)). AreNoted c.args.config [] 0 turns [] answers) (sym c.new-2.ensures.items) noted));
    }
