use Rattle.std.proofs.Common.{rules, ◌≡◌, ◌∙◌, length, sym, ap, subst, refl, All, List}
use Rattle.fy_acts.specs.declared.entry.Entry.{Entry}
use Rattle.fy_cluster.specs.Execution.{Execution}
use Rattle.fy_cluster.specs.Replies.{Legal}
use Rattle.fy_actors.specs.Desk.{DeskState, entries_by, execution_of}
use Rattle.fy_shared.specs.Yard.{SeatState, IsJournalOf, actor_count}
use Rattle.fy_shared.proofs.Closing.{missing, found}
use Rattle.fy_shared.proofs.yard.Shared.close.Goals as goal

pub returns-then-len-self-clause-err : goal.returns-then-len-self-clause-err
returns-then-len-self-clause-err c =
    (refl, missing (actor_count c.args.self.setup) c.args.seats.items (search rules))

pub unreachable-requires : goal.unreachable-requires
unreachable-requires c =
    let f =
    found _ c.args.self c.args.seats.items c.gather-place.result.me _ _ c.take-desk.result
    c.gather-place.ensures.gathered (search rules) c.close_with-closed.ensures.values.2
    c.take-desk.ensures.value in
    c.in_default.not-Some _ f.is

pub returns-clause-ok : goal.returns-clause-ok
returns-clause-ok c =
    let f =
    found _ c.args.self c.args.seats.items c.gather-place.result.me _ _ c.take-desk.result
    c.gather-place.ensures.gathered (search rules) c.close_with-closed.ensures.values.2
    c.take-desk.ensures.value in
    let same : c.in-Some.desk ≡ f.desk = search rules in
    let execution : c.into_cluster.result ≡ execution_of f.desk =
    c.into_cluster.ensures ∙ ap (λ (b : DeskState). execution_of b) same in
    let journal : c.into_cluster.result.journal ≡ (f.desk).journal =
    ap (λ (r : Execution). r.journal) execution in
    record {
      setup = ap (λ (r : Execution). r.setup) execution ∙ f.setup;
      survives =
          c.journals_survive.ensures c.args.self.setup c.into_cluster.result.journal
          (search rules) (subst (Legal c.args.self.setup) (sym journal) f.legal);
      each =
          subst (λ (l : List Entry). All (λ (s : SeatState). IsJournalOf l s) c.args.seats.items)
          (sym journal) f.each;
      whole = f.whole;
      count = f.count;
      strangers = λ a above. ap (entries_by a) journal ∙ f.strangers a above;
      entries = f.entries ∙ ap (λ (l : List Entry). length l) (sym journal);
      left = c.gather-place.ensures.left;
    }
