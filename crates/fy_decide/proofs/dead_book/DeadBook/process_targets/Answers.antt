use Rattle.std.proofs.Common.{true≢false, ◌∙◌, ap, sym, subst}
use Rattle.std.specs.FinSet as sets
use Rattle.fy_locality.specs.Locality.{NamesDiffer}
use Rattle.fy_decide.specs.DeadBook.{Losses}
use Rattle.fy_decide.specs.Targets.{targeted}
use Rattle.fy_decide.proofs.Alone.{in-one, one_targeted, none_targeted, one_within, nobody_in}
use Rattle.fy_decide.proofs.dead_book.DeadBook.process_targets.Goals as goal

pub returns-then-contains-clause-members : goal.returns-then-contains-clause-members
returns-then-contains-clause-members c = λ q member. one_within (targeted c.one.result) c.args.p.0 q _ c.one.ensures.targeted c.requires member

pub returns-then-contains-clause-those : goal.returns-then-contains-clause-those
returns-then-contains-clause-those c = λ name is q.
    in-one (targeted c.one.result) c.args.p.0 q c.one.ensures.targeted
    ∙ one_targeted c.args.self.now.processes c.args.self.now.left
    (subst NamesDiffer (c.deref.ensures ∙ ap (λ (d : Losses). d.processes) c.self.view_is) c.names_differ.ensures) c.value_is_had.ensures c.args.p.0 q name is
    (ap (λ (d : Losses). sets.contains d.left c.args.p.0) (sym c.self.view_is) ∙ sym c.contains.ensures ∙ c.if-contains.true)

pub returns-else-contains-clause-members : goal.returns-else-contains-clause-members
returns-else-contains-clause-members c = λ q member. absurd (true≢false (sym member ∙ nobody_in (targeted c.nobody.result) q c.nobody.ensures))

pub returns-else-contains-clause-those : goal.returns-else-contains-clause-those
returns-else-contains-clause-those c = λ name is q.
    nobody_in (targeted c.nobody.result) q c.nobody.ensures
    ∙ none_targeted c.args.self.now.processes c.args.self.now.left
    (subst NamesDiffer (c.deref.ensures ∙ ap (λ (d : Losses). d.processes) c.self.view_is) c.names_differ.ensures) c.value_is_had.ensures c.args.p.0 q name is
    (ap (λ (d : Losses). sets.contains d.left c.args.p.0) (sym c.self.view_is) ∙ sym c.contains.ensures ∙ c.if-contains.false)
