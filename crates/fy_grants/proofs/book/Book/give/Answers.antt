use Rattle.std.specs.Prelude.{slice_set}
use Rattle.std.proofs.lemmas.List.{get_or_default}
use Rattle.std.proofs.Common.{◌+◌, ◌<◌, [], ◌∷◌, ◌++◌, length, ap, sym, subst, ◌∙◌, arith}
use Rattle.fy_grants.specs.Rights.{with_grant}
use Rattle.fy_grants.specs.Covers.{bare, IsGrantBook}
use Rattle.fy_grants.proofs.Lists.{lists_of, own_items, within_lists, written, unwritten, on_err}
use Rattle.fy_grants.proofs.Covered.{book_given}
use Rattle.fy_grants.proofs.book.Book.give.Goals as goal

pub invariant_of-self : goal.invariant_of-self
invariant_of-self c =
    let vecs = c.self.inside.grants.items in
    let within : c.args.grant.actor < length c.self.inside.grants.items = omega (arith, c.self.inside.grants.ok.0) in
    subst (λ lists. IsGrantBook c.self.inside.processes lists c.self.inside.given c.self.inside.covers.items) (sym (unwritten vecs c.args.grant.actor _ (c.in_err-push_last.ensures.err ∙ own_items vecs c.args.grant.actor _ within c.index_mut.ensures.value))) c.self.invariant

pub returns-in_err-push_last-clause-err : goal.returns-in_err-push_last-clause-err
returns-in_err-push_last-clause-err c =
    let vecs = c.self.inside.grants.items in
    let within : c.args.grant.actor < length c.self.inside.grants.items = omega (arith, c.self.inside.grants.ok.0) in
    on_err _ _ (ap (λ lists. record { processes = c.self.inside.processes; grants = lists; protections = c.self.inside.protections }) (unwritten vecs c.args.grant.actor _ (c.in_err-push_last.ensures.err ∙ own_items vecs c.args.grant.actor _ within c.index_mut.ensures.value)) ∙ c.self.view_is)

pub invariant_of-self-2 : goal.invariant_of-self-2
invariant_of-self-2 c =
    let vecs = c.self.inside.grants.items in
    let within : c.args.grant.actor < length c.self.inside.grants.items = omega (arith, c.self.inside.grants.ok.0) in
    let there : c.args.grant.actor < length c.self.inside.covers.items = omega (arith, within_lists vecs c.args.grant.actor within, c.self.invariant.count) in
    subst (λ lists. IsGrantBook c.self.inside.processes lists (c.self.inside.given + 1) (slice_set c.self.inside.covers.items c.args.grant.actor c.add.new.self)) (sym (written vecs c.args.grant.actor _ _ (c.in_ok-push_last.ensures.ok ∙ ap (λ own. own ++ c.args.grant ∷ []) (own_items vecs c.args.grant.actor _ within c.index_mut.ensures.value))))
    (book_given c.self.inside.processes (lists_of vecs) c.self.inside.given c.self.inside.covers.items c.args.grant.actor c.args.grant c.index_mut-2.result.now c.add.new.self c.self.invariant (within_lists vecs _ within) c.if-self-ge-MOST_GRANTS.false
    (c.index_mut-2.ensures.value ∙ get_or_default c.self.inside.covers.items c.args.grant.actor c.index_mut-2.result.now bare there)
    c.add.ensures)

pub returns-clause-given : goal.returns-clause-given
returns-clause-given c =
    let vecs = c.self.inside.grants.items in
    let within : c.args.grant.actor < length c.self.inside.grants.items = omega (arith, c.self.inside.grants.ok.0) in
    ap (λ lists. record { processes = c.self.inside.processes; grants = lists; protections = c.self.inside.protections }) (written vecs c.args.grant.actor _ _ (c.in_ok-push_last.ensures.ok ∙ ap (λ own. own ++ c.args.grant ∷ []) (own_items vecs c.args.grant.actor _ within c.index_mut.ensures.value)))
    ∙ ap (λ rights. with_grant rights c.args.grant) c.self.view_is
