use Rattle.std.proofs.Common.{◌≡◌, ◌<◌, ◌-◌, [], length, ap, sym, subst, ◌∙◌, arith, get_or}
use Rattle.std.specs.Prelude.{remove, slice_set}
use Rattle.std.proofs.lemmas.List.{get_or-set_same, length-set}
use Rattle.fy_grants.specs.Rights.{without_grant}
use Rattle.fy_grants.specs.Covers.{IsGrantBook}
use Rattle.fy_grants.proofs.Lists.{lists_of, own_items, within_lists, written, counted_some}
use Rattle.fy_grants.proofs.Covered.{book_taken}
use Rattle.fy_grants.proofs.book.Book.take.Goals as goal

pub overflow_sub-self : goal.overflow_sub-self
overflow_sub-self c =
    let vecs = c.self.inside.grants.items in
    let within : c.args.actor < length c.self.inside.grants.items = omega (arith, c.self.inside.grants.ok.0) in
    let own : c.index.result.now.items ≡ get_or (lists_of c.self.inside.grants.items) c.args.actor [] = own_items vecs c.args.actor _ within c.index.ensures in
    let some : c.args.index < length (get_or (lists_of c.self.inside.grants.items) c.args.actor []) = omega (arith, c.index.result.now.ok.0, ap length own) in
    counted_some (lists_of vecs) c.self.inside.given c.args.actor c.args.index c.self.invariant.counted (within_lists vecs _ within) some

pub invariant_of-self : goal.invariant_of-self
invariant_of-self c =
    let vecs = c.self.inside.grants.items in
    let within : c.args.actor < length c.self.inside.grants.items = omega (arith, c.self.inside.grants.ok.0) in
    let own : c.index.result.now.items ≡ get_or (lists_of c.self.inside.grants.items) c.args.actor [] = own_items vecs c.args.actor _ within c.index.ensures in
    let some : c.args.index < length (get_or (lists_of c.self.inside.grants.items) c.args.actor []) = omega (arith, c.index.result.now.ok.0, ap length own) in
    let closed = c.remove.ensures.items ∙ ap (λ grants. remove grants c.args.index) (own_items vecs c.args.actor _ within c.index_mut.ensures.value) in
    let after : lists_of (slice_set vecs c.args.actor c.remove.new.self) ≡ slice_set (lists_of vecs) c.args.actor (remove (get_or (lists_of vecs) c.args.actor []) c.args.index) = written vecs c.args.actor _ _ closed in
    let still : c.args.actor < length (slice_set vecs c.args.actor c.remove.new.self) = omega (arith, within, length-set vecs c.args.actor c.remove.new.self) in
    let others = c.deref.ensures.value ∙ own_items (slice_set vecs c.args.actor c.remove.new.self) c.args.actor _ still c.index-2.ensures ∙ ap (λ lists. get_or lists c.args.actor []) after ∙ get_or-set_same (lists_of vecs) c.args.actor _ [] (within_lists vecs _ within) in
    subst (λ lists. IsGrantBook c.self.inside.processes lists (c.self.inside.given - 1) (slice_set c.self.inside.covers.items c.args.actor c.of.result)) (sym after)
    (book_taken c.self.inside.processes (lists_of vecs) c.self.inside.given c.self.inside.covers.items c.args.actor c.args.index _ c.of.result c.self.invariant (within_lists vecs _ within) some others c.of.ensures)

pub returns-clause-taken : goal.returns-clause-taken
returns-clause-taken c =
    let vecs = c.self.inside.grants.items in
    let within : c.args.actor < length c.self.inside.grants.items = omega (arith, c.self.inside.grants.ok.0) in
    ap (λ lists. record { processes = c.self.inside.processes; grants = lists; protections = c.self.inside.protections }) (written vecs c.args.actor _ _ (c.remove.ensures.items ∙ ap (λ grants. remove grants c.args.index) (own_items vecs c.args.actor _ within c.index_mut.ensures.value)))
    ∙ ap (λ rights. without_grant rights c.args.actor c.args.index) c.self.view_is
