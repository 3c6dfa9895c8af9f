use Rattle.std.proofs.Common.{[], ◌∷◌, ◌++◌, subst, ap, sym, ◌∙◌}
use Rattle.std.proofs.lemmas.Result.{err_from_is_err_and}
use Rattle.std.specs.Prelude.{codes}
use Rattle.fy_policy.specs.Fronts.{BeginsWith}
use Rattle.fy_policy.specs.Shape.{tree_of}
use Rattle.fy_policy.specs.Tree.{across}
use Rattle.fy_policy.proofs.Readings.{fault_in, syntax_at, no_memory_at, one_found, across_found, no_head, no_inner, no_close, no_word, first_part, part_more, every_found, no_first, no_part, no_bracket}
use Rattle.fy_policy.proofs.reading.+shapes.Goals as goal

-- ---- across a key
pub read_across-returns-in_default : goal.read_across-returns-in_default
read_across-returns-in_default t c = syntax_at _ (no_head c.args.text.now c.in_default.ensures)

pub read_across-returns-in_err-inner : goal.read_across-returns-in_err-inner
read_across-returns-in_err-inner t c =
    let p = err_from_is_err_and c.from_residual.result c.from_residual.ensures.1 in
    let head = c.in-Some.ensures in
    rw (p.1, p.2) (fault_in _ c.in-Some.rest.now (codes "Across(" ++ c.args.text.now) (no_inner c.args.text.now c.in-Some.rest.now head.0 c.in-Some.key head.2) c.in_err-inner.ensures)

pub read_across-returns-in_default-behind : goal.read_across-returns-in_default-behind
read_across-returns-in_default-behind t c =
    let head = c.in-Some.ensures in
    syntax_at _ (no_close c.args.text.now c.in-Some.rest.now c.in_ok-inner.rest.now head.0 c.in-Some.key (tree_of c.in_ok-inner.inner) head.2 c.in_ok-inner.ensures c.in_default-behind.ensures)

pub read_across-returns-in_err-inner-2 : goal.read_across-returns-in_err-inner-2
read_across-returns-in_err-inner-2 t c =
    let p = err_from_is_err_and c.from_residual-in_err-inner-2.result c.from_residual-in_err-inner-2.ensures.1 in
    rw (p.1, p.2) (no_memory_at (codes "Across(" ++ c.args.text.now))

pub read_across-returns : goal.read_across-returns
read_across-returns t c =
    let head = c.in-Some.ensures in
    subst (λ q. BeginsWith (codes "Across(" ++ c.args.text.now) (across c.in-Some.count c.in-Some.key (tree_of q)) c.in-Some-behind.rest.now) (sym c.in_ok-inner-2.ensures.ok)
    (across_found c.args.text.now c.in-Some.rest.now c.in_ok-inner.rest.now c.in-Some-behind.rest.now head.0 c.in-Some.count c.in-Some.key (tree_of c.in_ok-inner.inner) head.1 head.2 c.in_ok-inner.ensures c.in-Some-behind.ensures)

-- ---- several parts
pub read_and-returns-in_err-first : goal.read_and-returns-in_err-first
read_and-returns-in_err-first t c =
    let p = err_from_is_err_and c.from_residual.result c.from_residual.ensures.1 in
    rw (p.1, p.2) (fault_in _ c.args.text.now (codes "And(" ++ c.args.text.now) (no_first c.args.text.now) c.in_err-first.ensures)

pub read_and-returns-in_err-push : goal.read_and-returns-in_err-push
read_and-returns-in_err-push t c =
    let p = err_from_is_err_and c.from_residual-in_err-push.result c.from_residual-in_err-push.ensures.1 in
    rw (p.1, p.2) (no_memory_at (codes "And(" ++ c.args.text.now))

pub read_and-loop-next-init : goal.read_and-loop-next-init
read_and-loop-next-init t c = first_part _ _ c.in_ok-first.first _ (c.in_ok-push.ensures.items ∙ ap (λ qs. qs ++ c.in_ok-first.first ∷ []) c.new-parts.ensures.items) c.in_ok-first.ensures

pub read_and-returns-in_err-part : goal.read_and-returns-in_err-part
read_and-returns-in_err-part t c =
    let p = err_from_is_err_and c.from_residual-in_err-part.result c.from_residual-in_err-part.ensures.1 in
    rw (p.1, p.2) (fault_in _ c.in-Some.next.now (codes "And(" ++ c.args.text.now) (no_part c.args.text.now c.loop-next.rest.now c.in-Some.next.now c.loop-next.parts.items c.loop-next.invariant c.in-Some.ensures) c.in_err-part.ensures)

pub read_and-returns-in_err-push-2 : goal.read_and-returns-in_err-push-2
read_and-returns-in_err-push-2 t c =
    let p = err_from_is_err_and c.from_residual-in_err-push-2.result c.from_residual-in_err-push-2.ensures.1 in
    rw (p.1, p.2) (no_memory_at (codes "And(" ++ c.args.text.now))

pub read_and-loop-next-preserved : goal.read_and-loop-next-preserved
read_and-loop-next-preserved t c =
    part_more c.args.text.now c.loop-next.rest.now c.in-Some.next.now c.in_ok-part.after.now c.loop-next.parts.items _ c.in_ok-part.part c.in_ok-push-2.ensures.items c.loop-next.invariant c.in-Some.ensures c.in_ok-part.ensures

pub read_and-returns-in_default-behind : goal.read_and-returns-in_default-behind
read_and-returns-in_default-behind t c =
    syntax_at _ (no_bracket c.args.text.now c.loop-next.rest.now c.loop-next.parts.items c.loop-next.invariant c.in_default.ensures c.in_default-behind.ensures)

pub read_and-returns : goal.read_and-returns
read_and-returns t c = every_found c.args.text.now c.loop-next.rest.now c.in-Some-behind.rest.now c.loop-next.parts c.loop-next.invariant c.in-Some-behind.ensures

-- ---- a shape
pub read_shape-returns-in-Some : goal.read_shape-returns-in-Some
read_shape-returns-in-Some t c = one_found c.args.text.now c.in-Some.rest.now c.in-Some.ensures

pub read_shape-returns : goal.read_shape-returns
read_shape-returns t c = syntax_at _ (no_word c.args.text.now c.in_default.ensures c.in_default-behind.ensures c.in_default-behind-2.ensures)
