use Rattle.std.proofs.Common.{◌≡◌, List, ◌+◌, ◌<◌, ◌≤◌, ap, ◌∙◌, arith}
use Rattle.fy_policy.specs.declared.shape.Shape.{Shape}
use Rattle.fy_policy.specs.Shape.{tree_of}
use Rattle.fy_policy.specs.Tree.{nodes, all_nodes}
use Rattle.fy_policy.proofs.Shapes.{parts_from}
use Rattle.fy_policy.proofs.Bounds.{nodes_some, nodes_to, nodes_to-more, nodes_to-le, nodes_to-all, nodes-And}
use Rattle.fy_policy.proofs.limits.+room_behind.Goals as goal

pub returns-then-room-eq0 : goal.returns-then-room-eq0
returns-then-room-eq0 t c = let some : 0 < nodes (tree_of c.args.shape.now) = nodes_some (tree_of c.args.shape.now) in omega arith

pub loop-part-preserved : goal.loop-part-preserved
loop-part-preserved t c =
    let more = nodes_to-more c.deref-part-items.result.now c.loop-part.part-index c.part-item.result c.loop-part-test.true c.part-item.is in
    let here : c.in_ok-left-in-And.left + nodes (tree_of c.part-item.result) ≡ c.loop-part.left = c.in_ok-left-in-And.ensures in
    let so_far : c.loop-part.left + nodes_to c.deref-part-items.result.now c.loop-part.part-index + 1 ≡ c.args.room = c.loop-part.invariant in
    let all : c.in_ok-left-in-And.left + nodes_to c.deref-part-items.result.now (c.loop-part.part-index + 1) + 1 ≡ c.args.room = omega arith in
    all

pub returns-in_err-left-in-And : goal.returns-in_err-left-in-And
returns-in_err-left-in-And t c =
    let items : List Shape = c.deref-part-items.result.now in
    let more = nodes_to-more items c.loop-part.part-index c.part-item.result c.loop-part-test.true c.part-item.is in
    let many : c.loop-part.left < nodes (tree_of c.part-item.result) = c.in_err-left-in-And.ensures in
    let so_far : c.loop-part.left + nodes_to items c.loop-part.part-index + 1 ≡ c.args.room = c.loop-part.invariant in
    let front : nodes_to items (c.loop-part.part-index + 1) ≤ all_nodes (parts_from items) = nodes_to-le items (c.loop-part.part-index + 1) in
    let same : all_nodes (parts_from items) ≡ all_nodes (parts_from c.in-And.parts.items) = ap (λ qs. all_nodes (parts_from qs)) c.deref-part-items.ensures.value in
    let whole : nodes (tree_of c.args.shape.now) ≡ all_nodes (parts_from c.in-And.parts.items) + 1 = ap (λ q. nodes (tree_of q)) c.in-And.is ∙ nodes-And c.in-And.parts in
    rw c.from_residual.ensures (omega arith)

pub returns-after-loop-part : goal.returns-after-loop-part
returns-after-loop-part t c =
    let whole : nodes (tree_of c.args.shape.now) ≡ all_nodes (parts_from c.in-And.parts.items) + 1 = ap (λ q. nodes (tree_of q)) c.in-And.is ∙ nodes-And c.in-And.parts in
    let all : nodes_to c.deref-part-items.result.now c.loop-part.part-index ≡ all_nodes (parts_from c.deref-part-items.result.now) = nodes_to-all c.deref-part-items.result.now c.loop-part.part-index c.loop-part-test.false in
    let same : all_nodes (parts_from c.deref-part-items.result.now) ≡ all_nodes (parts_from c.in-And.parts.items) = ap (λ qs. all_nodes (parts_from qs)) c.deref-part-items.ensures.value in
    omega arith
