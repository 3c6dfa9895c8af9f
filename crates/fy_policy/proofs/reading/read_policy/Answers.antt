use Rattle.std.proofs.Common.{◌≡◌, ◌<◌, true≢false, inl, inr, Ok, length, sym, subst, ◌∙◌, arith}
use Rattle.std.proofs.lemmas.Bool.{cases_lt}
use Rattle.std.proofs.lemmas.Bool.Decides.{nat_tests}
use Rattle.std.proofs.lemmas.Result.{err_from_is_err_and}
use Rattle.fy_policy.specs.Fronts.{BeginsWith, IsFaultAt}
use Rattle.fy_policy.specs.Reading.{Reads}
use Rattle.fy_policy.specs.Shape.{tree_of}
use Rattle.fy_policy.specs.Tree.{depth, nodes}
use Rattle.fy_policy.proofs.Answered.{too_long, no_front, bytes_left, count_answer, depth_answer, nodes_answer, policy_found, policy_answer, too_many, few_enough}
use Rattle.fy_policy.proofs.reading.read_policy.Goals as goal

pub returns-then-text-gt-MOST_READ_BYTES : goal.returns-then-text-gt-MOST_READ_BYTES
returns-then-text-gt-MOST_READ_BYTES c = too_long c.args.text.now (omega arith)

pub returns-in_err-shape : goal.returns-in_err-shape
returns-in_err-shape c =
    let p = err_from_is_err_and c.from_residual.result c.from_residual.ensures.1 in
    rw (p.1, p.2) (no_front _ c.args.text.now (omega arith) (subst (λ bytes. IsFaultAt c.in_err-shape.field-0.0 bytes) c.as_bytes.ensures.value c.in_err-shape.ensures))

pub returns-then-not-is_empty : goal.returns-then-not-is_empty
returns-then-not-is_empty c =
    let tree = tree_of c.in_ok-shape.shape in
    let found : BeginsWith c.args.text.now tree c.in_ok-shape.rest.now = subst (λ bytes. BeginsWith bytes tree c.in_ok-shape.rest.now) c.as_bytes.ensures.value c.in_ok-shape.ensures in
    bytes_left c.args.text.now c.in_ok-shape.rest.now tree (omega arith) found (λ e. absurd (true≢false (let a = c.is_empty.ensures in let b = c.if-not-is_empty.true in grind (arith, nat_tests))))

pub returns-then-not-has_fit_counts : goal.returns-then-not-has_fit_counts
returns-then-not-has_fit_counts c =
    let tree = tree_of c.in_ok-shape.shape in
    let found : BeginsWith c.args.text.now tree c.in_ok-shape.rest.now = subst (λ bytes. BeginsWith bytes tree c.in_ok-shape.rest.now) c.as_bytes.ensures.value c.in_ok-shape.ensures in
    let ended : length c.in_ok-shape.rest.now ≡ 0 = (let a = c.is_empty.ensures in let b = c.if-not-is_empty.false in grind (arith, nat_tests)) in
    count_answer c.args.text.now c.in_ok-shape.rest.now tree (omega arith) found ended (λ fit. true≢false (sym (c.has_fit_counts.ensures.1 fit) ∙ c.if-not-has_fit_counts.true))

pub returns-then-not-is_within_depth : goal.returns-then-not-is_within_depth
returns-then-not-is_within_depth c =
    let tree = tree_of c.in_ok-shape.shape in
    let found : BeginsWith c.args.text.now tree c.in_ok-shape.rest.now = subst (λ bytes. BeginsWith bytes tree c.in_ok-shape.rest.now) c.as_bytes.ensures.value c.in_ok-shape.ensures in
    let ended : length c.in_ok-shape.rest.now ≡ 0 = (let a = c.is_empty.ensures in let b = c.if-not-is_empty.false in grind (arith, nat_tests)) in
    let deep : 8 < depth tree = elim (cases_lt 8 (depth tree)) [
      | inl h ↦ h
      | inr h ↦ absurd (true≢false (sym (c.is_within_depth.ensures.1 h) ∙ c.if-not-is_within_depth.true))
    ] in
    depth_answer c.args.text.now c.in_ok-shape.rest.now tree (omega arith) found ended (c.has_fit_counts.ensures.0 c.if-not-has_fit_counts.false) deep

pub returns-then-is_none : goal.returns-then-is_none
returns-then-is_none c =
    let tree = tree_of c.in_ok-shape.shape in
    let found : BeginsWith c.args.text.now tree c.in_ok-shape.rest.now = subst (λ bytes. BeginsWith bytes tree c.in_ok-shape.rest.now) c.as_bytes.ensures.value c.in_ok-shape.ensures in
    let ended : length c.in_ok-shape.rest.now ≡ 0 = (let a = c.is_empty.ensures in let b = c.if-not-is_empty.false in grind (arith, nat_tests)) in
    nodes_answer c.args.text.now c.in_ok-shape.rest.now tree (omega arith) found ended (c.has_fit_counts.ensures.0 c.if-not-has_fit_counts.false)
    (c.is_within_depth.ensures.0 c.if-not-is_within_depth.false) (too_many c.room_behind.result 64 (nodes tree) c.room_behind.ensures c.if-is_none.ensures)

pub from_shape-requires : goal.from_shape-requires
from_shape-requires c =
    let tree = tree_of c.in_ok-shape.shape in
    let found : BeginsWith c.args.text.now tree c.in_ok-shape.rest.now = subst (λ bytes. BeginsWith bytes tree c.in_ok-shape.rest.now) c.as_bytes.ensures.value c.in_ok-shape.ensures in
    policy_found c.args.text.now c.in_ok-shape.rest.now tree (omega arith) found (c.has_fit_counts.ensures.0 c.if-not-has_fit_counts.false)
    (c.is_within_depth.ensures.0 c.if-not-is_within_depth.false) (few_enough c.room_behind.result 64 (nodes tree) c.room_behind.ensures c.if-is_none.ensures)

pub returns : goal.returns
returns c =
    let tree = tree_of c.in_ok-shape.shape in
    let found : BeginsWith c.args.text.now tree c.in_ok-shape.rest.now = subst (λ bytes. BeginsWith bytes tree c.in_ok-shape.rest.now) c.as_bytes.ensures.value c.in_ok-shape.ensures in
    let ended : length c.in_ok-shape.rest.now ≡ 0 = (let a = c.is_empty.ensures in let b = c.if-not-is_empty.false in grind (arith, nat_tests)) in
    subst (λ t. Reads c.args.text.now (Ok t)) (sym c.from_shape.ensures)
    (policy_answer c.args.text.now c.in_ok-shape.rest.now tree (omega arith) found ended (c.has_fit_counts.ensures.0 c.if-not-has_fit_counts.false)
    (c.is_within_depth.ensures.0 c.if-not-is_within_depth.false) (few_enough c.room_behind.result 64 (nodes tree) c.room_behind.ensures c.if-is_none.ensures))
