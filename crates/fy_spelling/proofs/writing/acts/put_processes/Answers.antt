use Rattle.std.proofs.Common.{◌≡◌, ◌∙◌, refl, sym, ap, arith, add-one, append_assoc, append-nil, ℕ, ◌<◌, ◌+◌, Bool, true, false, List, ◌∷◌, ◌++◌, decimal, drop, drop-cons, get_or, length, codes}
use Rattle.serde_json.specs.Written.{comma_if}
use Rattle.fy_locality.specs.declared.ProcId.{ProcId}
use Rattle.fy_spelling.specs.Pieces.{processes_text}
use Rattle.fy_spelling.proofs.Joined.{short_of, refused, stands_longer, stands_still}
use Rattle.fy_spelling.proofs.writing.acts.put_processes.Goals as goal
use Rattle.fy_spelling.proofs.writing.acts.put_processes.Goals.{then-later+in_ok-put, else-later}

-- a number and what stands behind it
behind : (o comma digits more : List ℕ) → ((o ++ comma) ++ digits) ++ more ≡ o ++ (comma ++ (digits ++ more))
behind o comma digits more = simp append_assoc

-- a process is written
listed : (p : ProcId) (left : List ProcId) (later : Bool) (old out before new : List ℕ)
    → before ≡ out ++ comma_if later → new ≡ before ++ decimal p.0
    → out ++ processes_text later (p ∷ left) ≡ old → new ++ processes_text true left ≡ old
listed p left later old out before new comma digits was =
    ap (λ x. x ++ processes_text true left) (digits ∙ ap (λ x. x ++ decimal p.0) comma)
    ∙ behind out (comma_if later) (decimal p.0) (processes_text true left) ∙ was

-- a comma is written
commaed : (p : ProcId) (left : List ProcId) (old out : List ℕ)
    → out ++ processes_text true (p ∷ left) ≡ old
    → (out ++ codes ",") ++ (decimal p.0 ++ processes_text true left) ≡ old
commaed p left old out was =
    append_assoc out (codes ",") (decimal p.0 ++ processes_text true left) ∙ was

-- the first process of what is left
first : (ps : List ProcId) (i : ℕ) → i < length ps
    → drop i ps ≡ get_or ps i (record { 0 = 0 }) ∷ drop (i + 1) ps
first ps i below = rw (add-one i) (drop-cons ps i (record { 0 = 0 }) below)

pub returns-in_err-put : goal.returns-in_err-put
returns-in_err-put c =
    let i = c.loop-p.p-index in
    let ps = c.args.processes.now in
    let p : ProcId = get_or ps i (record { 0 = 0 }) in
    let left = drop (i + 1) ps in
    let fn = c.args.out.now in
    let out = c.loop-p.out in
    let was = rw (first ps i c.loop-p-test.true) at c.loop-p.invariant.1 in
    let whole = commaed p left (fn.items ++ processes_text false ps) out.items
    (rw c.if-later.true at was) in
    refused _ c.from_residual.result _ fn _ c.from_residual.ensures.1
    (stands_still _ _ _ c.loop-p.invariant.0 c.in_err-put.ensures.0)
    (short_of fn out (processes_text false ps) (codes ",") (decimal p.0 ++ processes_text true left)
    c.loop-p.invariant.2 whole c.in_err-put.ensures.1)

pub returns-in_err-put_decimal : goal.returns-in_err-put_decimal
returns-in_err-put_decimal c =
    let i = c.loop-p.p-index in
    let ps = c.args.processes.now in
    let p : ProcId = get_or ps i (record { 0 = 0 }) in
    let left = drop (i + 1) ps in
    let fn = c.args.out.now in
    let all = processes_text false ps in
    let out = c.loop-p.out in
    let was = rw (first ps i c.loop-p-test.true) at c.loop-p.invariant.1 in
    let grown = c.loop-p.invariant.2 in
    elim c.if-later.branch [
      | then-later+in_ok-put w ↦
          let puts = w.in_ok-put.ensures in
          let stops = rw w.out-is at c.in_err-put_decimal.ensures in
          let middle = w.put.new.out in
          refused _ c.from_residual-in_err-put_decimal.result _ fn _
          c.from_residual-in_err-put_decimal.ensures.1
          (stands_still _ _ _ (stands_longer _ _ _ _ c.loop-p.invariant.0 puts.0) stops.0)
          (short_of fn middle all (decimal p.0) (processes_text true left) (omega (arith, grown, puts.1))
          (listed p left c.loop-p.later (fn.items ++ all) out.items middle.items
          (middle.items ++ decimal p.0) (rw w.if-later.true puts.0) refl was)
          stops.1)
      | else-later w ↦
          let stops = rw w.out-is at c.in_err-put_decimal.ensures in
          refused _ c.from_residual-in_err-put_decimal.result _ fn _
          c.from_residual-in_err-put_decimal.ensures.1
          (stands_still _ _ _ c.loop-p.invariant.0 stops.0)
          (short_of fn out all (decimal p.0) (processes_text true left) grown
          (listed p left c.loop-p.later (fn.items ++ all) out.items out.items
          (out.items ++ decimal p.0) (rw w.if-later.false (sym (append-nil out.items))) refl was)
          stops.1)
    ]

pub loop-p-preserved : goal.loop-p-preserved
loop-p-preserved c =
    let i = c.loop-p.p-index in
    let ps = c.args.processes.now in
    let p : ProcId = get_or ps i (record { 0 = 0 }) in
    let left = drop (i + 1) ps in
    let old = c.args.out.now.items ++ processes_text false ps in
    let out = c.loop-p.out.items in
    let new = c.put_decimal.new.out.items in
    let was = rw (first ps i c.loop-p-test.true) at c.loop-p.invariant.1 in
    let grown = c.loop-p.invariant.2 in
    elim c.if-later.branch [
      | then-later+in_ok-put w ↦
          let puts = w.in_ok-put.ensures in
          let digits = rw w.out-is at c.in_ok-put_decimal.ensures in (
            stands_longer _ _ _ _ (stands_longer _ _ _ _ c.loop-p.invariant.0 puts.0) digits.0,
            listed p left c.loop-p.later old out w.put.new.out.items new (rw w.if-later.true puts.0)
                digits.0 was,
            omega (arith, grown, puts.1, digits.1),
          )
      | else-later w ↦
          let digits = rw w.out-is at c.in_ok-put_decimal.ensures in (
            stands_longer _ _ _ _ c.loop-p.invariant.0 digits.0,
            listed p left c.loop-p.later old out out new (rw w.if-later.false (sym (append-nil out)))
                digits.0 was,
            omega (arith, grown, digits.1),
          )
    ]
