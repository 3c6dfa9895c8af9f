use Rattle.std.proofs.Common.{◌≡◌, ℕ, ◌+◌, ◌≤◌, Bool, true, false, not, cond, List, refl, ap, ◌∙◌, arith}
use Rattle.std.specs.FinSet as sets
use Rattle.fy_locality.specs.declared.ProcId.{ProcId}
use Rattle.fy_team.specs.Teams.{swapped}
use Rattle.fy_team.specs.Counts.{Counted, WasMissing, missing_among}
use Rattle.fy_team.proofs.Counting.{missing_few}
use Rattle.fy_team.proofs.Missing.{lacks, missing_swapped}
use Rattle.fy_team.proofs.record.KeptRecord.missing_after.Goals as goal
use mir.Val.{bool_byte}

-- a flag that says that there is no mark, as a number
flag_lacks : (b : Bool) → bool_byte (not b) ≡ cond b 0 1
flag_lacks true = refl
flag_lacks false = refl

few : (b : Bool) → cond b 0 1 ≤ 1
few true = omega arith
few false = omega arith

-- what is missing before and after
parts : (members : List ProcId) (out into : ProcId) (it : Counted) (missing a b : ℕ) (fa fb : Bool) → WasMissing out into members it → it.held.acked ≡ false → missing ≡ it.missing
    → a ≡ bool_byte fa → fa ≡ not (sets.contains it.held.marks into.0) → b ≡ bool_byte fb → fb ≡ not (sets.contains it.held.marks out.0)
    → (missing + a ≡ missing_among it.held.marks members + b) × (missing + a ≤ 1025)
parts members out into it missing a b fa fb w unacked same is_a is_fa is_b is_fb =
    let marks = it.held.marks in
    let before : missing ≡ missing_among marks w.was = same ∙ w.counted.right unacked in
    let comes : a ≡ lacks marks into = is_a ∙ ap bool_byte is_fa ∙ flag_lacks (sets.contains marks into.0) in
    let leaves : b ≡ lacks marks out = is_b ∙ ap bool_byte is_fb ∙ flag_lacks (sets.contains marks out.0) in
    let after : missing_among marks members ≡ missing_among marks (swapped out into w.was) = ap (missing_among marks) w.now in
    let swaps : missing_among marks (swapped out into w.was) + lacks marks out ≡ missing_among marks w.was + lacks marks into = missing_swapped marks out into w.was w.valid.rising w.member w.stranger in
    (omega (arith, before, comes, leaves, after, swaps), omega (arith, before, comes, missing_few marks w.was, w.valid.few, few (sets.contains marks into.0)))

pub overflow_add-result : goal.overflow_add-result
overflow_add-result c =
    let it = c.args.self.now in
    omega (arith, (parts c.args.members.now c.args.out c.args.into it c.self.inside.missing c.from.result (bool_byte (not (sets.contains it.held.marks c.args.out.0))) c.lacks.result (not (sets.contains it.held.marks c.args.out.0)) c.requires.right c.requires.unacked (ap (λ (x : Counted). x.missing) c.self.view_is) c.from.ensures c.lacks.ensures refl refl).1)

pub overflow_sub-result : goal.overflow_sub-result
overflow_sub-result c =
    omega (arith, (parts c.args.members.now c.args.out c.args.into c.args.self.now c.self.inside.missing c.from.result c.from-2.result c.lacks.result c.lacks-2.result c.requires.right c.requires.unacked (ap (λ (x : Counted). x.missing) c.self.view_is) c.from.ensures c.lacks.ensures c.from-2.ensures c.lacks-2.ensures).0)

pub returns : goal.returns
returns c =
    omega (arith, (parts c.args.members.now c.args.out c.args.into c.args.self.now c.self.inside.missing c.from.result c.from-2.result c.lacks.result c.lacks-2.result c.requires.right c.requires.unacked (ap (λ (x : Counted). x.missing) c.self.view_is) c.from.ensures c.lacks.ensures c.from-2.ensures c.lacks-2.ensures).0)
