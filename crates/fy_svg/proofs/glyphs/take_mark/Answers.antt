use Rattle.std.proofs.Common.{rules, ◌∙◌, ◌≤◌, ◌<◌, ◌++◌, Vec, Global, arith, length, refl, sym, ap}
use Rattle.std.proofs.lemmas.List.{append-nil}
use Rattle.std.proofs.lemmas.Option.{slice_get_past, slice_get_read}
use Rattle.fy_svg.specs.declared.glyphs.Mark.{Mark}
use Rattle.fy_svg.specs.Marks.{marks_in}
use Rattle.fy_svg.proofs.Places.{is_taken, isnt_taken}
use Rattle.fy_svg.proofs.glyphs.take_mark.Goals as goal
use Rattle.fy_svg.proofs.glyphs.take_mark.Goals.{then-mark-gt0+in_ok-push, else-mark-gt0}

pub returns-then-place-len-clause-taken : goal.returns-then-place-len-clause-taken
returns-then-place-len-clause-taken c =
    let ms = c.args.marks.now.items in
    let past : length ms ≤ c.args.place = search rules in
    sym (ap (λ o. c.args.taken.now.items ++ marks_in o) (slice_get_past ms c.args.place past) ∙ append-nil c.args.taken.now.items)

pub returns-clause-taken : goal.returns-clause-taken
returns-clause-taken c =
    let ms = c.args.marks.now.items in
    let p = c.args.place in
    let mark = c.index-mark.result.now in
    let before = c.args.taken.now.items in
    let within : p < length ms = search rules in
    let is = slice_get_read ms (length ms) p mark refl within c.index-mark.ensures in
    elim c.if-mark-gt0.branch [
      | then-mark-gt0+in_ok-push w ↦
          ap (λ (v : Vec Mark Global). v.items) w.taken-is ∙ w.in_ok-push.ensures.items
          ∙ ap (λ xs. before ++ xs) (is_taken ms p mark is w.if-mark-gt0.true)
      | else-mark-gt0 w ↦
          ap (λ (v : Vec Mark Global). v.items) w.taken-is ∙ sym (append-nil before)
          ∙ ap (λ xs. before ++ xs) (isnt_taken ms p mark is (let none = w.if-mark-gt0.false in omega arith))
    ]
