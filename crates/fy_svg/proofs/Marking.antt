-- what a document says of a bad entry, and what a drawing leaves as it is
use Rattle.std.proofs.Common.{◌≡◌, ◌∙◌, ◌++◌, ℕ, Option, Some, None, List, length, sym, ap, subst}
use Rattle.std.proofs.lemmas.List.{append_assoc}
use Rattle.fy_picture.specs.Recording.{HasEndedDue, Recording, roomed}
use Rattle.fy_picture.specs.SoFar.{with_room}
use Rattle.fy_picture.proofs.SoFar.{laid_stays, with_room_laid}
use Rattle.fy_svg.specs.Documents.{AppendsMark, NamesBad, bad_mark}

-- a mark, and more behind it
pub marked : (at : ℕ) (old one x two y new : List ℕ) → one ≡ old ++ bad_mark at → two ≡ one ++ x → new ≡ two ++ y → AppendsMark at old new
marked at old one x two y new mark more last = (
  x ++ y,
  last ∙ ap (λ t. t ++ y) more ∙ append_assoc one x y ∙ ap (λ t. t ++ (x ++ y)) mark ∙ append_assoc old (bad_mark at) (x ++ y),
)

pub named_bad : (bad : Option ℕ) (at : ℕ) (before text tail closed : List ℕ) → bad ≡ Some at → AppendsMark at before text → closed ≡ text ++ tail → NamesBad bad closed
named_bad bad at before text tail closed is appended closes =
    subst (λ o. NamesBad o closed) (sym is) (
      before,
      appended.0 ++ tail,
      closes ∙ ap (λ t. t ++ tail) appended.1
          ∙ append_assoc before (bad_mark at ++ appended.0) tail
          ∙ ap (λ t. before ++ t) (append_assoc (bad_mark at) appended.0 tail),
    )

pub none_named : (bad : Option ℕ) (closed : List ℕ) → bad ≡ None → NamesBad bad closed
none_named bad closed is = subst (λ o. NamesBad o closed) (sym is) tt

-- the ends that are listed stay
pub ended_laid : (old new : Recording) → HasEndedDue (roomed old) new → new.columns.laid ≡ old.columns.laid
ended_laid old new ended =
    laid_stays (length old.execution.journal) (with_room (length old.execution.journal) old.columns) new.columns ended.due
    ∙ with_room_laid (length old.execution.journal) old.columns
