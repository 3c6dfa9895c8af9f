use Rattle.std.proofs.Common.{◌∙◌, string_bytes, ap, subst}
use Rattle.fy_picture.specs.Recording.{Recording}
use Rattle.fy_svg.specs.Documents.{NamesBad}
use Rattle.fy_svg.proofs.drawing.Drawing.finish.Goals as goal

pub returns : goal.returns
returns c = record {
  ends = c.in_ok-text.ensures.ends;
  bad = subst (λ o. NamesBad o (string_bytes c.in_ok-text.text)) (c.first_bad-bad.ensures ∙ ap (λ (r : Recording). r.first_bad) c.in_ok-end_due.ensures.same)
      c.in_ok-text.ensures.bad;
}
