use Rattle.std.proofs.Common.{◌∙◌, ◌++◌, string_bytes, ap}
use Rattle.std.specs.Prelude.{codes}
use Rattle.fy_svg.proofs.Marking.{named_bad, none_named}
use Rattle.fy_svg.proofs.sheet.close.Goals as goal
use Rattle.fy_svg.proofs.sheet.close.Goals.{in-Some+in_ok-write_bad, in_default}

pub returns-clause-bad : goal.returns-clause-bad
returns-clause-bad c = elim c.match-bad.branch [
  | in-Some+in_ok-write_bad w ↦
      named_bad c.args.bad w.in-Some.at (string_bytes c.args.text.now) (string_bytes w.write_bad.new.text) (codes "</svg>\n") (string_bytes c.push_str.new.self)
      w.in-Some.is w.in_ok-write_bad.ensures (c.in_ok-push_str.ensures.bytes ∙ ap (λ t. t ++ codes "</svg>\n") (ap string_bytes w.text-is))
  | in_default w ↦ none_named c.args.bad (string_bytes c.push_str.new.self) w.in_default.is
]
