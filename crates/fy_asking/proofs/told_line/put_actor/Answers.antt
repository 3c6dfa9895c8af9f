use Rattle.std.proofs.Common.{◌∙◌, ◌++◌, ap, codes}
use Rattle.std.proofs.lemmas.Result.{on_ok_weaker}
use Rattle.fy_asking.specs.ToldTexts.{role_word}
use Rattle.fy_asking.proofs.Pieces.{four}
use Rattle.fy_asking.proofs.told_line.put_actor.Goals as goal

pub returns : goal.returns
returns c =
    on_ok_weaker c.put-2.result
    (four _ _ _ _ _ _ _ _ _ c.in_ok-put.ensures c.in_ok-put_own.ensures
    (c.in_ok-put_word.ensures
    ∙ ap (λ word. c.put_own.new.out.items ++ (codes "],\"role\":\"" ++ word))
    (c.role_word.ensures ∙ ap role_word c.role.ensures)))
    c.put-2.ensures
