use Rattle.std.proofs.Common.{◌∙◌, ◌++◌, ap, codes}
use Rattle.std.proofs.lemmas.Result.{on_ok_weaker}
use Rattle.fy_asking.specs.ToldPieces.{optional_name_text}
use Rattle.fy_asking.proofs.Pieces.{six}
use Rattle.fy_asking.proofs.told_line.put_process.Goals as goal

pub returns : goal.returns
returns c =
    on_ok_weaker c.put.result
    (six _ _ _ _ _ _ _ _ _ _ _ _ _
    (c.in_ok-put_optional_name.ensures
    ∙ ap (λ name. c.args.out.now.items ++ optional_name_text (codes "{\"data_hall\":") name) c.value.ensures)
    (c.in_ok-put_optional_name-2.ensures
    ∙ ap (λ name. c.put_optional_name.new.out.items ++ optional_name_text (codes ",\"dcid\":") name) c.value-2.ensures)
    (c.in_ok-put_optional_name-3.ensures
    ∙ ap (λ name. c.put_optional_name-2.new.out.items ++ optional_name_text (codes ",\"machineid\":") name) c.value-3.ensures)
    (c.in_ok-put_optional_name-4.ensures
    ∙ ap (λ name. c.put_optional_name-3.new.out.items ++ optional_name_text (codes ",\"processid\":") name) c.value-4.ensures)
    (c.in_ok-put_optional_name-5.ensures
    ∙ ap (λ name. c.put_optional_name-4.new.out.items ++ optional_name_text (codes ",\"zoneid\":") name) c.value-5.ensures))
    c.put.ensures
