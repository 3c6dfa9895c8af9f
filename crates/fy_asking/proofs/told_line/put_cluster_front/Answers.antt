use Rattle.std.proofs.Common.{◌∙◌, ◌++◌, ap, codes, decimal}
use Rattle.std.proofs.lemmas.Result.{on_ok_weaker}
use Rattle.fy_asking.proofs.Pieces.{four}
use Rattle.fy_asking.proofs.told_line.put_cluster_front.Goals as goal

pub returns : goal.returns
returns c =
    on_ok_weaker c.put_number-2.result
    (λ last. four _ _ _ _ _ _ _ _ _ c.in_ok-put.ensures c.in_ok-put_actors.ensures
    c.in_ok-put_number.ensures
    (last
    ∙ ap (λ limit. c.put_number.new.out.items ++ (codes ",\"journal_limit\":" ++ decimal limit)) c.journal_limit.ensures))
    c.put_number-2.ensures
