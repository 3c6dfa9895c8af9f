use Rattle.std.proofs.Common.{◌∙◌, ◌++◌, ap}
use Rattle.std.proofs.lemmas.Result.{on_ok_weaker}
use Rattle.fy_asking.specs.ToldTexts.{policies_text}
use Rattle.fy_asking.proofs.Pieces.{six}
use Rattle.fy_asking.proofs.told_line.put_cluster.Goals as goal

pub returns : goal.returns
returns c =
    on_ok_weaker c.put-3.result
    (six _ _ _ _ _ _ _ _ _ _ _ _ _ c.in_ok-put_cluster_front.ensures c.in_ok-put.ensures
    (c.in_ok-put_policies.ensures
    ∙ ap (λ policies. c.put.new.out.items ++ policies_text policies) c.policies.ensures)
    c.in_ok-put-2.ensures c.in_ok-put_processes.ensures)
    c.put-3.ensures
