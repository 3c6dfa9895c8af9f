use Rattle.std.proofs.Common.{◌≡◌, map}
use Rattle.std.specs.List.{range_with_len}
use Rattle.fy_cluster.specs.Asked.{grants_in}
use Rattle.fy_questions.proofs.answering.grants_of.Given as goal

abbrev pub invariant-loop-actor : goal.invariant-loop-actor
invariant-loop-actor l =
    map (λ own. own.now) l.grants.items ≡ map (grants_in l.cluster) (range_with_len 0 l.actor)
