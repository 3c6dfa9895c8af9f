use Rattle.std.proofs.Common.{◌≡◌, ◌++◌, option_map, slice_get}
use Rattle.fy_asking.specs.ToldTexts.{actor_text}
use Rattle.fy_asking.specs.ToldPieces.{counted_text}
use Rattle.fy_asking.proofs.told_line.put_actors.Given as goal

abbrev pub invariant-loop-actor : goal.invariant-loop-actor
invariant-loop-actor l =
    l.out.items ≡ l.fn.out.items ++ counted_text (λ actor. actor_text l.cluster.config.now
    (option_map (λ own. own.now) (slice_get l.cluster.grants.items actor)) actor) l.actor
