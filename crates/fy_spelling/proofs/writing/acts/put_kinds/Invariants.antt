use Rattle.std.proofs.Common.{◌≡◌, ◌≤◌, ◌++◌, [], ◌∷◌, drop, false, map, filter, vec_capacity}
use Rattle.fy_kinds.specs.Kinds.{Striking, Clogging, all_kinds, has}
use Rattle.fy_spelling.specs.Values.{in_order}
use Rattle.fy_spelling.specs.Pieces.{deeds_text}
use Rattle.fy_spelling.specs.AppendsOrOom.{IsPrefixOf}
use Rattle.fy_spelling.proofs.writing.acts.put_kinds.Given as goal

abbrev pub invariant-loop-kind : goal.invariant-loop-kind
invariant-loop-kind l =
    IsPrefixOf l.fn.out.items l.out.items
    × (l.out.items ++ deeds_text l.later (filter (has l.kinds) (map Striking (drop l.kind-index all_kinds) ++ Clogging ∷ []))
    ≡ l.fn.out.items ++ deeds_text false (in_order l.kinds))
    × (vec_capacity l.fn.out ≤ vec_capacity l.out)
