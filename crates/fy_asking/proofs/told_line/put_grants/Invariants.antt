use Rattle.std.proofs.Common.{◌≡◌, ◌++◌, drop, false}
use Rattle.fy_asking.specs.ToldTexts.{grant_text}
use Rattle.fy_asking.specs.ToldPieces.{listed_text}
use Rattle.fy_asking.proofs.told_line.put_grants.Given as goal

abbrev pub invariant-loop-grant : goal.invariant-loop-grant
invariant-loop-grant l =
    l.out.items ++ listed_text grant_text l.later (drop l.grant-index l.grants)
    ≡ l.fn.out.items ++ listed_text grant_text false l.grants
