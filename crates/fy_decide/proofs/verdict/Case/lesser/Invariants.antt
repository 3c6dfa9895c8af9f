use Rattle.std.proofs.Common.{◌≡◌, ◌&&◌, take}
use Rattle.std.specs.Prelude.{None, is_none, nat_le}
use Rattle.std.specs.List.{find}
use Rattle.std.specs.FinSet as sets
use Rattle.fy_kinds.specs.Kinds.{Striking, rank}
use Rattle.fy_decide.specs.Targets.{targeted}
use Rattle.fy_decide.specs.Verdicts.{situation_of, bar, hardest_first}
use Rattle.fy_decide.proofs.verdict.Case.lesser.Given as goal

-- none of the kinds so far strikes
abbrev pub invariant-loop-milder : goal.invariant-loop-milder
invariant-loop-milder l = find (λ milder. (nat_le (rank l.floor) (rank milder) && nat_le (rank milder) (rank l.kind)) && is_none (bar (situation_of l.self.dead.now l.self.book.now l.self.actor) (Striking milder) (sets.contains (targeted l.self.targets.now)))) (take l.milder-index hardest_first) ≡ None
