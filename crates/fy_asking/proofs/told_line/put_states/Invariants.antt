use Rattle.std.proofs.Common.{◌≡◌, ◌++◌, drop, false}
use Rattle.fy_asking.specs.ToldTexts.{state_text}
use Rattle.fy_asking.specs.ToldPieces.{listed_text}
use Rattle.fy_asking.proofs.told_line.put_states.Given as goal

abbrev pub invariant-loop-state : goal.invariant-loop-state
invariant-loop-state l =
    l.out.items ++ listed_text state_text l.later (drop l.state-index l.states)
    ≡ l.fn.out.items ++ listed_text state_text false l.states
