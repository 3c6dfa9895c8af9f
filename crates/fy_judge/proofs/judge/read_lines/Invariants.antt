use Rattle.std.proofs.Common.{◌≡◌, ◌++◌, ◌+◌, ◌≤◌, List, ℕ, length}
use Rattle.fy_lines.specs.Lines.{lines_of}
use Rattle.fy_judge.specs.JudgeLines.{FollowLines, empty_input}
use Rattle.fy_judge.proofs.judge.read_lines.Given as goal

-- the lines so far have no fault
abbrev pub invariant-loop-rest : goal.invariant-loop-rest
invariant-loop-rest l = record {
  good : List (List ℕ);
  split : lines_of l.bytes ≡ good ++ lines_of l.rest;
  said : FollowLines empty_input good l.input;
  count : l.number ≡ length good;
  room : l.number + length l.rest ≤ length l.bytes;
}

abbrev pub decreases-loop-rest : goal.decreases-loop-rest
decreases-loop-rest l = length l.rest
