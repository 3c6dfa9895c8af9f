-- members tested and compared
use Rattle.std.specs.Prelude.{ℕ, ◌+◌, Bool, true, ◌&&◌, nat_eq, nat_le, List, [], ◌∷◌, length}
use Rattle.std.specs.Ordering.{on}
use Rattle.std.specs.Cmp.Lexicographic.{pointwise}
use Rattle.fy_locality.specs.declared.ProcId.{ProcId}
use Rattle.fy_team.specs.declared.limits.TheConstants.{MOST_MEMBERS}

-- whether the numbers rise, the first being no less than low
abbrev pub rises_from : ℕ → List ProcId → Bool
rises_from low [] = true
rises_from low (p ∷ ps) = nat_le low p.0 && rises_from (p.0 + 1) ps

-- whether these are members of a team: few enough, and rising
abbrev pub are_members : List ProcId → Bool
are_members ps = nat_le (length ps) MOST_MEMBERS && rises_from 0 ps

-- whether two lists are of the same processes, one by one
abbrev pub same_numbers : List ProcId → List ProcId → Bool
same_numbers = pointwise (on (λ p. p.0) nat_eq)
