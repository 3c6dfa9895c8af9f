-- no more is made of a list than it has elements
use Rattle.std.proofs.Common.{◌≤◌, suc, List, [], ◌∷◌, length, Option, Some, None, arith}
use Rattle.std.specs.Prelude.{filter_map}
use Rattle.std.specs.List.{cons_option}

pub made_fewer : {X Y : Type 0} (f : X → Option Y) (xs : List X) → length (filter_map f xs) ≤ length xs
made_fewer f [] = omega arith
made_fewer {X} {Y} f (x ∷ xs) = by (f x) (made_fewer f xs)
  where
    by : (made : Option Y) → length (filter_map f xs) ≤ length xs → length (cons_option made (filter_map f xs)) ≤ suc (length xs)
    by None rest = omega (arith, rest)
    by (Some y) rest = omega (arith, rest)
