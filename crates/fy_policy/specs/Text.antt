-- the one text of a policy
use Rattle.std.specs.Prelude.{ℕ, ◌+◌, ◌==◌, if◌then◌else◌, List, [], ◌++◌, map, codes}
use Rattle.std.specs.Int.Digits.{digits_of}
use Rattle.fy_locality.specs.Key.{key_text}
use Rattle.fy_policy.specs.Tree.{Tree, one, across, every, Parts, none, part}

-- a number in decimal, of any length and without leading zeros
unfoldable pub numeral : ℕ → List ℕ
numeral n = if n == 0 then codes "0" else map (λ d. 48 + d) (digits_of 10 n)

abbrev mutual
  -- the one text of a policy
  pub text : Tree → List ℕ
  text one = codes "One()"
  text (across n key q) =
      codes "Across(" ++ numeral n ++ codes "," ++ key_text key ++ codes "," ++ text q ++ codes ")"
  text (every qs) = codes "And(" ++ parts_text qs ++ codes ")"

  -- the parts with commas between
  pub parts_text : Parts → List ℕ
  parts_text none = []
  parts_text (part q qs) = text q ++ more_text qs

  -- the parts behind the first, a comma before each
  pub more_text : Parts → List ℕ
  more_text none = []
  more_text (part q qs) = codes "," ++ text q ++ more_text qs
