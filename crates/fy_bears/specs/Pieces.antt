-- the pieces of the text that tells people what a cluster bears
use Rattle.std.specs.Prelude.{ℕ, zero, suc, ◌==◌, List, [], ◌++◌, Bool, true, false, codes, decimal, length, Option, Some, None, if◌then◌else◌}
use Rattle.std.specs.Ordering.{nat_cmp}
use Rattle.std.specs.FinSet as sets
use Rattle.fy_locality.specs.declared.locality.Locality.{Locality}
use Rattle.fy_locality.specs.declared.key.Key.TheVariants.{Process}
use Rattle.fy_locality.specs.Locality.{value_of}
use Rattle.fy_policy.specs.Text.{text}
use Rattle.fy_policy.specs.Tree.{Tree}

-- what is spelled of each number below one, one after another
abbrev pub each_below : (ℕ → List ℕ) → ℕ → List ℕ
each_below spell zero = []
each_below spell (suc n) = each_below spell n ++ spell n

-- a number between two texts
abbrev pub between : List ℕ → ℕ → List ℕ → List ℕ
between head n tail = head ++ (decimal n ++ tail)

-- a word behind a mark, where there is a word
abbrev pub marked : List ℕ → Option (List ℕ) → List ℕ
marked mark None = []
marked mark (Some word) = mark ++ word

-- the name of a process behind a blank, where it is in the set
abbrev pub member_text : List Locality → sets.FinSet nat_cmp → ℕ → List ℕ
member_text processes set p =
    if sets.contains set p then marked (codes " ") (value_of processes Process p) else []

-- the names of the processes of a set, a blank before each
abbrev pub names_text : List Locality → sets.FinSet nat_cmp → List ℕ
names_text processes set = each_below (member_text processes set) (length processes)

-- that a set is empty
abbrev pub none_text : sets.FinSet nat_cmp → List ℕ
none_text set = if sets.len set == 0 then codes " none" else []

-- the names of the processes of a set, or that there are none, and the end of the line
abbrev pub names_end : List Locality → sets.FinSet nat_cmp → List ℕ
names_end processes set = none_text set ++ (names_text processes set ++ codes "\n")

-- a line of them behind a text
abbrev pub names_line : List ℕ → List Locality → sets.FinSet nat_cmp → List ℕ
names_line head processes set = head ++ names_end processes set

-- how many are borne: exactly so many, or so many at least where that isn't known; so many together
-- are too many
abbrev pub number_text : (is_exact : Bool) → (any many : ℕ) → List ℕ
number_text true any many = between (codes "exactly ") any (codes "; too many:")
number_text false any many =
    between (codes "at least ") any (between (codes "; these ") many (codes " are too many:"))

-- how the line of a policy begins: with its number and its text
abbrev pub policy_head : ℕ → Tree → List ℕ
policy_head i policy = between (codes "  policy ") i (codes " " ++ (text policy ++ codes ": "))
