-- how `bears` tells people what may forget
use Rattle.std.specs.Prelude.{ℕ, ◌-◌, ◌==◌, List, [], ◌++◌, Bool, true, false, codes, length, Option, Some, None, slice_get, if◌then◌else◌}
use Rattle.std.specs.FinSet as sets
use Rattle.std.proofs.Common.{Global, Vec}
use Rattle.fy_locality.specs.declared.locality.Locality.{Locality}
use Rattle.fy_policy.specs.Text.{text}
use Rattle.fy_policy.specs.Tree.{Tree}
use Rattle.fy_votes.specs.declared.forgetting.Forgetting.{Forgetting}
use Rattle.fy_bears.specs.Pieces.{between, each_below, names_end, number_text, policy_head}

-- as many as are known not to be safe are too many
abbrev pub is_known : Forgetting → Bool
is_known found = sets.len found.too_many == found.fewest

-- that none may forget for sure, or that it isn't known
abbrev pub unsafe_text : (is_known : Bool) → (many : ℕ) → List ℕ
unsafe_text true many = codes "unsafe with none; too many:"
unsafe_text false many = between (codes "not known; these ") many (codes " are too many:")

-- how many may forget
abbrev pub fewest_text : Forgetting → List ℕ
fewest_text found =
    if found.fewest == 0 then unsafe_text (is_known found) (sets.len found.too_many)
    else number_text (is_known found) (found.fewest - 1) (sets.len found.too_many)

-- how many may forget, and a set that may not
abbrev pub forgetting_text : List Locality → Forgetting → List ℕ
forgetting_text processes found = fewest_text found ++ names_end processes found.too_many

-- the line of a policy of writes, where something was found of it
abbrev pub forgetting_line : List Locality → ℕ → Option Tree → Option Forgetting → List ℕ
forgetting_line processes i policy None = []
forgetting_line processes i None (Some found) = []
forgetting_line processes i (Some policy) (Some found) =
    policy_head i policy ++ forgetting_text processes found

-- a line for each policy of writes
abbrev pub forgetting_lines : List Locality → List Tree → List Forgetting → List ℕ
forgetting_lines processes policies found =
    each_below (λ i. forgetting_line processes i (slice_get policies i) (slice_get found i))
    (length policies)

-- these lines; or that nobody is ever elected
abbrev pub elected_text : List Locality → List Tree → Option (Vec Forgetting Global) → List ℕ
elected_text processes policies None = codes ": nobody is elected, not even by all processes\n"
elected_text processes policies (Some found) =
    codes ":\n" ++ forgetting_lines processes policies found.items

-- the paragraph of a policy of elections
abbrev pub elections_text :
    List Locality → List Tree → Option Tree → Option (Option (Vec Forgetting Global)) → List ℕ
elections_text processes policies elections None = []
elections_text processes policies None (Some found) = []
elections_text processes policies (Some elections) (Some found) =
    codes "\nforgetting, elections by " ++ (text elections ++ elected_text processes policies found)

-- a paragraph for each policy of elections
abbrev pub forgets_text :
    List Locality → List Tree → (elections : List Tree) → List (Option (Vec Forgetting Global))
    → List ℕ
forgets_text processes policies elections found =
    each_below (λ i. elections_text processes policies (slice_get elections i) (slice_get found i))
    (length elections)
