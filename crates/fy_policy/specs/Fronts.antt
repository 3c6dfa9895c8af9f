-- what the readers within find at the front of bytes
use Rattle.std.specs.Prelude.{◌≡◌, ◌+◌, ℕ, min, List, ◌++◌}
use Rattle.fy_policy.specs.declared.fault.PolicyFault.{PolicyFault}
use Rattle.fy_policy.specs.declared.fault.PolicyFault.TheVariants.{TooLong, Syntax, Count, Depth, Nodes, NoMemory}
use Rattle.fy_policy.specs.declared.limits.TheConstants.{MOST_COUNT}
use Rattle.fy_policy.specs.Text.{text}
use Rattle.fy_policy.specs.Tree.{Tree, one, across, every, Parts, none, part, HasParts}

-- the tree with one above the greatest count for each count above that
unfoldable mutual
  pub capped : Tree → Tree
  capped one = one
  capped (across n key q) = across (min n (MOST_COUNT + 1)) key (capped q)
  capped (every qs) = every (capped_parts qs)

  -- the same of each part
  pub capped_parts : Parts → Parts
  capped_parts none = none
  capped_parts (part q qs) = part (capped q) (capped_parts qs)

-- the bytes begin with the text of a tree, which is the one found once its counts are capped, and
-- the rest follows
pub record BeginsWith (bytes : List ℕ) (found : Tree) (rest : List ℕ) : Type 0 where
  pub tree : Tree
  pub parts : HasParts tree
  pub same : found ≡ capped tree
  pub front : bytes ≡ text tree ++ rest

-- no tree's text begins the bytes
abbrev pub BeginsWithNone : List ℕ → Type 0
BeginsWithNone bytes = (tree : Tree) (rest : List ℕ) → HasParts tree → bytes ≡ text tree ++ rest → ⊥

-- the faults that stop a reader in the middle of a text
unfoldable pub IsFaultAt : PolicyFault → List ℕ → Type 0
IsFaultAt Syntax bytes = BeginsWithNone bytes
IsFaultAt NoMemory bytes = Unit {0}
IsFaultAt TooLong bytes = ⊥
IsFaultAt Count bytes = ⊥
IsFaultAt Depth bytes = ⊥
IsFaultAt Nodes bytes = ⊥
