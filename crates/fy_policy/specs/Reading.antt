-- what a text reads as: its policy, or the first thing that is wrong with it
use Rattle.std.specs.Prelude.{◌≡◌, ℕ, ◌<◌, ◌≤◌, List, length, Result, Ok, Err}
use Rattle.fy_policy.specs.declared.fault.PolicyFault.{PolicyFault}
use Rattle.fy_policy.specs.declared.fault.PolicyFault.TheVariants.{TooLong, Syntax, Count, Depth, Nodes, NoMemory}
use Rattle.fy_policy.specs.declared.limits.TheConstants.{MOST_DEPTH, MOST_NODES, MOST_READ_BYTES}
use Rattle.fy_policy.specs.Text.{text}
use Rattle.fy_policy.specs.Tree.{Tree, HasParts, HasFitCounts, IsPolicy, depth, nodes}

-- the bytes are of the grammar: the text of this tree, whatever its counts, and each And has a part
pub record IsTextOf (bytes : List ℕ) (tree : Tree) : Type 0 where
  pub same : bytes ≡ text tree
  pub parts : HasParts tree

-- what reading the bytes may answer; an allocation failure can take the place of any answer
unfoldable pub Reads : List ℕ → Result Tree PolicyFault → Type 0
Reads bytes (Ok tree) = (length bytes ≤ MOST_READ_BYTES) × (bytes ≡ text tree) × IsPolicy tree
Reads bytes (Err TooLong) = MOST_READ_BYTES < length bytes
Reads bytes (Err Syntax) =
    (length bytes ≤ MOST_READ_BYTES) × ((tree : Tree) → IsTextOf bytes tree → ⊥)
Reads bytes (Err Count) =
    (length bytes ≤ MOST_READ_BYTES) × (tree : Tree) × IsTextOf bytes tree × (HasFitCounts tree → ⊥)
Reads bytes (Err Depth) =
    (length bytes ≤ MOST_READ_BYTES) × (tree : Tree) × IsTextOf bytes tree × HasFitCounts tree
    × (MOST_DEPTH < depth tree)
Reads bytes (Err Nodes) =
    (length bytes ≤ MOST_READ_BYTES) × (tree : Tree) × IsTextOf bytes tree × HasFitCounts tree
    × (depth tree ≤ MOST_DEPTH) × (MOST_NODES < nodes tree)
Reads bytes (Err NoMemory) = Unit {0}
