-- a policy as a tree, without where it lies in memory, and its limits
use Rattle.std.specs.Prelude.{ℕ, ◌+◌, ◌≤◌, max}
use Rattle.fy_locality.specs.declared.key.Key.{Key}
use Rattle.fy_policy.specs.declared.limits.TheConstants.{LEAST_COUNT, MOST_COUNT, MOST_DEPTH, MOST_NODES}

mutual
  pub data Tree : Type 0 where
    one : Tree
    across : ℕ → Key → Tree → Tree
    every : Parts → Tree

  pub data Parts : Type 0 where
    none : Parts
    part : Tree → Parts → Parts

-- One() has depth 1, each other policy one more than its deepest part
abbrev mutual
  pub depth : Tree → ℕ
  depth one = 1
  depth (across n key q) = depth q + 1
  depth (every qs) = greatest_depth qs + 1

  -- the depth of the deepest part, or 0
  pub greatest_depth : Parts → ℕ
  greatest_depth none = 0
  greatest_depth (part q qs) = max (depth q) (greatest_depth qs)

-- each One, Across and And is a node
abbrev mutual
  pub nodes : Tree → ℕ
  nodes one = 1
  nodes (across n key q) = nodes q + 1
  nodes (every qs) = all_nodes qs + 1

  -- the nodes of all parts
  pub all_nodes : Parts → ℕ
  all_nodes none = 0
  all_nodes (part q qs) = nodes q + all_nodes qs

-- there is a part
abbrev pub HasPart : Parts → Type 0
HasPart none = ⊥
HasPart (part q qs) = Unit {0}

-- each And has a part
unfoldable mutual
  pub HasParts : Tree → Type 0
  HasParts one = Unit {0}
  HasParts (across n key q) = HasParts q
  HasParts (every qs) = HasPart qs × HaveParts qs

  -- each And below has a part
  pub HaveParts : Parts → Type 0
  HaveParts none = Unit {0}
  HaveParts (part q qs) = HasParts q × HaveParts qs

-- each count is within its limits
unfoldable mutual
  pub HasFitCounts : Tree → Type 0
  HasFitCounts one = Unit {0}
  HasFitCounts (across n key q) = (LEAST_COUNT ≤ n) × (n ≤ MOST_COUNT) × HasFitCounts q
  HasFitCounts (every qs) = HaveFitCounts qs

  -- each count below is within its limits
  pub HaveFitCounts : Parts → Type 0
  HaveFitCounts none = Unit {0}
  HaveFitCounts (part q qs) = HasFitCounts q × HaveFitCounts qs

-- each count is within its limits, and each And has a part
abbrev mutual
  pub IsWellFormed : Tree → Type 0
  IsWellFormed one = Unit {0}
  IsWellFormed (across n key q) = (LEAST_COUNT ≤ n) × (n ≤ MOST_COUNT) × IsWellFormed q
  IsWellFormed (every qs) = HasPart qs × AreWellFormed qs

  -- each part is well formed
  pub AreWellFormed : Parts → Type 0
  AreWellFormed none = Unit {0}
  AreWellFormed (part q qs) = IsWellFormed q × AreWellFormed qs

-- a policy within the limits
pub record IsPolicy (tree : Tree) : Type 0 where
  pub counted : IsWellFormed tree
  pub shallow : depth tree ≤ MOST_DEPTH
  pub small : nodes tree ≤ MOST_NODES
