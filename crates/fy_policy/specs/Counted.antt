-- a policy's tree with counts: what its counts are for a set of processes
use Rattle.std.specs.Prelude.{◌≡◌, ◌≢◌, ℕ, ◌+◌, ◌-◌, ◌^◌, ◌<◌, ◌≤◌, Bool, ◌&&◌, not, cond, List, length, filter, Option, Some, None, true, false, nat_lt, slice_index_or}
use Rattle.std.specs.Ordering.{nat_cmp}
use Rattle.std.specs.FinSet as sets
use Rattle.std.proofs.Common.{zero, suc, eqb, Box, Global}
use Rattle.fy_locality.specs.declared.locality.Locality.{Locality}
use Rattle.fy_locality.specs.declared.key.Key.{Key}
use Rattle.fy_locality.specs.declared.TheConstants.{MOST_PROCESSES}
use Rattle.fy_locality.specs.Locality.{has_value, value_of, values_of}
use Rattle.fy_policy.specs.declared.node.Node.{Node, One, Across', Both, Both'}
use Rattle.fy_policy.specs.Sat.{group, satisfies}
use Rattle.fy_policy.specs.Tree.{Tree, one, across, every, part, none, IsWellFormed}

-- the policy of a counted tree, its parts two by two
abbrev pub tree_of_node : Node → Tree
tree_of_node (One counts) = one
tree_of_node (Across' n key places counts ptr inner) = across n key (tree_of_node inner)
tree_of_node (Both' p a q b) = every (part (tree_of_node a) (part (tree_of_node b) none))

-- two counted trees at once, or the second alone where there is no first
abbrev pub IsBothOf : Option Node → Node → Node → Type 0
IsBothOf None second both = both ≡ second
IsBothOf (Some first) second both =
    (a b : Box Node Global) × (a.value ≡ first) × (b.value ≡ second) × (both ≡ Both a b)

-- how many numbers below n pass
abbrev pub number_of : (ℕ → Bool) → ℕ → ℕ
number_of f zero = 0
number_of f (suc n) = cond (f n) 1 0 + number_of f n

-- how many values of a key have a group in s that satisfies q
abbrev pub passing : List Locality → Key → Tree → (ℕ → Bool) → ℕ
passing processes key q s =
    length (filter (λ v. satisfies processes q (group processes key v s)) (values_of processes key))

-- the processes of s that stand in group g
abbrev pub within : List Locality → (ℕ → ℕ) → ℕ → (ℕ → Bool) → ℕ → Bool
within processes at g s q = nat_lt q (length processes) && (eqb (at q) g && s q)

-- s after process p came or went
abbrev pub toggled : (ℕ → Bool) → ℕ → Bool → ℕ → Bool
toggled s p joins q = cond (eqb q p) joins (s q)

-- s after those came or went
abbrev pub toggled_by : (ℕ → Bool) → (ℕ → Bool) → Bool → ℕ → Bool
toggled_by s those joins q = cond (those q) joins (s q)

-- those of a group who can come, as none of them is in s, or go, as each of them is
pub record CanToggle
    (processes : List Locality) (at : ℕ → ℕ) (group : ℕ) (s : ℕ → Bool)
    (those : ℕ → Bool) (joins : Bool) : Type 0 where
  pub known : (q : ℕ) → those q ≡ true → q < length processes
  pub here : (q : ℕ) → those q ≡ true → at q ≡ group
  pub were : (q : ℕ) → those q ≡ true → s q ≡ not joins

-- a process of a group that can come, as it isn't in s, or go, as it is
pub record CanToggleOne
    (processes : List Locality) (at : ℕ → ℕ) (group : ℕ) (s : ℕ → Bool)
    (p : ℕ) (joins : Bool) : Type 0 where
  pub known : p < length processes
  pub here : at p ≡ group
  pub was : s p ≡ not joins

-- the group of each process, as listed
abbrev pub group_at : List ℕ → ℕ → ℕ
group_at places p = slice_index_or places p 0

-- each of so many processes has its group below, whose number runs to theirs
pub record AreGroupsBelow (count : ℕ) (places : List ℕ) : Type 0 where
  pub wide : length places ≡ count
  pub fits : (p : ℕ) → p < count → group_at places p ≤ count

-- each group of so many processes has its count
abbrev pub HasGroups : ℕ → Node → Type 0
HasGroups n (One counts) = length counts.items ≡ n + 1
HasGroups n (Across' wanted key places counts ptr inner) =
    (length counts.items ≡ n + 1) × AreGroupsBelow n places.items × HasGroups n inner
HasGroups n (Both' p a q b) = HasGroups n a × HasGroups n b

-- a group is one of those that a tree counts
pub record HasGroup (group : ℕ) (node : Node) : Type 0 where
  pub most : ℕ
  pub groups : HasGroups most node
  pub inside : group ≤ most

-- a count for each group, of which the numbers run to the number of processes
pub record AreCounts (processes : List Locality) (counts : List ℕ) (f : ℕ → ℕ) : Type 0
  where
    pub wide : length counts ≡ length processes + 1
    pub each : (g : ℕ) → g ≤ length processes → slice_index_or counts g 0 ≡ f g

-- a count once one of those counted is looked at again: without it where it counted before, and
-- with it where it counts after
abbrev pub recounted : ℕ → Bool → Bool → ℕ
recounted count before after = count + cond after 1 0 - cond before 1 0

-- the counts of the other groups stay, and the group's is recounted, if it is far from the greatest
pub record IsRecounted
    (old : List ℕ) (group : ℕ) (before after : Bool) (new : List ℕ) : Type 0 where
  pub wide : length new ≡ length old
  pub others : (i : ℕ) → i ≢ group → slice_index_or new i 0 ≡ slice_index_or old i 0
  pub here : slice_index_or old group 0 < 2 ^ 31
      → slice_index_or new group 0 ≡ recounted (slice_index_or old group 0) before after

-- below a key those stand together that stood together and have the same value of it
pub record IsSplitByKey (processes : List Locality) (key : Key) (at below : ℕ → ℕ) : Type 0
  where
    pub fits : (p : ℕ) → p < length processes → below p ≤ length processes
    pub same : (p q : ℕ) (v : List ℕ) → p < length processes → q < length processes
        → value_of processes key p ≡ Some v
        → eqb (below q) (below p) ≡ (eqb (at q) (at p) && has_value processes key v q)

-- the least process of those that stand together with process p and have the value v of the key
pub record IsRepresentativeOf
    (processes : List Locality) (key : Key) (at : ℕ → ℕ) (p : ℕ) (v : List ℕ) (l : ℕ) : Type 0
  where
    pub together : eqb (at l) (at p) ≡ true
    pub has : has_value processes key v l ≡ true
    pub none_below : (x : ℕ) → x < l
        → (eqb (at x) (at p) && has_value processes key v x) ≡ false

-- a process stands at the leader of its group; one without the key stands alone
pub record IsRepresentative (processes : List Locality) (key : Key) (at : ℕ → ℕ) (p l : ℕ) : Type 0
  where
    pub fits : l < length processes
    pub alone : value_of processes key p ≡ None → l ≡ p
    pub leads : (v : List ℕ)
        → value_of processes key p ≡ Some v → IsRepresentativeOf processes key at p v l

-- the counts are those of s, where the processes stand in these groups
unfoldable pub AreCountersOf : List Locality → (ℕ → ℕ) → (ℕ → Bool) → Node → Type 0
AreCountersOf processes at s (One counts) =
    AreCounts processes counts.items
    (λ g. number_of (within processes at g s) (length processes))
AreCountersOf processes at s (Across' n key places counts ptr inner) =
    AreCounts processes counts.items
    (λ g. passing processes key (tree_of_node inner) (within processes at g s))
    × IsWellFormed (tree_of_node inner) × IsSplitByKey processes key at (group_at places.items)
    × AreCountersOf processes (group_at places.items) s inner
AreCountersOf processes at s (Both' p a q b) = AreCountersOf processes at s a × AreCountersOf processes at s b

-- those are the counts, and there may be such a group
pub record AreCountersAt
    (processes : List Locality) (at : ℕ → ℕ) (s : ℕ → Bool) (group : ℕ) (node : Node) : Type 0
  where
    pub few : length processes ≤ MOST_PROCESSES
    pub right : AreCountersOf processes at s node
    pub inside : group ≤ length processes

-- the counted tree of a policy, for nobody
pub record IsBuiltFrom
    (processes : List Locality) (at : ℕ → ℕ) (tree : Tree) (node : Node) : Type 0 where
  pub same : (s : ℕ → Bool)
      → satisfies processes (tree_of_node node) s ≡ satisfies processes tree s
  pub counted : IsWellFormed (tree_of_node node)
  pub groups : HasGroups (length processes) node
  pub right : AreCountersOf processes at (λ _. false) node

-- a counted tree of the same policy, whose groups and counts are right wherever the other's are
pub record CountsAlike (old new : Node) : Type 0 where
  pub tree : tree_of_node new ≡ tree_of_node old
  pub groups : (n : ℕ) → HasGroups n old → HasGroups n new
  pub right : (processes : List Locality) (at : ℕ → ℕ) (s : ℕ → Bool)
      → AreCountersOf processes at s old → AreCountersOf processes at s new

-- what a Tally is seen as: the processes of its map, its policy, and a set
pub record Tallied : Type 0 where
  pub processes : List Locality
  pub policy : Tree
  pub set : sets.FinSet nat_cmp

-- the counted tree is the policy's, and its counts are those of the set
pub record IsTallied
    (processes : List Locality) (all : sets.FinSet nat_cmp) (policy : Tree)
    (set : sets.FinSet nat_cmp) (node : Node) : Type 0 where
  pub few : length processes ≤ MOST_PROCESSES
  pub everyone : (q : ℕ) → sets.contains all q ≡ nat_lt q (length processes)
  pub same : (s : ℕ → Bool)
      → satisfies processes (tree_of_node node) s ≡ satisfies processes policy s
  pub groups : HasGroups (length processes) node
  pub right : AreCountersOf processes (λ _. 0) (sets.contains set) node
