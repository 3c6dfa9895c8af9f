-- a counted tree whose counts are copied
use Rattle.std.proofs.Common.{◌≡◌, ℕ, List, Vec, Global, Box, length, sym, ap, subst, ◌∙◌}
use Rattle.std.specs.FinSet as sets
use Rattle.std.specs.Ordering.{nat_cmp}
use Rattle.fy_locality.specs.declared.locality.Locality.{Locality}
use Rattle.fy_locality.specs.declared.key.Key.{Key}
use Rattle.fy_policy.specs.declared.node.Node.{Node, One, Across, Both}
use Rattle.fy_policy.specs.Sat.{satisfies}
use Rattle.fy_policy.specs.Tree.{Tree, across, every, part, none, IsWellFormed}
use Rattle.fy_policy.specs.Counted.{tree_of_node, number_of, passing, within, group_at, AreGroupsBelow, HasGroups, AreCounts, IsSplitByKey, AreCountersOf, CountsAlike, IsTallied}

module _ (node : Node) where
  pub one_alike : (old new : Vec ℕ Global) → node ≡ One old → new.items ≡ old.items → CountsAlike node (One new)
  unfolding AreCountersOf
  one_alike old new is same = record {
    tree = sym (ap tree_of_node is);
    groups = λ n had. let r : HasGroups n (One old) = subst (HasGroups n) is had in ap length same ∙ r;
    right = λ processes at s had.
        let r : AreCountersOf processes at s (One old) = subst (AreCountersOf processes at s) is had in
        subst (λ xs. AreCounts processes xs (λ g. number_of (within processes at g s) (length processes))) (sym same) r;
  }

  pub across_alike : (wanted : ℕ) (key : Key) (places counts places' counts' : Vec ℕ Global) (inner inner' : Box Node Global) → node ≡ Across wanted key places counts inner → places'.items ≡ places.items → counts'.items ≡ counts.items
      → CountsAlike inner.value inner'.value → CountsAlike node (Across wanted key places' counts' inner')
  unfolding AreCountersOf
  across_alike wanted key places counts places' counts' inner inner' is same_places same_counts like = record {
    tree = ap (across wanted key) like.tree ∙ sym (ap tree_of_node is);
    groups = λ n had.
        let r : HasGroups n (Across wanted key places counts inner) = subst (HasGroups n) is had in
        (ap length same_counts ∙ r.0, subst (AreGroupsBelow n) (sym same_places) r.1, like.groups n r.2);
    right = λ processes at s had.
        let r : AreCountersOf processes at s (Across wanted key places counts inner) = subst (AreCountersOf processes at s) is had in (
          subst (λ t. AreCounts processes counts'.items (λ g. passing processes key t (within processes at g s))) (sym like.tree)
              (subst (λ xs. AreCounts processes xs (λ g. passing processes key (tree_of_node inner.value) (within processes at g s))) (sym same_counts) r.0),
          subst IsWellFormed (sym like.tree) r.1,
          subst (λ xs. IsSplitByKey processes key at (group_at xs)) (sym same_places) r.2,
          subst (λ xs. AreCountersOf processes (group_at xs) s inner'.value) (sym same_places) (like.right processes (group_at places.items) s r.3),
        );
  }

  pub both_alike : (first second first' second' : Box Node Global) → node ≡ Both first second → CountsAlike first.value first'.value → CountsAlike second.value second'.value → CountsAlike node (Both first' second')
  unfolding AreCountersOf
  both_alike first second first' second' is one other = record {
    tree = (λ i. every (part (one.tree i) (part (other.tree i) none))) ∙ sym (ap tree_of_node is);
    groups = λ n had. let r : HasGroups n (Both first second) = subst (HasGroups n) is had in (one.groups n r.0, other.groups n r.1);
    right = λ processes at s had.
        let r : AreCountersOf processes at s (Both first second) = subst (AreCountersOf processes at s) is had in
        (one.right processes at s r.0, other.right processes at s r.1);
  }

-- a tally of it is one as well
pub tallied_alike : (processes : List Locality) (everyone : sets.FinSet nat_cmp) (set : sets.FinSet nat_cmp) (policy : Tree) (old new : Node) → CountsAlike old new → IsTallied processes everyone policy set old → IsTallied processes everyone policy set new
tallied_alike processes everyone set policy old new like tallied = record {
  few = tallied.few;
  everyone = tallied.everyone;
  same = λ s. ap (λ t. satisfies processes t s) like.tree ∙ tallied.same s;
  groups = like.groups (length processes) tallied.groups;
  right = like.right processes (λ _. 0) (sets.contains set) tallied.right;
}
