-- the limits of a policy, part by part
use Rattle.std.proofs.Common.{zero, suc, ◌≡◌, ◌↔◌, ℕ, ◌+◌, ◌-◌, ◌<◌, ◌≤◌, true, false, true≢false, IsTrue, List, [], ◌∷◌, ◌++◌, Vec, Global, length, take, get_or, slice_index_or, refl, sym, ap, subst, ◌∙◌, arith}
use Rattle.std.specs.List.{All}
use Rattle.std.proofs.lemmas.List.{take_more, take_all}
use Rattle.std.proofs.lemmas.List.Elements.{All-nil, All-cons, All-head, All-tail}
use Rattle.fy_policy.specs.declared.shape.Shape.{Shape, And}
use Rattle.fy_policy.specs.Shape.{tree_of}
use Rattle.fy_policy.specs.Tree.{Tree, one, across, every, Parts, none, part, HasParts, HaveParts, HasFitCounts, HaveFitCounts, IsWellFormed, AreWellFormed, depth, greatest_depth, nodes, all_nodes}
use Rattle.fy_policy.proofs.Shapes.{parts_from, tree_of-And}

-- ---- what holds of a list of shapes where it holds of each
module _ (F : Type 0) (P : Shape → Type 0) (items : List Shape) (each : F ↔ All P items) where
  pub one_fails : (i : ℕ) (x : Shape) → i < length items → x ≡ slice_index_or items i x → (P x → ⊥) → IsTrue false ↔ F
  one_fails i x within is fails = (λ t. absurd (true≢false (sym t)), λ f. absurd (fails (subst P (sym is) (each.0 f i x within))))

  pub all_hold : (i : ℕ) → length items ≤ i → ((k : ℕ) (d : Shape) → k < i → P (slice_index_or items k d)) → IsTrue true ↔ F
  all_hold i past so_far = (λ _. each.1 (λ k d h. so_far k d (omega arith)), λ _. refl)

-- ---- counts
abbrev pub Fit : Shape → Type 0
Fit q = HasFitCounts (tree_of q)

fit_items : (items : List Shape) → HaveFitCounts (parts_from items) → All Fit items
unfolding HasFitCounts
fit_items [] h = All-nil Fit
fit_items (q ∷ qs) h = All-cons Fit q qs h.0 (fit_items qs h.1)

items_fit : (items : List Shape) → All Fit items → HaveFitCounts (parts_from items)
unfolding HasFitCounts
items_fit [] h = tt
items_fit (q ∷ qs) h = (All-head Fit q qs h, items_fit qs (All-tail Fit q qs h))

pub Fit-And : (parts : Vec Shape Global) → HasFitCounts (tree_of (And parts)) ↔ All Fit parts.items
unfolding HasFitCounts
Fit-And parts = (
  λ h. fit_items parts.items (subst HasFitCounts (tree_of-And parts) h),
  λ h. subst HasFitCounts (sym (tree_of-And parts)) (items_fit parts.items h),
)

pub Fit-one : HasFitCounts one
unfolding HasFitCounts
Fit-one = tt

pub Fit-across : (n : ℕ) (k : _) (q : Tree) → HasFitCounts (across n k q) ↔ ((1 ≤ n) × (n ≤ 1024) × HasFitCounts q)
unfolding HasFitCounts
Fit-across n k q = (λ h. h, λ h. h)

-- ---- depth
abbrev pub Shallow : ℕ → Shape → Type 0
Shallow most q = depth (tree_of q) ≤ most

shallow_items : (most : ℕ) (items : List Shape) → greatest_depth (parts_from items) ≤ most → All (Shallow most) items
shallow_items most [] h = All-nil (Shallow most)
shallow_items most (q ∷ qs) h = All-cons (Shallow most) q qs (omega arith) (shallow_items most qs (omega arith))

items_shallow : (most : ℕ) (items : List Shape) → All (Shallow most) items → greatest_depth (parts_from items) ≤ most
items_shallow most [] h = omega arith
items_shallow most (q ∷ qs) h =
    let first : depth (tree_of q) ≤ most = All-head (Shallow most) q qs h in
    let rest : greatest_depth (parts_from qs) ≤ most = items_shallow most qs (All-tail (Shallow most) q qs h) in
    omega arith

pub Shallow-And : (parts : Vec Shape Global) (most : ℕ) → 0 < most → (depth (tree_of (And parts)) ≤ most) ↔ All (Shallow (most - 1)) parts.items
Shallow-And parts most some =
    let same : depth (tree_of (And parts)) ≡ greatest_depth (parts_from parts.items) + 1 = ap depth (tree_of-And parts) in (
      λ h. shallow_items (most - 1) parts.items (omega arith),
      λ h. let low : greatest_depth (parts_from parts.items) ≤ most - 1 = items_shallow (most - 1) parts.items h in omega arith,
    )

pub depth_some : (t : Tree) → 0 < depth t
depth_some one = omega arith
depth_some (across n k q) = omega arith
depth_some (every qs) = omega arith

-- ---- nodes
pub nodes_some : (t : Tree) → 0 < nodes t
nodes_some one = omega arith
nodes_some (across n k q) = omega arith
nodes_some (every qs) = omega arith

abbrev pub nodes_to : List Shape → ℕ → ℕ
nodes_to items i = all_nodes (parts_from (take i items))

all_nodes-push : (qs : List Shape) (q : Shape) → all_nodes (parts_from (qs ++ q ∷ [])) ≡ all_nodes (parts_from qs) + nodes (tree_of q)
all_nodes-push [] q = omega arith
all_nodes-push (x ∷ xs) q = let below : all_nodes (parts_from (xs ++ q ∷ [])) ≡ all_nodes (parts_from xs) + nodes (tree_of q) = all_nodes-push xs q in omega arith

pub nodes_to-more : (items : List Shape) (i : ℕ) (q : Shape) → i < length items → q ≡ get_or items i q → nodes_to items (i + 1) ≡ nodes_to items i + nodes (tree_of q)
nodes_to-more items i q within is =
    ap (λ qs. all_nodes (parts_from qs)) (take_more items i q within)
    ∙ all_nodes-push (take i items) (get_or items i q)
    ∙ ap (λ x. nodes_to items i + nodes (tree_of x)) (sym is)

pub nodes_to-le : (items : List Shape) (i : ℕ) → nodes_to items i ≤ all_nodes (parts_from items)
nodes_to-le [] zero = omega arith
nodes_to-le [] (suc i) = omega arith
nodes_to-le (q ∷ qs) zero = omega arith
nodes_to-le (q ∷ qs) (suc i) = let below : nodes_to qs i ≤ all_nodes (parts_from qs) = nodes_to-le qs i in omega arith

pub nodes_to-all : (items : List Shape) (i : ℕ) → length items ≤ i → nodes_to items i ≡ all_nodes (parts_from items)
nodes_to-all items i past = ap (λ qs. all_nodes (parts_from qs)) (take_all i items past)

pub nodes-And : (parts : Vec Shape Global) → nodes (tree_of (And parts)) ≡ all_nodes (parts_from parts.items) + 1
nodes-And parts = ap nodes (tree_of-And parts)

-- ---- a counted tree has parts and fit counts, and the other way round
mutual
  unfolding HasParts HasFitCounts

  pub counted_splits : (t : Tree) → IsWellFormed t → HasParts t × HasFitCounts t
  counted_splits one h = (tt, tt)
  counted_splits (across n k q) h = let below = counted_splits q h.2 in (below.0, (h.0, h.1, below.1))
  counted_splits (every qs) h = let below = all_counted_split qs h.1 in ((h.0, below.0), below.1)

  all_counted_split : (qs : Parts) → AreWellFormed qs → HaveParts qs × HaveFitCounts qs
  all_counted_split none h = (tt, tt)
  all_counted_split (part q qs) h = let first = counted_splits q h.0 in let rest = all_counted_split qs h.1 in ((first.0, rest.0), (first.1, rest.1))

mutual
  unfolding HasParts HasFitCounts

  pub counted_from : (t : Tree) → HasParts t → HasFitCounts t → IsWellFormed t
  counted_from one p f = tt
  counted_from (across n k q) p f = (f.0, f.1, counted_from q p f.2)
  counted_from (every qs) p f = (p.0, all_counted_from qs p.1 f)

  all_counted_from : (qs : Parts) → HaveParts qs → HaveFitCounts qs → AreWellFormed qs
  all_counted_from none p f = tt
  all_counted_from (part q qs) p f = (counted_from q p.0 f.0, all_counted_from qs p.1 f.1)
