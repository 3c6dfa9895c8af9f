-- the tree of a shape with several parts
use Rattle.std.proofs.Common.{◌≡◌, List, [], ◌∷◌, ◌++◌, Global, Vec, Bool, true, false, ◌&&◌, ℕ, ◌<◌, zero, suc, length, get_or, refl, sym, ap, subst, ◌∙◌, arith}
use mathlib.Core.Former.{Count}
use Rattle.std.specs.List.{list_all}
use Rattle.std.proofs.lemmas.List.Folds.{list_all_at}
use Rattle.fy_locality.specs.declared.locality.Locality.{Locality}
use Rattle.fy_policy.specs.declared.shape.Shape.{Shape, And, And', Row_of-Shape, end_of-Shape, more_of-Shape, items-the_row-Shape, items_hidden-the_row-Shape-0}
use Rattle.fy_policy.specs.Sat.{satisfies, all_satisfy}
use Rattle.fy_policy.specs.Shape.{tree_of, parts_of}
use Rattle.fy_policy.specs.Tree.{Tree, every, Parts, none, part, AreWellFormed, IsWellFormed}

abbrev row_of : Shape → (n : Count) × Row_of-Shape n
row_of (And' _ row) = (_, row)
row_of _ = (_, end_of-Shape)

-- ---- the tree of several policies at once
abbrev pub parts_from : List Shape → Parts
parts_from [] = none
parts_from (q ∷ qs) = part (tree_of q) (parts_from qs)

parts_of_row : {n : _} (row : Row_of-Shape n) → parts_of row ≡ parts_from (items-the_row-Shape n row)
parts_of_row end_of-Shape = refl
parts_of_row (more_of-Shape q rest) = ap (part (tree_of q)) (parts_of_row rest)

pub tree_of-And : (parts : Vec Shape Global) → tree_of (And parts) ≡ every (parts_from parts.items)
tree_of-And parts = ap every (parts_of_row (row_of (And parts)).1 ∙ ap parts_from (items_hidden-the_row-Shape-0 parts))

pub parts_from-push : (qs ps : List Shape) (q p : Shape) → parts_from qs ≡ parts_from ps → tree_of q ≡ tree_of p → parts_from (qs ++ q ∷ []) ≡ parts_from (ps ++ p ∷ [])
parts_from-push qs ps q p e f = push qs q ∙ (λ i. joined (e i) (f i)) ∙ sym (push ps p)
  where
    joined : Parts → Tree → Parts
    joined none t = part t none
    joined (part u us) t = part u (joined us t)

    push : (qs : List Shape) (q : Shape) → parts_from (qs ++ q ∷ []) ≡ joined (parts_from qs) (tree_of q)
    push [] q = refl
    push (x ∷ xs) q = ap (part (tree_of x)) (push xs q)

-- several policies are satisfied where each is
pub all_satisfy-parts : (processes : List Locality) (s : ℕ → Bool) (qs : List Shape) → all_satisfy processes (parts_from qs) s ≡ list_all (λ q. satisfies processes (tree_of q) s) qs
unfolding satisfies
all_satisfy-parts processes s [] = refl
all_satisfy-parts processes s (q ∷ qs) = ap (λ b. satisfies processes (tree_of q) s && b) (all_satisfy-parts processes s qs)

pub satisfies-And : (processes : List Locality) (s : ℕ → Bool) (parts : Vec Shape Global) → satisfies processes (tree_of (And parts)) s ≡ list_all (λ q. satisfies processes (tree_of q) s) parts.items
unfolding satisfies
satisfies-And processes s parts = ap (λ t. satisfies processes t s) (tree_of-And parts) ∙ all_satisfy-parts processes s parts.items

-- each part of a counted policy is counted
counted_at : (qs : List Shape) → AreWellFormed (parts_from qs) → (k : ℕ) (d : Shape) → k < length qs → IsWellFormed (tree_of (get_or qs k d))
counted_at [] h k d within = absurd (omega arith)
counted_at (q ∷ qs) h zero d within = h.0
counted_at (q ∷ qs) h (suc k) d within = counted_at qs h.1 k d (omega arith)

pub part_is_counted : (parts : Vec Shape Global) (k : ℕ) (d : Shape) → IsWellFormed (tree_of (And parts)) → k < length parts.items → IsWellFormed (tree_of (get_or parts.items k d))
part_is_counted parts k d h within = let c : IsWellFormed (every (parts_from parts.items)) = subst IsWellFormed (tree_of-And parts) h in counted_at parts.items c.1 k d within

pub all_pass : (test : Shape → Bool) (qs : List Shape) → ((k : ℕ) (d : Shape) → k < length qs → test (get_or qs k d) ≡ true) → list_all test qs ≡ true
all_pass test [] each = refl
all_pass test (q ∷ qs) each = ap (λ b. b && list_all test qs) (each zero q (omega arith)) ∙ all_pass test qs (λ k d h. each (suc k) d (omega arith))

pub one_fails : (test : Shape → Bool) (qs : List Shape) (k : ℕ) (q : Shape) → k < length qs → q ≡ get_or qs k q → test q ≡ false → list_all test qs ≡ false
one_fails test qs k q within is fails = list_all_at test qs k q within (ap test (sym is) ∙ fails)

-- the part at a place of the loop's list
pub part_is_counted' : (shape : Shape) (parts : Vec Shape Global) (items : List Shape) (k : ℕ) (q : Shape) → shape ≡ And parts → items ≡ parts.items → IsWellFormed (tree_of shape) → k < length items → q ≡ get_or items k q → IsWellFormed (tree_of q)
part_is_counted' shape parts items k q is same h within at =
    let place : q ≡ get_or parts.items k q = at ∙ ap (λ qs. get_or qs k q) same in
    let inside : k < length parts.items = subst (λ qs. k < length qs) same within in
    subst (λ r. IsWellFormed (tree_of r)) (sym place) (part_is_counted parts k q (subst (λ r. IsWellFormed (tree_of r)) is h) inside)
