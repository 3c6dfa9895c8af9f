-- the parts of a shape
use Rattle.std.proofs.Common.{◌≡◌, List, Global, Vec, Bool, true, false, ℕ, ◌<◌, ◌≤◌, Box, length, get_or, refl, sym, ap, subst, ◌∙◌}
use Rattle.std.specs.List.{list_all}
use Rattle.fy_locality.specs.declared.locality.Locality.{Locality}
use Rattle.fy_locality.specs.declared.key.Key.{Key}
use Rattle.fy_policy.specs.declared.shape.Shape.{Shape, Across, And}
use Rattle.fy_policy.specs.Sat.{satisfies}
use Rattle.fy_policy.specs.Shape.{tree_of}
use Rattle.fy_policy.specs.Tree.{IsWellFormed}
use Rattle.fy_policy.specs.Laws.{AndIsEach, PartsAreWellFormed}
use Rattle.fy_policy.proofs.Shapes.{one_fails}
use Rattle.fy_tolerance.specs.Costs.{HasNoAnd}

pub inner_counted : (shape : Shape) (wanted : ℕ) (key : Key) (inner : Box Shape Global) → shape ≡ Across wanted key inner → IsWellFormed (tree_of shape) → (1 ≤ wanted) × IsWellFormed (tree_of inner.value)
inner_counted shape wanted key inner is h = let c : IsWellFormed (tree_of (Across wanted key inner)) = subst (λ q. IsWellFormed (tree_of q)) is h in (c.0, c.2)

pub count_within : (shape : Shape) (wanted : ℕ) (key : Key) (inner : Box Shape Global) → shape ≡ Across wanted key inner → IsWellFormed (tree_of shape) → wanted ≤ 1024
count_within shape wanted key inner is h = let c : IsWellFormed (tree_of (Across wanted key inner)) = subst (λ q. IsWellFormed (tree_of q)) is h in c.1

pub inner_has_no_and : (shape : Shape) (wanted : ℕ) (key : Key) (inner : Box Shape Global) → shape ≡ Across wanted key inner → HasNoAnd (tree_of shape) → HasNoAnd (tree_of inner.value)
inner_has_no_and shape wanted key inner is h = let c : HasNoAnd (tree_of (Across wanted key inner)) = subst (λ q. HasNoAnd (tree_of q)) is h in c

-- the part at a place of the loop's list
pub part_is_counted' : PartsAreWellFormed → (shape : Shape) (parts : Vec Shape Global) (items : List Shape) (k : ℕ) (q : Shape) → shape ≡ And parts → items ≡ parts.items → IsWellFormed (tree_of shape) → k < length items → q ≡ get_or items k q → IsWellFormed (tree_of q)
part_is_counted' formed shape parts items k q is same h within at =
    let place : q ≡ get_or parts.items k q = at ∙ ap (λ qs. get_or qs k q) same in
    let inside : k < length parts.items = subst (λ qs. k < length qs) same within in
    subst (λ r. IsWellFormed (tree_of r)) (sym place) (formed parts k q (subst (λ r. IsWellFormed (tree_of r)) is h) inside)

-- a set that satisfies all parts satisfies each
pub part_passes : AndIsEach → (processes : List Locality) (s : ℕ → Bool) (shape : Shape) (parts : Vec Shape Global) (items : List Shape) (k : ℕ) (q : Shape) → shape ≡ And parts → items ≡ parts.items → k < length items → q ≡ get_or items k q → satisfies processes (tree_of shape) s ≡ true → satisfies processes (tree_of q) s ≡ true
part_passes each processes s shape parts items k q is same within at sat = go (satisfies processes (tree_of q) s) refl
  where
    go : (b : Bool) → satisfies processes (tree_of q) s ≡ b → b ≡ true
    go true e = refl
    go false e =
        let place : q ≡ get_or parts.items k q = at ∙ ap (λ qs. get_or qs k q) same in
        let inside : k < length parts.items = subst (λ qs. k < length qs) same within in
        let fails : list_all (λ r. satisfies processes (tree_of r) s) parts.items ≡ false = one_fails (λ r. satisfies processes (tree_of r) s) parts.items k q inside place e in
        let passes : list_all (λ r. satisfies processes (tree_of r) s) parts.items ≡ true = sym (each processes parts s) ∙ ap (λ r. satisfies processes (tree_of r) s) (sym is) ∙ sat in
        let x : ⊥ = cc in absurd x
