-- kill orders by their parts
use Rattle.std.proofs.Common.{◌≡◌, ℕ, ◌≤◌, subst}
use Rattle.std.proofs.Math.Bridge.{le_prop}
use Rattle.fy_kinds.specs.declared.kind.Kind.{Kind}
use Rattle.fy_kinds.specs.Kinds.{rank}
use Rattle.fy_kinds.specs.declared.order.Target.{Target}
use Rattle.fy_kinds.specs.Orders.{Order}

-- the order of these parts
abbrev order_of : Target → (k f : Kind) → ℕ → rank f ≤ rank k → Order
order_of t k f n o = record { target = t; kind = k; floor = f; tear = n; ordered = o }

-- orders of the same parts are the same, whatever shows that the floor isn't above the kind
pub same_parts : (a : Order) (t : Target) (k f : Kind) (n : ℕ) (o : rank f ≤ rank k) → a.target ≡ t → a.kind ≡ k → a.floor ≡ f → a.tear ≡ n → a ≡ order_of t k f n o
same_parts a t k f n o et ek ef en =
    subst (λ (f : Kind). (o : rank f ≤ rank k) → a ≡ order_of t k f n o) ef
    (subst (λ (k : Kind). (o : rank a.floor ≤ rank k) → a ≡ order_of t k a.floor n o) ek
    (λ o'. λ i. order_of (et i) a.kind a.floor (en i) (le_prop a.ordered o' i)))
    o
