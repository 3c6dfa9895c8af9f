-- what a function that may give nothing gives of members
use Rattle.std.proofs.Common.{inl, inr, ◌⊎◌, ◌≡◌, ◌∙◌, List, [], ◌∷◌, Option, None, Some, refl, sym, ap}
use Rattle.std.specs.List.{Contains, AllPairs, filter_map, cons_option}
use Rattle.fy_registers.proofs.Lists.{contains_here, contains_there, contains_cases, contains_none, pairs_head, pairs_tail, pairs_cons, pairs_none}

module _ {X Y : Type 0} (f : X → Option Y) where
  pub filter_map_from : (xs : List X) (y : Y) → Contains (filter_map f xs) y
      → (x : X) × Contains xs x × (f x ≡ Some y)
  filter_map_from [] y among = absurd (contains_none y among)
  filter_map_from (x ∷ xs) y among = by (f x) refl among (λ there. filter_map_from xs y there)
    where
      deeper : (x' : X) × Contains xs x' × (f x' ≡ Some y) → (x' : X) × Contains (x ∷ xs) x' × (f x' ≡ Some y)
      deeper its = (its.0, contains_there x its.0 xs its.1, its.2)

      by : (o : Option Y) → f x ≡ o → Contains (cons_option o (filter_map f xs)) y
          → (Contains (filter_map f xs) y → (x' : X) × Contains xs x' × (f x' ≡ Some y))
          → (x' : X) × Contains (x ∷ xs) x' × (f x' ≡ Some y)
      by None e among more = deeper (more among)
      by (Some z) e among more = go (contains_cases z y (filter_map f xs) among)
        where
          go : (y ≡ z) ⊎ Contains (filter_map f xs) y → (x' : X) × Contains (x ∷ xs) x' × (f x' ≡ Some y)
          go (inl is) = (x, contains_here x xs, e ∙ ap Some (sym is))
          go (inr there) = deeper (more there)

  pub filter_map_pairs : (R : X → X → Type 0) (S : Y → Y → Type 0)
      → ((a b : X) (y z : Y) → f a ≡ Some y → f b ≡ Some z → R a b → S y z) → (xs : List X)
      → AllPairs R xs → AllPairs S (filter_map f xs)
  filter_map_pairs R S step [] all = pairs_none S
  filter_map_pairs R S step (x ∷ xs) all =
      by (f x) refl (filter_map_pairs R S step xs (pairs_tail R x xs all))
    where
      by : (o : Option Y) → f x ≡ o → AllPairs S (filter_map f xs)
          → AllPairs S (cons_option o (filter_map f xs))
      by None e more = more
      by (Some y) e more = pairs_cons S y (filter_map f xs)
          (λ z among. let its = filter_map_from xs z among in
          step x its.0 y z e its.2 (pairs_head R x its.0 xs all its.1)) more
