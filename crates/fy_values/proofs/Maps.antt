-- members and pairs of a list whose elements were all changed
use Rattle.std.proofs.Common.{zero, suc, inl, inr, ◌⊎◌, ◌≡◌, All, arith, List, [], ◌∷◌, map, sym, subst}
use Rattle.std.specs.List.{Contains, AllPairs}
use Rattle.fy_registers.proofs.Lists.{contains_here, contains_there, contains_cases, contains_none, pairs_head, pairs_tail, pairs_cons, pairs_none}

module _ {A B : Type 0} (f : A → B) where
  pub map_into : (xs : List A) (x : A) → Contains xs x → Contains (map f xs) (f x)
  map_into [] x among = absurd (contains_none x among)
  map_into (y ∷ xs) x among = go (λ there. map_into xs x there) (contains_cases y x xs among)
    where
      go : (Contains xs x → Contains (map f xs) (f x)) → (x ≡ y) ⊎ Contains xs x
          → Contains (map f (y ∷ xs)) (f x)
      go more (inl is) = subst (λ z. Contains (map f (y ∷ xs)) (f z)) (sym is)
          (contains_here (f y) (map f xs))
      go more (inr there) = contains_there (f y) (f x) (map f xs) (more there)

  pub map_from : (xs : List A) (z : B) → Contains (map f xs) z
      → (x : A) × Contains xs x × (f x ≡ z)
  map_from [] z among = absurd (contains_none z among)
  map_from (y ∷ xs) z among = go (λ there. map_from xs z there) (contains_cases (f y) z (map f xs) among)
    where
      go : (Contains (map f xs) z → (x : A) × Contains xs x × (f x ≡ z))
          → (z ≡ f y) ⊎ Contains (map f xs) z → (x : A) × Contains (y ∷ xs) x × (f x ≡ z)
      go more (inl is) = (y, contains_here y xs, sym is)
      go more (inr there) =
          let its = more there in (its.0, contains_there y its.0 xs its.1, its.2)

  module _ (R : B → B → Type 0) where
    abbrev R_by : A → A → Type 0
    R_by a b = R (f a) (f b)

    pub pairs_map : (xs : List A) → AllPairs R_by xs → AllPairs R (map f xs)
    pairs_map [] all = pairs_none R
    pairs_map (x ∷ xs) all = pairs_cons R (f x) (map f xs)
        (λ z among. let its = map_from xs z among in
        subst (λ q. R (f x) q) its.2 (pairs_head R_by x its.0 xs all its.1))
        (pairs_map xs (pairs_tail R_by x xs all))

    pub pairs_unmap : (xs : List A) → AllPairs R (map f xs) → AllPairs R_by xs
    pairs_unmap [] all = pairs_none R_by
    pairs_unmap (x ∷ xs) all = pairs_cons R_by x xs
        (λ y among. pairs_head R (f x) (f y) (map f xs) all (map_into xs y among))
        (pairs_unmap xs (pairs_tail R (f x) (map f xs) all))

  pub All-unmap : (P : B → Type 0) (xs : List A) → All P (map f xs) → All (λ x. P (f x)) xs
  All-unmap P [] all k d below = absurd (omega arith)
  All-unmap P (x ∷ xs) all zero d below = all zero (f d) (omega arith)
  All-unmap P (x ∷ xs) all (suc k) d below =
      All-unmap P xs (λ j e less. all (suc j) e (omega arith)) k d (omega arith)
