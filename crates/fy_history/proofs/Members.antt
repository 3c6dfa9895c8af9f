-- members of lists, and pairs of them
use Rattle.std.proofs.Common.{zero, suc, inl, inr, ◌⊎◌, ◌≡◌, ◌∙◌, ℕ, ◌<◌, Bool, true, false, ◌||◌, List, [], ◌∷◌, ◌++◌, length, get_or, map, set, Some, slice_get, refl, sym, ap, subst, arith}
use Rattle.std.specs.List.{Contains, AllPairs, list_any}
use Rattle.std.proofs.lemmas.List.Elements.{Contains-append_cases}

module _ {X : Type 0} where
  pub contains_here : (x : X) (xs : List X) → Contains (x ∷ xs) x
  contains_here x xs = (0, omega arith, refl)

  pub contains_there : (x y : X) (xs : List X) → Contains xs y → Contains (x ∷ xs) y
  contains_there x y xs (k, below, is) = (suc k, omega arith, is)

  pub contains_cases : (x y : X) (xs : List X) → Contains (x ∷ xs) y → (y ≡ x) ⊎ Contains xs y
  contains_cases x y xs (zero, below, is) = inl (sym is)
  contains_cases x y xs (suc k, below, is) = inr (k, omega arith, is)

  pub contains_none : (y : X) → Contains [] y → ⊥
  contains_none y (k, below, is) = omega arith

  module _ (R : X → X → Type 0) where
    pub pairs_head : (x y : X) (xs : List X) → AllPairs R (x ∷ xs) → Contains xs y → R x y
    pairs_head x y xs all (k, below, is) =
        subst (λ z. R x z) is (all 0 (suc k) y (omega arith) (omega arith))

    pub pairs_tail : (x : X) (xs : List X) → AllPairs R (x ∷ xs) → AllPairs R xs
    pairs_tail x xs all i j d less below = all (suc i) (suc j) d (omega arith) (omega arith)

    at_place : (xs : List X) (k : ℕ) (d : X) → k < length xs → Contains xs (get_or xs k d)
    at_place [] k d below = absurd (omega arith)
    at_place (x ∷ xs) zero d below = contains_here x xs
    at_place (x ∷ xs) (suc k) d below = contains_there x _ xs (at_place xs k d (omega arith))

    pub pairs_cons : (x : X) (xs : List X) → ((y : X) → Contains xs y → R x y) → AllPairs R xs
        → AllPairs R (x ∷ xs)
    pairs_cons x xs first all zero zero d less below = absurd (omega arith)
    pairs_cons x xs first all zero (suc j) d less below = first _ (at_place xs j d (omega arith))
    pairs_cons x xs first all (suc i) zero d less below = absurd (omega arith)
    pairs_cons x xs first all (suc i) (suc j) d less below = all i j d (omega arith) (omega arith)

    pub pairs_none : AllPairs R []
    pairs_none i j d less below = absurd (omega arith)

    pub pairs_append : (xs ys : List X) → AllPairs R xs → AllPairs R ys
        → ((x y : X) → Contains xs x → Contains ys y → R x y) → AllPairs R (xs ++ ys)
    pairs_append [] ys in_xs in_ys across = in_ys
    pairs_append (x ∷ xs) ys in_xs in_ys across =
        pairs_cons x (xs ++ ys) (λ y among. go y (Contains-append_cases xs ys y among))
        (pairs_append xs ys (pairs_tail x xs in_xs) in_ys
        (λ a b a_in b_in. across a b (contains_there x a xs a_in) b_in))
      where
        go : (y : X) → Contains xs y ⊎ Contains ys y → R x y
        go y (inl among) = pairs_head x y xs in_xs among
        go y (inr among) = across x y (contains_here x xs) among

-- ---- lists whose elements were all changed
module _ {A B : Type 0} (f : A → B) where
  pub map_into : (xs : List A) (x : A) → Contains xs x → Contains (map f xs) (f x)
  map_into [] x among = absurd (contains_none x among)
  map_into (y ∷ xs) x among = go (λ there. map_into xs x there) (contains_cases y x xs among)
    where
      go : (Contains xs x → Contains (map f xs) (f x)) → (x ≡ y) ⊎ Contains xs x
          → Contains (map f (y ∷ xs)) (f x)
      go more (inl is) = subst (λ z. Contains (map f (y ∷ xs)) (f z)) (sym is)
          (contains_here (f y) (map f xs))
      go more (inr there) = contains_there (f y) (f x) (map f xs) (more there)

  pub map_from : (xs : List A) (z : B) → Contains (map f xs) z
      → (x : A) × Contains xs x × (f x ≡ z)
  map_from [] z among = absurd (contains_none z among)
  map_from (y ∷ xs) z among = go (λ there. map_from xs z there) (contains_cases (f y) z (map f xs) among)
    where
      go : (Contains (map f xs) z → (x : A) × Contains xs x × (f x ≡ z))
          → (z ≡ f y) ⊎ Contains (map f xs) z → (x : A) × Contains (y ∷ xs) x × (f x ≡ z)
      go more (inl is) = (y, contains_here y xs, sym is)
      go more (inr there) =
          let its = more there in (its.0, contains_there y its.0 xs its.1, its.2)

  module _ (R : B → B → Type 0) where
    abbrev R_by : A → A → Type 0
    R_by a b = R (f a) (f b)

    pub pairs_map : (xs : List A) → AllPairs R_by xs → AllPairs R (map f xs)
    pairs_map [] all = pairs_none R
    pairs_map (x ∷ xs) all = pairs_cons R (f x) (map f xs)
        (λ z among. let its = map_from xs z among in
        subst (λ q. R (f x) q) its.2 (pairs_head R_by x its.0 xs all its.1))
        (pairs_map xs (pairs_tail R_by x xs all))

    pub pairs_unmap : (xs : List A) → AllPairs R (map f xs) → AllPairs R_by xs
    pairs_unmap [] all = pairs_none R_by
    pairs_unmap (x ∷ xs) all = pairs_cons R_by x xs
        (λ y among. pairs_head R (f x) (f y) (map f xs) all (map_into xs y among))
        (pairs_unmap xs (pairs_tail R (f x) (map f xs) all))

-- ---- tests and writes
or_left : (a b : Bool) → a ≡ true → (a || b) ≡ true
or_left true b e = refl
or_left false b e = absurd (cc)

or_right : (a b : Bool) → b ≡ true → (a || b) ≡ true
or_right true b e = refl
or_right false b e = e

module _ {X : Type 0} where
  -- a member that passes a test
  pub any_of : (p : X → Bool) (xs : List X) (x : X) → Contains xs x → p x ≡ true
      → list_any p xs ≡ true
  any_of p [] x among e = absurd (contains_none x among)
  any_of p (y ∷ xs) x among e = go (λ there. any_of p xs x there e) (contains_cases y x xs among)
    where
      go : (Contains xs x → list_any p xs ≡ true) → (x ≡ y) ⊎ Contains xs x
          → list_any p (y ∷ xs) ≡ true
      go more (inl is) = or_left (p y) (list_any p xs) (ap p (sym is) ∙ e)
      go more (inr there) = or_right (p y) (list_any p xs) (more there)

  -- what stands at a place
  pub got : (xs : List X) (k : ℕ) (x : X) → slice_get xs k ≡ Some x → Contains xs x
  got [] k x e = absurd (cc)
  got (y ∷ xs) zero x e =
      let is : y ≡ x = cc in subst (λ z. Contains (y ∷ xs) z) is (contains_here y xs)
  got (y ∷ xs) (suc k) x e = contains_there y x xs (got xs k x e)

  -- a member after a write
  pub set_from : (xs : List X) (k : ℕ) (x y : X) → Contains (set xs k x) y
      → (y ≡ x) ⊎ Contains xs y
  set_from [] k x y among = inr among
  set_from (z ∷ xs) zero x y among = go (contains_cases x y xs among)
    where
      go : (y ≡ x) ⊎ Contains xs y → (y ≡ x) ⊎ Contains (z ∷ xs) y
      go (inl is) = inl is
      go (inr there) = inr (contains_there z y xs there)
  set_from (z ∷ xs) (suc k) x y among =
      go (λ there. set_from xs k x y there) (contains_cases z y (set xs k x) among)
    where
      deeper : (y ≡ x) ⊎ Contains xs y → (y ≡ x) ⊎ Contains (z ∷ xs) y
      deeper (inl is) = inl is
      deeper (inr there) = inr (contains_there z y xs there)

      go : (Contains (set xs k x) y → (y ≡ x) ⊎ Contains xs y) → (y ≡ z) ⊎ Contains (set xs k x) y
          → (y ≡ x) ⊎ Contains (z ∷ xs) y
      go more (inl is) = inr (subst (λ q. Contains (z ∷ xs) q) (sym is) (contains_here z xs))
      go more (inr there) = deeper (more there)

  -- pairs of what is left alone by a write
  module _ {V : Type 0} (view : X → V) where
    same_views : (xs : List X) (k : ℕ) (x was : X) → slice_get xs k ≡ Some was → view x ≡ view was
        → map view (set xs k x) ≡ map view xs
    same_views [] k x was e same = refl
    same_views (y ∷ xs) zero x was e same =
        let is : y ≡ was = cc in ap (λ v. v ∷ map view xs) (same ∙ ap view (sym is))
    same_views (y ∷ xs) (suc k) x was e same = ap (λ vs. view y ∷ vs) (same_views xs k x was e same)

    pub pairs_set : (R : V → V → Type 0) (xs : List X) (k : ℕ) (x was : X)
        → slice_get xs k ≡ Some was → view x ≡ view was
        → AllPairs (λ a b. R (view a) (view b)) xs
        → AllPairs (λ a b. R (view a) (view b)) (set xs k x)
    pairs_set R xs k x was e same all =
        pairs_unmap view R (set xs k x)
        (subst (λ vs. AllPairs R vs) (sym (same_views xs k x was e same)) (pairs_map view R xs all))

  -- of two members of which no pair is so, if it is so of them, are one
  pub one_member : (P : X → X → Type 0) (xs : List X) → AllPairs (λ a b. P a b → ⊥) xs
      → (a b : X) → Contains xs a → Contains xs b → P a b → P b a → a ≡ b
  one_member P [] all a b a_in b_in ab ba = absurd (contains_none a a_in)
  one_member P (x ∷ xs) all a b a_in b_in ab ba =
      go (λ a_there b_there. one_member P xs (pairs_tail (λ c d. P c d → ⊥) x xs all) a b a_there b_there ab ba)
      (contains_cases x a xs a_in) (contains_cases x b xs b_in)
    where
      go : (Contains xs a → Contains xs b → a ≡ b) → (a ≡ x) ⊎ Contains xs a
          → (b ≡ x) ⊎ Contains xs b → a ≡ b
      go more (inl a_is) (inl b_is) = a_is ∙ sym b_is
      go more (inl a_is) (inr b_there) =
          absurd (pairs_head (λ c d. P c d → ⊥) x b xs all b_there (subst (λ c. P c b) a_is ab))
      go more (inr a_there) (inl b_is) =
          absurd (pairs_head (λ c d. P c d → ⊥) x a xs all a_there (subst (λ c. P c a) b_is ba))
      go more (inr a_there) (inr b_there) = more a_there b_there
