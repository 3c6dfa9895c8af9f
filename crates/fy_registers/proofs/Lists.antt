-- members of lists, and pairs of them, by recursion
use Rattle.std.proofs.Common.{suc, zero, inl, inr, ◌⊎◌, ◌≡◌, ◌≢◌, ℕ, ◌<◌, ◌≤◌, Bool, true, false, cond, List, [], ◌∷◌, ◌++◌, length, get_or, refl, sym, ap, subst, ◌∙◌, ◌==◌, eq-eqb, count_by, arith}
use Rattle.std.specs.List.{Contains, AllPairs, filter}
use Rattle.std.proofs.lemmas.List.Elements.{Contains-append_cases}
use Rattle.std.proofs.lemmas.List.Sums.{sum_by-cons, length-filter}

module _ {X : Type 0} where
  pub contains_here : (x : X) (xs : List X) → Contains (x ∷ xs) x
  contains_here x xs = (0, omega arith, refl)

  pub contains_there : (x y : X) (xs : List X) → Contains xs y → Contains (x ∷ xs) y
  contains_there x y xs (k, below, is) = (suc k, omega arith, is)

  pub contains_cases : (x y : X) (xs : List X) → Contains (x ∷ xs) y → (y ≡ x) ⊎ Contains xs y
  contains_cases x y xs (zero, below, is) = inl (sym is)
  contains_cases x y xs (suc k, below, is) = inr (k, omega arith, is)

  pub contains_none : (y : X) → Contains [] y → ⊥
  contains_none y (k, below, is) = omega arith

  module _ (R : X → X → Type 0) where
    pub pairs_head : (x y : X) (xs : List X) → AllPairs R (x ∷ xs) → Contains xs y → R x y
    pairs_head x y xs all (k, below, is) =
        subst (λ z. R x z) is (all 0 (suc k) y (omega arith) (omega arith))

    pub pairs_tail : (x : X) (xs : List X) → AllPairs R (x ∷ xs) → AllPairs R xs
    pairs_tail x xs all i j d less below = all (suc i) (suc j) d (omega arith) (omega arith)

    at_place : (xs : List X) (k : ℕ) (d : X) → k < length xs → Contains xs (get_or xs k d)
    at_place [] k d below = absurd (omega arith)
    at_place (x ∷ xs) zero d below = contains_here x xs
    at_place (x ∷ xs) (suc k) d below = contains_there x _ xs (at_place xs k d (omega arith))

    pub pairs_cons : (x : X) (xs : List X) → ((y : X) → Contains xs y → R x y) → AllPairs R xs
        → AllPairs R (x ∷ xs)
    pairs_cons x xs first all zero zero d less below = absurd (omega arith)
    pairs_cons x xs first all zero (suc j) d less below = first _ (at_place xs j d (omega arith))
    pairs_cons x xs first all (suc i) zero d less below = absurd (omega arith)
    pairs_cons x xs first all (suc i) (suc j) d less below = all i j d (omega arith) (omega arith)

    pub pairs_none : AllPairs R []
    pairs_none i j d less below = absurd (omega arith)

    pub pairs_append : (xs ys : List X) → AllPairs R xs → AllPairs R ys
        → ((x y : X) → Contains xs x → Contains ys y → R x y) → AllPairs R (xs ++ ys)
    pairs_append [] ys in_xs in_ys across = in_ys
    pairs_append (x ∷ xs) ys in_xs in_ys across =
        pairs_cons x (xs ++ ys) (λ y among. go y (Contains-append_cases xs ys y among))
        (pairs_append xs ys (pairs_tail x xs in_xs) in_ys
        (λ a b a_in b_in. across a b (contains_there x a xs a_in) b_in))
      where
        go : (y : X) → Contains xs y ⊎ Contains ys y → R x y
        go y (inl among) = pairs_head x y xs in_xs among
        go y (inr among) = across x y (contains_here x xs) among

  -- ---- what a test keeps
  module _ (p : X → Bool) where
    kept_head : (b : Bool) (x y : X) (xs ys : List X) → Contains (cond b (x ∷ ys) ys) y
        → p x ≡ b → (Contains ys y → Contains xs y × (p y ≡ true)) → Contains (x ∷ xs) y × (p y ≡ true)
    kept_head true x y xs ys among e more = go (contains_cases x y ys among)
      where
        go : (y ≡ x) ⊎ Contains ys y → Contains (x ∷ xs) y × (p y ≡ true)
        go (inl is) = (subst (λ z. Contains (x ∷ xs) z) (sym is) (contains_here x xs), ap p is ∙ e)
        go (inr there) = (contains_there x y xs (more there).0, (more there).1)
    kept_head false x y xs ys among e more = (contains_there x y xs (more among).0, (more among).1)

    pub from_filter : (xs : List X) (y : X) → Contains (filter p xs) y
        → Contains xs y × (p y ≡ true)
    from_filter [] y among = absurd (contains_none y among)
    from_filter (x ∷ xs) y among =
        kept_head (p x) x y xs (filter p xs) among refl (λ there. from_filter xs y there)

    keeps_here : (b : Bool) (x : X) (ys : List X) → b ≡ true → Contains (cond b (x ∷ ys) ys) x
    keeps_here true x ys e = contains_here x ys
    keeps_here false x ys e = absurd (let z : ⊥ = cc in z)

    keeps_there : (b : Bool) (x y : X) (ys : List X) → Contains ys y
        → Contains (cond b (x ∷ ys) ys) y
    keeps_there true x y ys among = contains_there x y ys among
    keeps_there false x y ys among = among

    pub into_filter : (xs : List X) (y : X) → Contains xs y → p y ≡ true → Contains (filter p xs) y
    into_filter [] y among e = absurd (contains_none y among)
    into_filter (x ∷ xs) y among e = go (λ there. into_filter xs y there e) (contains_cases x y xs among)
      where
        go : (Contains xs y → Contains (filter p xs) y) → (y ≡ x) ⊎ Contains xs y
            → Contains (filter p (x ∷ xs)) y
        go more (inl is) = subst (λ z. Contains (filter p (x ∷ xs)) z) (sym is)
            (keeps_here (p x) x (filter p xs) (ap p (sym is) ∙ e))
        go more (inr there) = keeps_there (p x) x y (filter p xs) (more there)

    pairs_kept : (R : X → X → Type 0) (b : Bool) (x : X) (ys : List X)
        → ((y : X) → Contains ys y → R x y) → AllPairs R ys → AllPairs R (cond b (x ∷ ys) ys)
    pairs_kept R true x ys first all = pairs_cons R x ys first all
    pairs_kept R false x ys first all = all

    pub pairs_filter : (R : X → X → Type 0) (xs : List X) → AllPairs R xs
        → AllPairs R (filter p xs)
    pairs_filter R [] all = all
    pairs_filter R (x ∷ xs) all = pairs_kept R (p x) x (filter p xs)
        (λ y among. pairs_head R x y xs all (from_filter xs y among).0)
        (pairs_filter R xs (pairs_tail R x xs all))

  -- every pair of a stronger relation; the members may be known too
  pub pairs_weaker : (R S : X → X → Type 0) (xs : List X)
      → ((x y : X) → Contains xs x → Contains xs y → R x y → S x y) → AllPairs R xs → AllPairs S xs
  pairs_weaker R S [] weaker all = pairs_none S
  pairs_weaker R S (x ∷ xs) weaker all =
      pairs_cons S x xs
      (λ y among. weaker x y (contains_here x xs) (contains_there x y xs among) (pairs_head R x y xs all among))
      (pairs_weaker R S xs
      (λ a b a_in b_in. weaker a b (contains_there x a xs a_in) (contains_there x b xs b_in))
      (pairs_tail R x xs all))

  -- no two members of one number
  pub pairs_apart : (n : X → ℕ) (xs : List X) → ((v : ℕ) → count_by (λ x. n x == v) xs ≤ 1)
      → AllPairs (λ x y. n x ≢ n y) xs
  pairs_apart n [] few = pairs_none (λ x y. n x ≢ n y)
  pairs_apart n (x ∷ xs) few =
      pairs_cons (λ x y. n x ≢ n y) x xs (λ y among same. never y (into_filter (λ z. n z == n x) xs y among (eq-eqb _ _ (sym same))))
      (pairs_apart n xs (λ v. less v))
    where
      less : (v : ℕ) → count_by (λ x. n x == v) xs ≤ 1
      less v = let few_v = few v in let more = sum_by-cons (λ x. cond (n x == v) 1 0) x xs in omega arith

      here : cond (n x == n x) 1 0 ≡ suc zero
      here = rw (eq-eqb (n x) (n x) refl) refl

      none_left : count_by (λ z. n z == n x) xs ≡ 0
      none_left = let few_v = few (n x) in let more = sum_by-cons (λ z. cond (n z == n x) 1 0) x xs in let h : cond (n x == n x) 1 0 ≡ suc zero = here in omega arith

      never : (y : X) → Contains (filter (λ z. n z == n x) xs) y → ⊥
      never y (k, below, is) = let e = length-filter (λ z. n z == n x) xs in let none = none_left in omega arith
