-- a tree is stored as a list of numbers: this stands here since the models of what holds policies
-- cite the code
use Rattle.std.specs.Prelude.{◌≡◌, ℕ, List, [], ◌∷◌, ◌++◌}
use Rattle.std.specs.Coded.{Coded, coded_list, coded_ℕ}
use Rattle.std.proofs.Common.{refl, sym, ap, ◌∙◌, arith}
use Rattle.std.proofs.lemmas.List.{append_assoc}
use base.Stored.{coded_via}
use Rattle.fy_locality.specs.declared.key.Key.{Key}
use Rattle.fy_locality.specs.declared.key.Key.TheVariants.{Process, Machine, Zone, DataHall, DataCenter}
use Rattle.fy_policy.specs.Tree.{Tree, one, across, every, Parts, none, part}

-- the number that stands for a key
abbrev pub key_number : Key → ℕ
key_number Process = 0
key_number Machine = 1
key_number Zone = 2
key_number DataHall = 3
key_number DataCenter = 4

same_key : (k l : Key) → key_number k ≡ key_number l → k ≡ l
same_key Process Process e = refl
same_key Machine Machine e = refl
same_key Zone Zone e = refl
same_key DataHall DataHall e = refl
same_key DataCenter DataCenter e = refl
same_key _ _ e = absurd (omega arith)

-- a tree as a list of numbers
abbrev mutual
  pub stored : Tree → List ℕ
  stored one = 0 ∷ []
  stored (across n key q) = 1 ∷ n ∷ key_number key ∷ stored q
  stored (every qs) = 2 ∷ all_stored qs

  -- the numbers of all parts, each behind a 1, and a 0 at the end
  pub all_stored : Parts → List ℕ
  all_stored none = 0 ∷ []
  all_stored (part q qs) = 1 ∷ (stored q ++ all_stored qs)

mutual
  pub stored_once : (t u : Tree) (x y : List ℕ) → stored t ++ x ≡ stored u ++ y → (t ≡ u) × (x ≡ y)
  stored_once one one x y e = (refl, let h : x ≡ y = cc in h)
  stored_once one (across m l u) x y e = absurd (let h : ⊥ = cc in h)
  stored_once one (every us) x y e = absurd (let h : ⊥ = cc in h)
  stored_once (across n k t) one x y e = absurd (let h : ⊥ = cc in h)
  stored_once (across n k t) (across m l u) x y e =
      let counts : n ≡ m = cc in
      let keys : key_number k ≡ key_number l = cc in
      let rest : stored t ++ x ≡ stored u ++ y = cc in
      let below = stored_once t u x y rest in
      (λ i. across (counts i) (same_key k l keys i) (below.0 i), below.1)
  stored_once (across n k t) (every us) x y e = absurd (let h : ⊥ = cc in h)
  stored_once (every ts) one x y e = absurd (let h : ⊥ = cc in h)
  stored_once (every ts) (across m l u) x y e = absurd (let h : ⊥ = cc in h)
  stored_once (every ts) (every us) x y e =
      let rest : all_stored ts ++ x ≡ all_stored us ++ y = cc in
      let below = all_stored_once ts us x y rest in
      (ap every below.0, below.1)

  all_stored_once :
      (ts us : Parts) (x y : List ℕ)
      → all_stored ts ++ x ≡ all_stored us ++ y → (ts ≡ us) × (x ≡ y)
  all_stored_once none none x y e = (refl, let h : x ≡ y = cc in h)
  all_stored_once none (part u us) x y e = absurd (let h : ⊥ = cc in h)
  all_stored_once (part t ts) none x y e = absurd (let h : ⊥ = cc in h)
  all_stored_once (part t ts) (part u us) x y e =
      let rest : (stored t ++ all_stored ts) ++ x ≡ (stored u ++ all_stored us) ++ y = cc in
      let first = stored_once t u (all_stored ts ++ x) (all_stored us ++ y)
      (sym (append_assoc (stored t) (all_stored ts) x)
      ∙ rest ∙ append_assoc (stored u) (all_stored us) y) in
      let later = all_stored_once ts us x y first.1 in
      (λ i. part (first.0 i) (later.0 i), later.1)

-- the code of a tree
abbrev pub tree_code : Coded Tree
tree_code =
    coded_via (coded_list coded_ℕ) stored (λ t u e.
    (stored_once t u [] [] (ap (λ xs. xs ++ []) e)).0)
