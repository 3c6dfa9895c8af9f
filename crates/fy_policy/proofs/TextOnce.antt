-- the text of a policy is the text of no other, whatever follows
use Rattle.std.proofs.Common.{get_or, drop, ◌≡◌, ℕ, List, ◌∷◌, ◌++◌, refl, sym, ap, ◌∙◌, arith}
use Rattle.std.specs.Prelude.{codes}
use Rattle.std.proofs.lemmas.List.{append_assoc}
use Rattle.fy_locality.specs.declared.key.Key.{Key}
use Rattle.fy_locality.specs.declared.key.Key.TheVariants.{Process, Machine, Zone, DataHall, DataCenter}
use Rattle.fy_locality.specs.Key.{key_text}
use Rattle.fy_policy.specs.Tree.{Tree, one, across, every, Parts, none, part}
use Rattle.fy_policy.specs.Text.{numeral, text, parts_text, more_text}
use Rattle.fy_policy.proofs.Numerals.{numeral_then}

-- no key begins another
pub key_once : (k l : Key) (x y : List ℕ) → key_text k ++ x ≡ key_text l ++ y → (k ≡ l) × (x ≡ y)
key_once Process Process x y e = (refl, ap (drop 9) e)
key_once Machine Machine x y e = (refl, ap (drop 9) e)
key_once Zone Zone x y e = (refl, ap (drop 6) e)
key_once DataHall DataHall x y e = (refl, ap (drop 9) e)
key_once DataCenter DataCenter x y e = (refl, ap (drop 4) e)
key_once _ _ x y e = absurd (let first = ap (λ s. get_or s 0 0) e in let second = ap (λ s. get_or s 1 0) e in omega arith)

-- the pieces of a text behind its head, with what follows the text
pub across_pieces : (n : ℕ) (k : Key) (q : Tree) (x : List ℕ) → text (across n k q) ++ x ≡ codes "Across(" ++ (numeral n ++ 44 ∷ (key_text k ++ 44 ∷ (text q ++ 41 ∷ x)))
across_pieces n k q x = simp append_assoc

pub every_pieces : (qs : Parts) (x : List ℕ) → text (every qs) ++ x ≡ codes "And(" ++ (parts_text qs ++ 41 ∷ x)
every_pieces qs x = simp append_assoc

pub more_pieces : (q : Tree) (qs : Parts) (x : List ℕ) → more_text (part q qs) ++ x ≡ 44 ∷ (text q ++ (more_text qs ++ x))
more_pieces q qs x = simp append_assoc

-- no policy begins with a closing bracket
no_close : (t : Tree) (x y : List ℕ) → text t ++ x ≡ 41 ∷ y → ⊥
no_close one x y e = let first = ap (λ s. get_or s 0 0) e in omega arith
no_close (across n k t) x y e = let first = ap (λ s. get_or s 0 0) e in omega arith
no_close (every ts) x y e = let first = ap (λ s. get_or s 0 0) e in omega arith

mutual
  pub text_once : (t u : Tree) (x y : List ℕ) → text t ++ x ≡ text u ++ y → (t ≡ u) × (x ≡ y)
  text_once one one x y e = (refl, ap (drop 5) e)
  text_once one (across m l u) x y e = absurd (let first = ap (λ s. get_or s 0 0) e in let second = ap (λ s. get_or s 1 0) e in omega arith)
  text_once one (every us) x y e = absurd (let first = ap (λ s. get_or s 0 0) e in let second = ap (λ s. get_or s 1 0) e in omega arith)
  text_once (across n k t) one x y e = absurd (let first = ap (λ s. get_or s 0 0) e in let second = ap (λ s. get_or s 1 0) e in omega arith)
  text_once (across n k t) (across m l u) x y e =
      let whole = sym (across_pieces n k t x) ∙ e ∙ across_pieces m l u y in
      let behind : numeral n ++ 44 ∷ (key_text k ++ 44 ∷ (text t ++ 41 ∷ x)) ≡ numeral m ++ 44 ∷ (key_text l ++ 44 ∷ (text u ++ 41 ∷ y)) = ap (drop 7) whole in
      let counts = numeral_then n m _ _ behind in
      let keys = key_once k l _ _ counts.1 in
      let below = text_once t u (41 ∷ x) (41 ∷ y) (ap (drop 1) keys.1) in
      let rest : x ≡ y = ap (drop 1) below.1 in
      (λ i. across (counts.0 i) (keys.0 i) (below.0 i), rest)
  text_once (across n k t) (every us) x y e = absurd (let first = ap (λ s. get_or s 0 0) e in let second = ap (λ s. get_or s 1 0) e in omega arith)
  text_once (every ts) one x y e = absurd (let first = ap (λ s. get_or s 0 0) e in let second = ap (λ s. get_or s 1 0) e in omega arith)
  text_once (every ts) (across m l u) x y e = absurd (let first = ap (λ s. get_or s 0 0) e in let second = ap (λ s. get_or s 1 0) e in omega arith)
  text_once (every ts) (every us) x y e =
      let whole = sym (every_pieces ts x) ∙ e ∙ every_pieces us y in
      let behind : parts_text ts ++ 41 ∷ x ≡ parts_text us ++ 41 ∷ y = ap (drop 4) whole in
      let below = parts_once ts us x y behind in
      (ap every below.0, below.1)

  parts_once : (ts us : Parts) (x y : List ℕ) → parts_text ts ++ 41 ∷ x ≡ parts_text us ++ 41 ∷ y → (ts ≡ us) × (x ≡ y)
  parts_once none none x y e = (refl, ap (drop 1) e)
  parts_once none (part u us) x y e = absurd (no_close u (more_text us ++ 41 ∷ y) x (sym (append_assoc (text u) (more_text us) (41 ∷ y)) ∙ sym e))
  parts_once (part t ts) none x y e = absurd (no_close t (more_text ts ++ 41 ∷ x) y (sym (append_assoc (text t) (more_text ts) (41 ∷ x)) ∙ e))
  parts_once (part t ts) (part u us) x y e =
      let first = text_once t u (more_text ts ++ 41 ∷ x) (more_text us ++ 41 ∷ y) (sym (append_assoc (text t) (more_text ts) (41 ∷ x)) ∙ e ∙ append_assoc (text u) (more_text us) (41 ∷ y)) in
      let later = more_once ts us x y first.1 in
      (λ i. part (first.0 i) (later.0 i), later.1)

  more_once : (ts us : Parts) (x y : List ℕ) → more_text ts ++ 41 ∷ x ≡ more_text us ++ 41 ∷ y → (ts ≡ us) × (x ≡ y)
  more_once none none x y e = (refl, ap (drop 1) e)
  more_once none (part u us) x y e = absurd (let first = ap (λ s. get_or s 0 0) e in let second = ap (λ s. get_or s 1 0) e in omega arith)
  more_once (part t ts) none x y e = absurd (let first = ap (λ s. get_or s 0 0) e in let second = ap (λ s. get_or s 1 0) e in omega arith)
  more_once (part t ts) (part u us) x y e =
      let whole = sym (more_pieces t ts (41 ∷ x)) ∙ e ∙ more_pieces u us (41 ∷ y) in
      let behind : text t ++ (more_text ts ++ 41 ∷ x) ≡ text u ++ (more_text us ++ 41 ∷ y) = ap (drop 1) whole in
      let first = text_once t u (more_text ts ++ 41 ∷ x) (more_text us ++ 41 ∷ y) behind in
      let later = more_once ts us x y first.1 in
      (λ i. part (first.0 i) (later.0 i), later.1)
