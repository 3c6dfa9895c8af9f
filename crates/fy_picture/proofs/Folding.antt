-- each two elements of a list become one, the second
use Rattle.std.proofs.Common.{◌≡◌, ◌∙◌, ◌+◌, ◌*◌, ◌<◌, ◌≤◌, ◌==◌, ℕ, zero, suc, inl, inr, Some, List, [], ◌∷◌, length, length-set, get_or, set, slice_get, refl, sym, ap, subst, arith, if◌then◌else◌}
use Rattle.std.specs.List.{swap}
use Rattle.std.proofs.lemmas.Bool.{cases_lt, eq-eqb, ne_eqb}
use Rattle.std.proofs.lemmas.List.Edits.{swap_is, length-swap}
use Rattle.std.proofs.lemmas.Option.{slice_get_past, slice_get-get_or}
use Rattle.fy_picture.proofs.Acking.{after_set}

-- an element that is there
pub some_at : {X : Type 0} (xs : List X) (k : ℕ) → k < length xs → (x : X) × (slice_get xs k ≡ Some x)
some_at [] k l = absurd (omega arith)
some_at (x ∷ xs) zero l = (x, refl)
some_at (x ∷ xs) (suc k) l = some_at xs k (omega arith)

module _ {X : Type 0} (xs : List X) (i j : ℕ) (d : X) (i_in : i < length xs) (j_in : j < length xs) where
  abbrev once : List X
  once = set xs i (get_or xs j d)

  once_long : length once ≡ length xs
  once_long = length-set xs i (get_or xs j d)

  twice : (p : ℕ) → p < length xs → slice_get (swap xs i j) p ≡ (if p == j then Some (get_or xs i d) else (if p == i then Some (get_or xs j d) else slice_get xs p))
  twice p l =
      ap (λ ys. slice_get ys p) (sym (swap_is xs i j d i_in j_in))
      ∙ after_set once j p (get_or xs i d) d (subst (λ n. j < n) (sym once_long) j_in) (subst (λ n. p < n) (sym once_long) l)
      ∙ ap (λ o. if p == j then Some (get_or xs i d) else o) (after_set xs i p (get_or xs j d) d i_in l)

  -- what stands at the first place
  pub swapped_own : (i ≡ j → ⊥) → slice_get (swap xs i j) i ≡ slice_get xs j
  swapped_own apart =
      twice i i_in
      ∙ ap (λ b. if b then Some (get_or xs i d) else (if i == i then Some (get_or xs j d) else slice_get xs i)) (ne_eqb i j apart)
      ∙ ap (λ b. if b then Some (get_or xs j d) else slice_get xs i) (eq-eqb i i refl)
      ∙ sym (slice_get-get_or xs j d j_in)

  -- and at another
  pub swapped_other : (p : ℕ) → p < length xs → (p ≡ i → ⊥) → (p ≡ j → ⊥) → slice_get (swap xs i j) p ≡ slice_get xs p
  swapped_other p l not_i not_j =
      twice p l
      ∙ ap (λ b. if b then Some (get_or xs i d) else (if p == i then Some (get_or xs j d) else slice_get xs p)) (ne_eqb p j not_j)
      ∙ ap (λ b. if b then Some (get_or xs j d) else slice_get xs p) (ne_eqb p i not_i)

-- the seconds of so many pairs stand in front, and behind the pairs nothing has moved
pub record SecondsInFront {X : Type 0} (old : List X) (pairs : ℕ) (new : List X) : Type 0 where
  pub count : length new ≡ length old
  pub front : (k : ℕ) → k < pairs → slice_get new k ≡ slice_get old (2 * k + 1)
  pub rest : (j : ℕ) → 2 * pairs ≤ j → slice_get new j ≡ slice_get old j

pub none_in_front : {X : Type 0} (xs : List X) → SecondsInFront xs 0 xs
none_in_front xs = record { count = refl; front = λ k l. absurd (omega arith); rest = λ j l. refl }

pub one_in_front : {X : Type 0} (old now : List X) (i : ℕ) → 2 * i + 1 < length now → SecondsInFront old i now → SecondsInFront old (i + 1) (swap now i (2 * i + 1))
one_in_front {X} old now i l so_far =
    let d : X = (some_at now i (omega arith)).0 in
    let i_in : i < length now = omega arith in
    record {
      count = length-swap now i (2 * i + 1) ∙ so_far.count;
      front = λ k less. elim (cases_lt k i) [
        | inl below ↦
            swapped_other now i (2 * i + 1) d i_in l k (omega arith) (λ e. omega arith) (λ e. omega arith)
            ∙ so_far.front k below
        | inr above ↦
            let own : k ≡ i = omega arith in
            ap (slice_get (swap now i (2 * i + 1))) own
            ∙ swapped_own now i (2 * i + 1) d i_in l (λ e. omega arith)
            ∙ so_far.rest (2 * i + 1) (omega arith) ∙ ap (λ m. slice_get old (2 * m + 1)) (sym own)
      ];
      rest = λ j more. elim (cases_lt j (length now)) [
        | inl within ↦
            swapped_other now i (2 * i + 1) d i_in l j within (λ e. omega arith) (λ e. omega arith)
            ∙ so_far.rest j (omega arith)
        | inr past ↦
            slice_get_past (swap now i (2 * i + 1)) j (let n = length-swap now i (2 * i + 1) in omega arith)
            ∙ sym (slice_get_past now j past) ∙ so_far.rest j (omega arith)
      ];
    }
