-- a list with one place written, read at each place
use Rattle.std.proofs.Common.{◌≡◌, ◌≢◌, ℕ, ◌<◌, List, length, get_or, ap, sym, ◌∙◌, true, false, cond, eqb, inl, inr, arith}
use Rattle.std.specs.Prelude.{slice_set}
use Rattle.std.proofs.lemmas.List.{get_or-set_same, get_or-set_other}
use Rattle.std.proofs.lemmas.Bool.{cases_eq}
use Rattle.std.proofs.lemmas.Bool.Decides.{nat_tests}

same_place : (a b : ℕ) → a ≡ b → eqb a b ≡ true
same_place a b e = grind (arith, nat_tests)

other_place : (a b : ℕ) → a ≢ b → eqb a b ≡ false
other_place a b e = grind (arith, nat_tests)

-- the written place has the new value, which is made of the old one, and each other its own
pub read_written : {A : Type 0} (f : A → A) (xs : List A) (i j : ℕ) (d : A) → i < length xs → get_or (slice_set xs i (f (get_or xs i d))) j d ≡ cond (eqb i j) (f (get_or xs j d)) (get_or xs j d)
read_written f xs i j d within =
    elim (cases_eq i j) [
      | inl same ↦
          ap (λ k. get_or (slice_set xs i (f (get_or xs i d))) k d) (sym same)
          ∙ get_or-set_same xs i (f (get_or xs i d)) d within
          ∙ ap (λ k. f (get_or xs k d)) same
          ∙ ap (λ b. cond b (f (get_or xs j d)) (get_or xs j d)) (sym (same_place i j same))
      | inr other ↦
          get_or-set_other xs i j (f (get_or xs i d)) d (λ e. other (sym e))
          ∙ ap (λ b. cond b (f (get_or xs j d)) (get_or xs j d)) (sym (other_place i j other))
    ]
