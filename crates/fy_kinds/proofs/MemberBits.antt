-- sets of deeds by their bits
use Rattle.std.proofs.Common.{suc, ◌≡◌, ℕ, ◌-◌, ◌^◌, ◌<◌, Bool, true, false, ◌&&◌, ◌||◌, not, cond, min, max, eqb, List, [], ◌∷◌, length, refl, sym, ap, ◌∙◌, arith, true≢false}
use Rattle.std.specs.Prelude.{◌==◌, nat_eq, codes, None, Some, option_map, bit_and, bit_or}
use Rattle.std.specs.Int.{bit_at, w8}
use Rattle.std.specs.Cmp.Lexicographic.{pointwise}
use Rattle.std.proofs.lemmas.Nat.Bits.{bit_at_and, bit_at_or, bit_at_not, bit_at-lt}
use Rattle.std.proofs.lemmas.Nat.{or_lt, and_le_l}
use Rattle.std.proofs.lemmas.Bool.Decides.{nat_tests}
use Rattle.bitflags.specs.Sets.{without, find_row, find_name}
use Rattle.fy_kinds.specs.declared.kind.Kind.TheVariants.{RebootProcess, Reboot, RebootAndDelete, KillInstantly}
use Rattle.fy_kinds.specs.Kinds.{Striking, Clogging, only, in_either, in_each, in_first_alone, has_all, has_some, set_named, table, set_of_bits}
use Rattle.fy_kinds.specs.BitsBack.{all_below, each_below}

-- ---- one bit
min_test : (a b : ℕ) → a < 2 → b < 2 → eqb (min a b) 1 ≡ (eqb a 1 && eqb b 1)
min_test a b h k = grind (arith, nat_tests)

max_test : (a b : ℕ) → a < 2 → b < 2 → eqb (max a b) 1 ≡ (eqb a 1 || eqb b 1)
max_test a b h k = grind (arith, nat_tests)

not_test : (b : ℕ) → b < 2 → eqb (1 - b) 1 ≡ not (eqb b 1)
not_test b h = grind (arith, nat_tests)

or_at : (a b i : ℕ) → eqb (bit_at (bit_or a b) i) 1 ≡ (eqb (bit_at a i) 1 || eqb (bit_at b i) 1)
or_at a b i = ap (λ n. eqb n 1) (bit_at_or a b i) ∙ max_test _ _ (bit_at-lt a i) (bit_at-lt b i)

and_at : (a b i : ℕ) → eqb (bit_at (bit_and a b) i) 1 ≡ (eqb (bit_at a i) 1 && eqb (bit_at b i) 1)
and_at a b i = ap (λ n. eqb n 1) (bit_at_and a b i) ∙ min_test _ _ (bit_at-lt a i) (bit_at-lt b i)

without_at : (a b i : ℕ) → b < 256 → i < 8 → eqb (bit_at (without 8 a b) i) 1 ≡ (eqb (bit_at a i) 1 && not (eqb (bit_at b i) 1))
without_at a b i small within =
    and_at a (2 ^ 8 - 1 - b) i
    ∙ ap (λ t. eqb (bit_at a i) 1 && t) (ap (λ n. eqb n 1) (bit_at_not w8 b i small within) ∙ not_test _ (bit_at-lt b i))

-- ---- the operations
pub or_is : (a b : ℕ) → set_of_bits (bit_or a b) ≡ in_either (set_of_bits a) (set_of_bits b)
or_is a b = λ i. record {
  reboot_process = or_at a b 0 i;
  reboot = or_at a b 1 i;
  reboot_and_delete = or_at a b 2 i;
  kill_instantly = or_at a b 3 i;
  clog = or_at a b 4 i;
}

pub and_is : (a b : ℕ) → set_of_bits (bit_and a b) ≡ in_each (set_of_bits a) (set_of_bits b)
and_is a b = λ i. record {
  reboot_process = and_at a b 0 i;
  reboot = and_at a b 1 i;
  reboot_and_delete = and_at a b 2 i;
  kill_instantly = and_at a b 3 i;
  clog = and_at a b 4 i;
}

pub without_is : (a b : ℕ) → b < 32 → set_of_bits (without 8 a b) ≡ in_first_alone (set_of_bits a) (set_of_bits b)
without_is a b small =
    let fits : b < 256 = omega arith in
    λ i. record {
      reboot_process = without_at a b 0 fits (omega arith) i;
      reboot = without_at a b 1 fits (omega arith) i;
      reboot_and_delete = without_at a b 2 fits (omega arith) i;
      kill_instantly = without_at a b 3 fits (omega arith) i;
      clog = without_at a b 4 fits (omega arith) i;
    }

pub or_small : (a b : ℕ) → a < 32 → b < 32 → bit_or a b < 32
or_small a b h k = or_lt 5 a b h k

pub and_small : (a b : ℕ) → a < 32 → bit_and a b < 32
and_small a b h = omega (arith, and_le_l a b)

-- ---- the tests, on every two sets
alike : Bool → Bool → Bool
alike true b = b
alike false b = not b

same : (a b : Bool) → alike a b ≡ true → a ≡ b
unfolding alike
same true b e = sym e
same false true e = absurd (true≢false (sym e))
same false false e = refl

abbrev every_two : (ℕ → ℕ → Bool) → Bool
every_two test = all_below (λ a. all_below (test a) 32) 32

each_two : (test : ℕ → ℕ → Bool) → every_two test ≡ true → (a b : ℕ) → a < 32 → b < 32 → test a b ≡ true
each_two test e a b h k = each_below (test a) 32 (each_below (λ a. all_below (test a) 32) 32 e a h) b k

pub contains_is : (a b : ℕ) → a < 32 → b < 32 → (bit_and a b == b) ≡ has_all (set_of_bits a) (set_of_bits b)
unfolding alike
contains_is a b h k = same _ _ (each_two (λ a b. alike (bit_and a b == b) (has_all (set_of_bits a) (set_of_bits b))) refl a b h k)

pub intersects_is : (a b : ℕ) → a < 32 → b < 32 → not (bit_and a b == 0) ≡ has_some (set_of_bits a) (set_of_bits b)
unfolding alike
intersects_is a b h k = same _ _ (each_two (λ a b. alike (not (bit_and a b == 0)) (has_some (set_of_bits a) (set_of_bits b))) refl a b h k)

-- ---- names
picked : (p q r s t : Bool)
    → option_map set_of_bits (cond p (Some 1) (cond q (Some 2) (cond r (Some 4) (cond s (Some 8) (cond t (Some 16) None)))))
    ≡ option_map only (cond p (Some (Striking RebootProcess)) (cond q (Some (Striking Reboot)) (cond r (Some (Striking RebootAndDelete)) (cond s (Some (Striking KillInstantly)) (cond t (Some Clogging) None)))))
picked true q r s t = refl
picked false true r s t = refl
picked false false true s t = refl
picked false false false true t = refl
picked false false false false true = refl
picked false false false false false = refl

not_empty : (n : ℕ) → eqb (suc n) 0 ≡ false
not_empty n = grind (arith, nat_tests)

pub named_is : (text : List ℕ) → option_map set_of_bits (find_name table text) ≡ set_named text
unfolding find_row
named_is [] = refl
named_is (c ∷ cs) =
    ap (λ b. option_map set_of_bits (cond b None (find_row table (c ∷ cs)))) (not_empty (length cs))
    ∙ picked (pointwise nat_eq (codes "RebootProcess") (c ∷ cs)) (pointwise nat_eq (codes "Reboot") (c ∷ cs)) (pointwise nat_eq (codes "RebootAndDelete") (c ∷ cs)) (pointwise nat_eq (codes "KillInstantly") (c ∷ cs)) (pointwise nat_eq (codes "Clog") (c ∷ cs))

picked_small : (p q r s t : Bool) (n : ℕ) → cond p (Some 1) (cond q (Some 2) (cond r (Some 4) (cond s (Some 8) (cond t (Some 16) None)))) ≡ Some n → n < 32
picked_small true q r s t n e = let is : 1 ≡ n = cc in omega arith
picked_small false true r s t n e = let is : 2 ≡ n = cc in omega arith
picked_small false false true s t n e = let is : 4 ≡ n = cc in omega arith
picked_small false false false true t n e = let is : 8 ≡ n = cc in omega arith
picked_small false false false false true n e = let is : 16 ≡ n = cc in omega arith
picked_small false false false false false n e = absurd (let none : ⊥ = cc in none)

pub named_small : (text : List ℕ) (n : ℕ) → find_name table text ≡ Some n → n < 32
unfolding find_row
named_small [] n e = absurd (let none : ⊥ = cc in none)
named_small (c ∷ cs) n e =
    let found : find_row table (c ∷ cs) ≡ Some n = sym (ap (λ b. cond b None (find_row table (c ∷ cs))) (not_empty (length cs))) ∙ e in
    picked_small (pointwise nat_eq (codes "RebootProcess") (c ∷ cs)) (pointwise nat_eq (codes "Reboot") (c ∷ cs)) (pointwise nat_eq (codes "RebootAndDelete") (c ∷ cs)) (pointwise nat_eq (codes "KillInstantly") (c ∷ cs)) (pointwise nat_eq (codes "Clog") (c ∷ cs)) n found
