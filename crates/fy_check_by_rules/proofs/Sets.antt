-- what the tactics take of the standard library on members of sets of processes
use Rattle.std.proofs.Common.{◌==◌, ◌≡◌, ◌||◌, ◌&&◌, ℕ, false, not, ap, ◌∙◌}
use Rattle.std.specs.Ordering.{nat_cmp}
use Rattle.std.specs.FinSet as sets
use Rattle.std.specs.Cmp.{nat_cmp_total, unsigned_tied}

pub empty-has : (q : ℕ) → sets.contains {R = nat_cmp} sets.empty q ≡ false
empty-has q = sets.contains-empty nat_cmp q

pub remove-has : (s : sets.FinSet nat_cmp) (p q : ℕ) → sets.contains (sets.remove s p) q ≡ (not (q == p) && sets.contains s q)
remove-has s p q = sets.contains-remove nat_cmp_total s p q ∙ ap (λ b. not b && sets.contains s q) (unsigned_tied q p)

pub union-has : (s t : sets.FinSet nat_cmp) (q : ℕ) → sets.contains (sets.union s t) q ≡ (sets.contains s q || sets.contains t q)
union-has s t q = sets.contains-union nat_cmp_total s t q

pub difference-has : (s t : sets.FinSet nat_cmp) (q : ℕ) → sets.contains (sets.difference s t) q ≡ (sets.contains s q && not (sets.contains t q))
difference-has s t q = sets.contains-difference nat_cmp_total s t q

pub intersection-has : (s t : sets.FinSet nat_cmp) (q : ℕ) → sets.contains (sets.intersection s t) q ≡ (sets.contains s q && sets.contains t q)
intersection-has s t q = sets.contains-intersection nat_cmp_total s t q

pub ruleset members = (empty-has, remove-has, union-has, difference-has, intersection-has)
