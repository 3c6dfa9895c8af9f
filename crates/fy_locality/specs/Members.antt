-- words of bits as a set of the numbers of processes, and back
use Rattle.std.specs.Prelude.{◌≡◌, ℕ, ◌+◌, ◌*◌, ◌/◌, ◌%◌, ◌^◌, ◌<◌, Bool, true, false, List, [], ◌∷◌, length, Option, MatchOption}
use Rattle.std.specs.Ordering.{nat_cmp}
use Rattle.std.specs.Int.{bit_at}
use Rattle.std.specs.FinSet as set
use Rattle.std.proofs.Common.{zero, suc, cond, eqb, get_or}
use Rattle.fy_locality.specs.declared.ProcId.{ProcId}
use Rattle.fy_locality.specs.declared.TheConstants.{MOST_PROCESSES}
use Rattle.fy_locality.specs.declared.process_set.TheConstants.{SET_WORDS}

-- bit k of the words
abbrev pub has_bit : List ℕ → ℕ → Bool
has_bit ws k = eqb (bit_at (get_or ws (k / 64) 0) (k % 64)) 1

-- the numbers below n whose bit is set
unfoldable pub members_below : List ℕ → ℕ → set.FinSet nat_cmp
members_below ws zero = set.empty
members_below ws (suc n) =
    cond (has_bit ws n) (set.insert (members_below ws n) n) (members_below ws n)

-- the numbers of processes whose bit is set
unfoldable pub members : List ℕ → set.FinSet nat_cmp
members ws = members_below ws MOST_PROCESSES

-- p is in the set, and nothing below it is
pub record IsLeast (s : set.FinSet nat_cmp) (p : ℕ) : Type 0 where
  pub present : set.contains s p ≡ true
  pub none_below : (q : ℕ) → q < p → set.contains s q ≡ false

-- the item is the least of s, and t is s without it; there is no item where s is empty
abbrev pub TakesLeast : set.FinSet nat_cmp → Option ProcId → set.FinSet nat_cmp → Type 0
TakesLeast s item t =
    MatchOption item
    ((s ≡ set.empty) × (t ≡ set.empty))
    (λ p. IsLeast s p.0 × (t ≡ set.remove s p.0))

-- nothing below a word's first number is in the set
abbrev pub StartsAt : ℕ → set.FinSet nat_cmp → Type 0
StartsAt first s = (q : ℕ) → q < first * 64 → set.contains s q ≡ false

-- each member is the number of a process
abbrev pub AreSmall : set.FinSet nat_cmp → Type 0
AreSmall s = (q : ℕ) → set.contains s q ≡ true → q < MOST_PROCESSES

-- words of 64 bits with a bit for each process
pub record AreWords (ws : List ℕ) : Type 0 where
  pub count : length ws ≡ SET_WORDS
  pub fit : (k : ℕ) → get_or ws k 0 < 2 ^ 64

-- the n bits from base on, the first one lowest
unfoldable pub word : (ℕ → Bool) → ℕ → ℕ → ℕ
word f base zero = 0
word f base (suc n) = cond (f (base + n)) 1 0 * 2 ^ n + word f base n

-- n words of these bits from word k on
unfoldable pub words_from : (ℕ → Bool) → ℕ → ℕ → List ℕ
words_from f k zero = []
words_from f k (suc n) = word f (k * 64) 64 ∷ words_from f (suc k) n

-- the words of a set
unfoldable pub set_words : set.FinSet nat_cmp → List ℕ
set_words s = words_from (set.contains s) 0 SET_WORDS
