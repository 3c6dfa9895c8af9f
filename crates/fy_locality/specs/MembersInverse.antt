-- why the words of a set are those of its members: these lemmas stand here since the model of
-- `ProcSet` cites one of them
use Rattle.std.specs.Prelude.{◌≡◌, ℕ, ◌+◌, ◌-◌, ◌*◌, ◌/◌, ◌%◌, ◌^◌, ◌<◌, Bool, true, false, ◌&&◌, ◌||◌, List, length}
use Rattle.std.specs.Ordering.{nat_cmp}
use Rattle.std.specs.Int.{bit_at}
use Rattle.std.specs.FinSet as set
use Rattle.std.specs.Cmp.{nat_cmp_total, unsigned_tied}
use Rattle.std.proofs.Common.{inl, inr, zero, suc, refl, sym, ap, ◌∙◌, arith, cond, eqb, ltb, get_or}
use Rattle.std.proofs.lemmas.Nat.Bits.{same_from_bits_below, bit_at-lt, bit_at_cat_low, bit_at_cat_high, bit_at_lowest}
use Rattle.std.proofs.lemmas.List.{same_lists, get_or_default}
use Rattle.std.proofs.lemmas.Bool.{cases_lt}
use Rattle.std.proofs.lemmas.Bool.Decides.{nat_tests}
use Rattle.fy_locality.specs.Members.{has_bit, members_below, members, AreWords, word, words_from, set_words}

with_last :
    (f : ℕ → Bool) (n q : ℕ) → f n ≡ true
    → (eqb q n || (ltb q n && f q)) ≡ (ltb q (suc n) && f q)
with_last f n q e = grind (arith, nat_tests)

without_last : (f : ℕ → Bool) (n q : ℕ) → f n ≡ false → (ltb q n && f q) ≡ (ltb q (suc n) && f q)
without_last f n q e = grind (arith, nat_tests)

none_below : (b : Bool) (q : ℕ) → false ≡ (ltb q 0 && b)
none_below b q = grind (arith, nat_tests)

pub contains-members_below :
    (ws : List ℕ) (n q : ℕ)
    → set.contains (members_below ws n) q ≡ (ltb q n && has_bit ws q)
unfolding members_below
contains-members_below ws zero q = set.contains-empty nat_cmp q ∙ none_below (has_bit ws q) q
contains-members_below ws (suc n) q =
    elim (has_bit ws n) as (λ b.
    has_bit ws n ≡ b
    → set.contains (cond b (set.insert (members_below ws n) n) (members_below ws n)) q
    ≡ (ltb q (suc n) && has_bit ws q)) [
      | true ↦ λ e.
          set.contains-insert nat_cmp_total (members_below ws n) n q
          ∙ ap (λ b. b || set.contains (members_below ws n) q) (unsigned_tied q n)
          ∙ ap (λ b. eqb q n || b) (contains-members_below ws n q)
          ∙ with_last (has_bit ws) n q e
      | false ↦ λ e. contains-members_below ws n q ∙ without_last (has_bit ws) n q e
    ] refl

-- which numbers are members
pub contains-members :
    (ws : List ℕ) (q : ℕ)
    → set.contains (members ws) q ≡ (ltb q 1024 && has_bit ws q)
unfolding members
contains-members ws q = contains-members_below ws 1024 q

word-lt : (f : ℕ → Bool) (base n : ℕ) → word f base n < 2 ^ n
unfolding word
word-lt f base zero = omega arith
word-lt f base (suc n) =
    let low : word f base n < 2 ^ n = word-lt f base n in
    elim (f (base + n)) as (λ b. cond b 1 0 * 2 ^ n + word f base n < 2 ^ suc n) [
      | true ↦ omega arith
      | false ↦ omega arith
    ]

one_bit : (b : Bool) → cond b 1 0 % 2 ≡ cond b 1 0
one_bit true = refl
one_bit false = refl

bit_of_test : (n : ℕ) → n < 2 → cond (eqb n 1) 1 0 ≡ n
bit_of_test n h = grind (arith, nat_tests)

passes : (k n : ℕ) (b : Bool) → k < n → (ltb k n && b) ≡ b
passes k n b h = grind (arith, nat_tests)

bit_at-word :
    (f : ℕ → Bool) (base n i : ℕ) → i < n
    → bit_at (word f base n) i ≡ cond (f (base + i)) 1 0
unfolding word
bit_at-word f base zero i h = absurd (omega arith)
bit_at-word f base (suc n) i h =
    elim (cases_lt i n) [
      | inl lower ↦
          bit_at_cat_low (cond (f (base + n)) 1 0) n (word f base n) i lower
          ∙ bit_at-word f base n i lower
      | inr not_lower ↦
          let same : i ≡ n = omega arith in
          bit_at_cat_high (cond (f (base + n)) 1 0) n (word f base n) i (word-lt f base n) not_lower
          ∙ ap (λ j. bit_at (cond (f (base + n)) 1 0) j) (let z : i - n ≡ 0 = omega arith in z)
          ∙ bit_at_lowest _
          ∙ one_bit (f (base + n))
          ∙ ap (λ j. cond (f (base + j)) 1 0) (sym same)
    ]

length-words_from : (f : ℕ → Bool) (k n : ℕ) → length (words_from f k n) ≡ n
unfolding words_from
length-words_from f k zero = refl
length-words_from f k (suc n) = ap suc (length-words_from f (suc k) n)

get_or-words_from :
    (f : ℕ → Bool) (k n i : ℕ) → i < n
    → get_or (words_from f k n) i 0 ≡ word f ((k + i) * 64) 64
unfolding words_from
get_or-words_from f k zero i h = absurd (omega arith)
get_or-words_from f k (suc n) zero h =
    ap (λ j. word f (j * 64) 64) (let e : k ≡ k + 0 = omega arith in e)
get_or-words_from f k (suc n) (suc i) h =
    get_or-words_from f (suc k) n i (omega arith)
    ∙ ap (λ j. word f (j * 64) 64) (let e : suc k + i ≡ k + suc i = omega arith in e)

-- bit i of word k
pub contains-members_at :
    (ws : List ℕ) (k i : ℕ) → k < 16 → i < 64
    → set.contains (members ws) (k * 64 + i) ≡ eqb (bit_at (get_or ws k 0) i) 1
contains-members_at ws k i in_words in_word =
    let within : k * 64 + i < 1024 = omega arith in
    let at : (k * 64 + i) / 64 ≡ k = omega arith in
    let bit : (k * 64 + i) % 64 ≡ i = omega arith in
    contains-members ws (k * 64 + i)
    ∙ passes (k * 64 + i) 1024 (has_bit ws (k * 64 + i)) within
    ∙ ap (λ j. eqb (bit_at (get_or ws j 0) ((k * 64 + i) % 64)) 1) at
    ∙ ap (λ j. eqb (bit_at (get_or ws k 0) j) 1) bit

pub set_words-members : (ws : List ℕ) → AreWords ws → set_words (members ws) ≡ ws
unfolding set_words
set_words-members ws are =
    let f : ℕ → Bool = set.contains (members ws) in
    same_lists _ _ (length-words_from f 0 16 ∙ sym are.count) (λ k d h.
    let in_words : k < 16 = omega (arith, length-words_from f 0 16) in
    get_or_default _ k d 0 h
    ∙ get_or-words_from f 0 16 k in_words
    ∙ ap (λ j. word f (j * 64) 64) (let e : 0 + k ≡ k = omega arith in e)
    ∙ same_from_bits_below 64 _ _ (word-lt f (k * 64) 64) (are.fit k) (λ i in_word.
    bit_at-word f (k * 64) 64 i in_word
    ∙ ap (λ b. cond b 1 0) (contains-members_at ws k i in_words in_word)
    ∙ bit_of_test _ (bit_at-lt (get_or ws k 0) i))
    ∙ get_or_default _ k 0 d (omega (arith, are.count)))
