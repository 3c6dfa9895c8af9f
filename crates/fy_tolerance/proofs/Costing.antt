-- how many processes sets have, and what parts of a group take together
use Rattle.std.proofs.Common.{zero, suc, ◌≡◌, ℕ, ◌+◌, ◌*◌, ◌-◌, ◌<◌, ◌≤◌, Bool, true, false, cond, List, [], ◌∷◌, ◌++◌, refl, sym, ap, ◌∙◌, arith}
use Rattle.std.specs.Prelude.{sum_by}
use Rattle.std.proofs.Math.Nat.{mul-le-mul_right}
use Rattle.std.proofs.lemmas.List.Sums.{sum_by_push}
use Rattle.fy_policy.specs.Counted.{number_of}
use Rattle.fy_tolerance.specs.Costs.{IsLeastOf}
use Rattle.fy_tolerance.specs.declared.parts.Part.{Part}

-- ---- how many numbers below n are in a set
pub number-more : (f g : ℕ → Bool) (n : ℕ) → ((q : ℕ) → q < n → f q ≡ true → g q ≡ true) → number_of f n ≤ number_of g n
number-more f g zero more = omega arith
number-more f g (suc n) more =
    let rest : number_of f n ≤ number_of g n = number-more f g n (λ q h e. more q (omega arith) e) in go (f n) (g n) (more n (omega arith)) rest
  where
    go : (a b : Bool) → (a ≡ true → b ≡ true) → number_of f n ≤ number_of g n → cond a 1 0 + number_of f n ≤ cond b 1 0 + number_of g n
    go true true h rest = omega arith
    go true false h rest = let x : false ≡ true = h refl in absurd (let y : ⊥ = cc in y)
    go false true h rest = omega arith
    go false false h rest = omega arith

pub number-split : (f g h : ℕ → Bool) (n : ℕ) → ((q : ℕ) → cond (f q) 1 0 ≡ cond (g q) 1 0 + cond (h q) 1 0) → number_of f n ≡ number_of g n + number_of h n
number-split f g h zero each = refl
number-split f g h (suc n) each =
    let rest : number_of f n ≡ number_of g n + number_of h n = number-split f g h n each in
    let here : cond (f n) 1 0 ≡ cond (g n) 1 0 + cond (h n) 1 0 = each n in
    join (cond (f n) 1 0) (cond (g n) 1 0) (cond (h n) 1 0) _ _ _ here rest
  where
    join : (a b c x y z : ℕ) → a ≡ b + c → x ≡ y + z → a + x ≡ (b + y) + (c + z)
    join a b c x y z e f = omega arith

pub number-some : (f : ℕ → Bool) (n p : ℕ) → p < n → f p ≡ true → 1 ≤ number_of f n
number-some f zero p h e = absurd (omega arith)
number-some f (suc n) p h e = go (λ lower. number-some f n p lower e) (f n) refl
  where
    go : (p < n → 1 ≤ number_of f n) → (b : Bool) → f n ≡ b → 1 ≤ cond b 1 0 + number_of f n
    go later true is = omega arith
    go later false is = let rest : 1 ≤ number_of f n = later (lower (λ same. let x : f n ≡ true = ap f (sym same) ∙ e in let y : ⊥ = cc in y)) in omega arith
      where
        lower : (p ≡ n → ⊥) → p < n
        lower ne = omega arith

-- nobody is counted, so nobody passes
pub none-number : (f : ℕ → Bool) (n p : ℕ) → number_of f n ≡ 0 → p < n → f p ≡ false
none-number f n p none h = go (f p) refl
  where
    go : (b : Bool) → f p ≡ b → b ≡ false
    go true e = let some : 1 ≤ number_of f n = number-some f n p h e in absurd (omega arith)
    go false e = refl

-- ---- what falls short of a level
pub short-push : (level : ℕ) (part : Part) (parts : List Part) → sum_by (λ x. level - x.least) (parts ++ part ∷ []) ≡ sum_by (λ x. level - x.least) parts + (level - part.least)
short-push level part parts = sum_by_push (λ x. level - x.least) parts part

-- so many parts that each take their count take together the least of so many
pub least-taken : (parts : List Part) (many least passed cost : ℕ) → IsLeastOf parts many least → many ≤ passed → ((level : ℕ) → passed * level ≤ cost + sum_by (λ part. level - part.least) parts) → least ≤ cost
least-taken parts many least passed cost is enough each =
    let level : ℕ = is.level in
    let taken : ℕ = is.taken in
    let few : taken ≤ many = is.few in
    let more : taken ≤ passed = omega arith in
    let scaled : taken * level ≤ passed * level = mul-le-mul_right level more in
    let total : passed * level ≤ cost + sum_by (λ part. level - part.least) parts = each level in
    let within : least ≤ taken * level - sum_by (λ part. level - part.least) parts = is.within in
    ends (taken * level) (passed * level) cost (sum_by (λ part. level - part.least) parts) least scaled total within
  where
    ends : (a b c s l : ℕ) → a ≤ b → b ≤ c + s → l ≤ a - s → l ≤ c
    ends a b c s l f g h = omega arith
