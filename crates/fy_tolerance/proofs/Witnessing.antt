-- why the set found is too many, and has no more than the least number of processes
use Rattle.std.proofs.Common.{zero, suc, ◌≡◌, ℕ, ◌+◌, ◌<◌, ◌≤◌, Bool, true, false, not, ◌&&◌, ◌||◌, cond, length, nat_lt, refl, sym, subst, ◌∙◌, true≢false, arith}
use Rattle.std.specs.FinSet as sets
use Rattle.std.proofs.lemmas.Bool.Decides.{nat_tests}
use Rattle.fy_policy.specs.Counted.{number_of}
use Rattle.fy_policy.specs.Laws.{MoreOfMapSatisfies, TestIsSatisfaction}
use Rattle.fy_policy.specs.Sat.{Sat, satisfies}
use Rattle.fy_policy.specs.Tree.{Tree}
use Rattle.fy_decide.specs.declared.dead_book.Loss.{Loss}
use Rattle.fy_decide.specs.declared.dead_book.Loss.TheVariants.{Emptied, Gone}
use Rattle.fy_decide.specs.DeadBook.{Losses}
use Rattle.fy_tolerance.specs.Bears.{IsTooMany, IsWitness}
use Rattle.fy_tolerance.specs.Costs.{IsBreaking, IsEnough, NeedsAtLeast}
use Rattle.fy_tolerance.specs.declared.parts.Part.{Part}
use Rattle.fy_tolerance.proofs.BorneLosses.{may-short}

few_below : (f : ℕ → Bool) (n : ℕ) → number_of f n ≤ n
few_below f zero = omega arith
few_below f (suc n) = go (f n) (few_below f n)
  where
    go : (b : Bool) → number_of f n ≤ n → cond b 1 0 + number_of f n ≤ suc n
    go true h = omega arith
    go false h = omega arith

module _ (tested : TestIsSatisfaction) (more : MoreOfMapSatisfies) (dead : Losses) (policy : Tree) where
  -- what is enough with the destroyed is too many
  enough-too_many : (all : ℕ → Bool) (found : Part) (loss : Loss) → IsEnough dead.processes policy all (sets.contains dead.destroyed) found → IsTooMany dead policy loss (sets.contains found.set)
  enough-too_many all found loss enough may =
      may-short dead.processes policy (sets.contains dead.destroyed) (sets.contains dead.left) (sets.contains found.set) loss may
      (more dead.processes policy (λ p. sets.contains found.set p || (all p && sets.contains dead.destroyed p)) _ (λ p below h. swap (sets.contains found.set p) (all p) (sets.contains dead.destroyed p) h)
      ((tested dead.processes policy _).0 enough.enough))
    where
      swap : (s a d : Bool) → (s || (a && d)) ≡ true → (d || s) ≡ true
      swap s a true h = refl
      swap true a false h = refl
      swap false true false h = h
      swap false false false h = h

  -- what breaks those left is too many gone
  breaking-too_many : (found : Part) → IsBreaking dead.processes policy (sets.contains dead.left) found → IsTooMany dead policy Gone (sets.contains found.set)
  breaking-too_many found breaking may = true≢false (sym ((tested dead.processes policy _).1 may.1.0) ∙ breaking.broken)

  module _ (all : ℕ → Bool) (everyone : (p : ℕ) → p < length dead.processes → all p ≡ true) (few : length dead.processes ≤ 1024) (met : Sat dead.processes policy (sets.contains dead.left))
      (needed lacked : Part) (needs : NeedsAtLeast dead.processes policy all (sets.contains dead.destroyed) needed.least)
      (enough : needed.least ≤ 1024 → IsEnough dead.processes policy all (sets.contains dead.destroyed) needed)
      (breaking : lacked.least ≤ 1024 → IsBreaking dead.processes policy (sets.contains dead.left) lacked) where
    -- everyone is enough
    few_needed : needed.least ≤ 1024
    few_needed =
        let passes : satisfies dead.processes policy all ≡ true = (tested dead.processes policy all).1 (more dead.processes policy (sets.contains dead.left) all (λ p below h. everyone p below) met) in
        let costs : needed.least ≤ number_of (λ p. all p && not (sets.contains dead.destroyed p)) (length dead.processes) = needs all (λ p h. h) passes in
        let below : number_of (λ p. all p && not (sets.contains dead.destroyed p)) (length dead.processes) ≤ length dead.processes = few_below _ (length dead.processes) in
        omega arith

    pub witness-emptied : (part : Part) → part ≡ needed → IsWitness dead policy Emptied part
    witness-emptied part is = subst (IsWitness dead policy Emptied) (sym is) (record {
      too_many = enough-too_many all needed Emptied (enough few_needed);
      small = (enough few_needed).small;
    })

    pub witness-gone : (part : Part) → part ≡ cond (nat_lt lacked.least needed.least) lacked needed → IsWitness dead policy Gone part
    witness-gone part is = subst (IsWitness dead policy Gone) (sym is) (go (nat_lt lacked.least needed.least) refl)
      where
        less : (a b : ℕ) → nat_lt a b ≡ true → b ≤ 1024 → a ≤ 1024
        less a b e h = grind (arith, nat_tests)

        go : (b : Bool) → nat_lt lacked.least needed.least ≡ b → IsWitness dead policy Gone (cond b lacked needed)
        go true e = record {
          too_many = breaking-too_many lacked (breaking (less lacked.least needed.least e few_needed));
          small = (breaking (less lacked.least needed.least e few_needed)).small;
        }
        go false e = record {
          too_many = enough-too_many all needed Gone (enough few_needed);
          small = (enough few_needed).small;
        }
