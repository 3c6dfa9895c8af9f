-- processes that are taken one after another
use Rattle.std.proofs.Common.{arith, ◌≡◌, ◌∙◌, ◌≤◌, ◌<◌, ◌+◌, ℕ, Bool, true, false, List, [], ◌∷◌, ◌++◌, length, map, refl, sym, ap, append-nil}
use Rattle.std.specs.Prelude.{if◌then◌else◌}
use Rattle.std.specs.List.{All, AllPairs, filter, range_with_len}
use Rattle.std.proofs.lemmas.List.{length_push}
use Rattle.std.proofs.lemmas.List.FromFn.{map-range_with_len_more}
use Rattle.std.proofs.lemmas.List.Elements.{All-push, filter-append}
use Rattle.std.proofs.lemmas.List.Quantifiers.{all_pairs_push}
use Rattle.fy_locality.specs.declared.ProcId.{ProcId}
use Rattle.fy_locality.specs.declared.TheConstants.{MOST_PROCESSES}
use Rattle.fy_team.specs.Teams.{AreMembers}

abbrev pub process : ℕ → ProcId
process p = record { 0 = p }

-- the first so many processes that pass a test
abbrev pub taken_of : (ProcId → Bool) → ℕ → List ProcId
taken_of test n = filter test (map (λ p. record { 0 = p }) (range_with_len 0 n))

-- these are the first so many that pass; they rise
pub record AreTaken (test : ProcId → Bool) (n : ℕ) (items : List ProcId) : Type 0 where
  pub made : items ≡ taken_of test n
  pub rising : AllPairs (λ p q. p.0 < q.0) items
  pub below : All (λ q. q.0 < n) items
  pub few : length items ≤ n

with_next : (test : ProcId → Bool) (n : ℕ) → taken_of test (n + 1) ≡ taken_of test n ++ filter test (process n ∷ [])
with_next test n =
    ap (filter test) (map-range_with_len_more process 0 n n (let e : 0 + n ≡ n = omega arith in e))
    ∙ filter-append test (map process (range_with_len 0 n)) (process n ∷ [])

kept : (test : ProcId → Bool) (n : ℕ) → test (process n) ≡ true → taken_of test (n + 1) ≡ taken_of test n ++ process n ∷ []
kept test n is = with_next test n ∙ ap (λ xs. taken_of test n ++ xs) (rw is refl)

passed : (test : ProcId → Bool) (n : ℕ) → test (process n) ≡ false → taken_of test (n + 1) ≡ taken_of test n
passed test n is = with_next test n ∙ (ap (λ xs. taken_of test n ++ xs) (rw is refl) ∙ append-nil (taken_of test n))

below_next : (n : ℕ) (items : List ProcId) → All (λ q. q.0 < n) items → All (λ q. q.0 < n + 1) items
below_next n items below k d within = let under = below k d within in omega arith

pub one_more : (test : ProcId → Bool) (n : ℕ) (items : List ProcId) (taken : Bool) → test (process n) ≡ taken → AreTaken test n items
    → AreTaken test (n + 1) (if taken then items ++ process n ∷ [] else items)
one_more test n items true is are =
    record {
      made = ap (λ xs. xs ++ process n ∷ []) are.made ∙ sym (kept test n is);
      rising = all_pairs_push (λ p q. p.0 < q.0) items (process n) are.rising are.below;
      below = All-push (λ q. q.0 < n + 1) items (process n) (below_next n items are.below) (omega arith);
      few = let long = length_push items (process n) in let few = are.few in omega arith;
    }
one_more test n items false is are =
    record {
      made = are.made ∙ sym (passed test n is);
      rising = are.rising;
      below = below_next n items are.below;
      few = let few = are.few in omega arith;
    }

pub are_members : (test : ProcId → Bool) (n : ℕ) (items : List ProcId) → AreTaken test n items → n ≤ MOST_PROCESSES → AreMembers items
are_members test n items are small = record {
  few = let few = are.few in omega arith;
  rising = are.rising;
}
