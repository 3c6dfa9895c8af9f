-- who is elected: what is synced goes on being synced, and where those who forgot are too many, some
-- store elects whoever lacks a record
use Rattle.std.proofs.Common.{◌≡◌, ℕ, zero, suc, ◌+◌, ◌<◌, ◌⊎◌, inl, inr, Bool, true, false, not, ◌&&◌, ◌||◌, List, length, Contains, refl, sym, ap, ◌∙◌, subst, arith}
use Rattle.std.specs.Prelude.{nat_lt}
use Rattle.std.proofs.lemmas.Bool.{false≢true, not-false, both_ways, false_from_ne_true}
use Rattle.std.proofs.lemmas.Bool.Decides.{nat_tests}
use Rattle.fy_locality.specs.declared.locality.Locality.{Locality}
use Rattle.fy_policy.specs.Tree.{Tree, IsPolicy}
use Rattle.fy_policy.specs.Sat.{Sat}
use Rattle.fy_policy.specs.Laws.{EmptySatisfiesNone, MoreOfMapSatisfies}
use Rattle.fy_votes.specs.Votes.{MayForgetByEach, SmallerMayForget}
use Rattle.fy_votes.specs.Elections.{Moment, IsSynced, Keeps, IsStore, ElectsNobodyLacking, NobodyLackingIsElected}

-- some number below n passes, or none does
pub search_below : (f : ℕ → Bool) (n : ℕ) → ((p : ℕ) × (p < n) × (f p ≡ true)) ⊎ ((p : ℕ) → p < n → f p ≡ false)
search_below f zero = inr (λ p below. absurd (omega arith))
search_below f (suc n) = go (search_below f n) (f n) refl
  where
    go : ((p : ℕ) × (p < n) × (f p ≡ true)) ⊎ ((p : ℕ) → p < n → f p ≡ false) → (b : Bool) → f n ≡ b → ((p : ℕ) × (p < suc n) × (f p ≡ true)) ⊎ ((p : ℕ) → p < suc n → f p ≡ false)
    go before true is = inl (n, omega arith, is)
    go (inl found) false is = inl (found.0, (let below : found.0 < n = found.1 in omega arith), found.2)
    go (inr none) false is = inr (λ p below. false_from_ne_true _ (λ passes. both_ways _ (none p (lower p below (λ same. both_ways _ is (sym (ap f same) ∙ passes)))) passes))
      where
        lower : (p : ℕ) → p < suc n → (p ≡ n → ⊥) → p < n
        lower p below other = omega arith

first : (a b : Bool) → (a && b) ≡ true → a ≡ true
first true b e = refl
first false b e = e

second : (a b : Bool) → (a && b) ≡ true → b ≡ true
second true b e = e
second false b e = absurd (false≢true e)

-- ---- what is synced goes on being synced
-- whoever remembered the record or forgot, and neither does now
abbrev dropped : Moment → Moment → ℕ → ℕ → Bool
dropped before after r p = (before.remember r p || before.forgot p) && not (after.remember r p || after.forgot p)

-- that one was healed without the record
dropped_is : (held was holds is : Bool) → ((held || was) && not (holds || is)) ≡ true → (held ≡ true → holds ≡ false → is ≡ true) → (was ≡ true) × (is ≡ false) × (holds ≡ false)
dropped_is held was true is e forgets = absurd (false≢true (second (held || was) false e))
dropped_is held was false true e forgets = absurd (false≢true (second (held || was) false e))
dropped_is held true false false e forgets = (refl, refl, refl)
dropped_is true false false false e forgets = absurd (false≢true (forgets refl refl))
dropped_is false false false false e forgets = absurd (false≢true e)

-- whoever isn't dropped stays in
stays : (was is : Bool) → was ≡ true → (was && not is) ≡ false → is ≡ true
stays true is w e = not-false is e
stays false is w e = absurd (false≢true w)

synced_next : MoreOfMapSatisfies → (processes : List Locality) (writes : List Tree) (before after : Moment) → Keeps processes writes before after → (r : ℕ) → before.acknowledged r ≡ true → IsSynced processes writes before r → IsSynced processes writes after r
synced_next more processes writes before after step r acked synced = elim (search_below (dropped before after r) (length processes)) [
  | inl found ↦
      let p : ℕ = found.0 in
      let is = dropped_is (before.remember r p) (before.forgot p) (after.remember r p) (after.forgot p) found.2 (step.forgets r p) in
      elim (step.heals r p is.0 is.1 acked) [
        | inl again ↦ absurd (both_ways _ is.2 again)
        | inr without ↦ without
      ]
  | inr none ↦ (
    synced.0,
    synced.1,
    more processes synced.0 _ _ (λ p below was. stays _ _ was (none p below)) synced.2,
  )
]

pub synced_at : MoreOfMapSatisfies → (processes : List Locality) (writes : List Tree) (at : ℕ → Moment) → IsStore processes writes at → (n r : ℕ) → (at n).acknowledged r ≡ true → IsSynced processes writes (at n) r
synced_at more processes writes at store zero r acked = store.begins r acked
synced_at more processes writes at store (suc n) r acked = go (synced_at more processes writes at store n r) ((at n).acknowledged r) refl
  where
    step : Keeps processes writes (at n) (at (suc n))
    step = let e : n + 1 ≡ suc n = omega arith in subst (λ m. Keeps processes writes (at n) (at m)) e (store.goes_on n)

    go : ((at n).acknowledged r ≡ true → IsSynced processes writes (at n) r) → (b : Bool) → (at n).acknowledged r ≡ b → IsSynced processes writes (at (suc n)) r
    go synced true was = synced_next more processes writes (at n) (at (suc n)) step r was (synced was)
    go synced false was = step.acknowledges r was acked

-- ---- where those who forgot may forget, whoever is elected lacks nothing
remembered : (remembers forgot : Bool) → (remembers || forgot) ≡ true → forgot ≡ false → remembers ≡ true
remembered true forgot e f = refl
remembered false forgot e f = absurd (both_ways _ f e)

lacks_nothing : MoreOfMapSatisfies → (processes : List Locality) (writes : List Tree) (elections : Tree) (forgetful : ℕ → Bool) → MayForgetByEach processes writes elections forgetful → ElectsNobodyLacking processes writes elections forgetful
lacks_nothing more processes writes elections forgetful may at store n forgot r candidate acked elected =
    let synced = synced_at more processes writes at store n r acked in
    let met = may synced.0 synced.1 (λ p. (at n).remember r p || (at n).forgot p) ((at n).vote candidate) synced.2 elected in
    let never : (at n).forgot met.process ≡ false = forgot met.process ∙ met.remembers in
    store.votes n r candidate met.process acked never (remembered _ _ met.wrote never) met.votes

-- ---- where they are too many, some store elects whoever lacks a record
module _ (processes : List Locality) (writes : List Tree) (elections : Tree) (writers voters forgetful : ℕ → Bool) where
  -- all records are remembered by those writers who forgot nothing, and each candidate has all
  -- votes
  abbrev torn : Moment
  torn = record {
    acknowledged = λ r. true;
    remember = λ r p. writers p && not (forgetful p);
    vote = λ candidate p. voters p && nat_lt p (length processes);
    forgot = forgetful;
  }

  abbrev both : ℕ → Bool
  both p = (writers p && voters p) && not (forgetful p)

  kept : (w f : Bool) → w ≡ true → ((w && not f) || f) ≡ true
  kept true true e = refl
  kept true false e = refl
  kept false f e = absurd (false≢true e)

  three : (w v f : Bool) → (w && not f) ≡ true → v ≡ true → ((w && v) && not f) ≡ true
  three w true f e g = ap (λ b. b && not f) (yes w) ∙ e
    where
      yes : (w : Bool) → (w && true) ≡ w
      yes true = refl
      yes false = refl
  three w false f e g = absurd (false≢true g)

  below_is : (p n : ℕ) → nat_lt p n ≡ true → p < n
  below_is p n e = grind (arith, nat_tests)

  is_below : (p n : ℕ) → p < n → nat_lt p n ≡ true
  is_below p n h = grind (arith, nat_tests)

  torn_store : MoreOfMapSatisfies → (policy : Tree) → Contains writes policy → Sat processes policy writers → ((p : ℕ) → p < length processes → both p ≡ false) → IsStore processes writes (λ n. torn)
  torn_store more policy listed wrote none = record {
    begins = λ r acked. (policy, listed, more processes policy writers _ (λ p below w. kept (writers p) (forgetful p) w) wrote);
    goes_on = λ n. record {
      forgets = λ r p was isnt. absurd (both_ways _ isnt was);
      acknowledges = λ r was is. absurd (both_ways _ was is);
      heals = λ r p was isnt acked. absurd (both_ways _ isnt was);
    };
    votes = λ n r candidate p acked never remembers votes. absurd (both_ways _ (none p (below_is p (length processes) (second (voters p) _ votes))) (three (writers p) (voters p) (forgetful p) remembers (first (voters p) _ votes)));
  }

  too_many : EmptySatisfiesNone → MoreOfMapSatisfies → IsPolicy elections → (policy : Tree) → Contains writes policy → Sat processes policy writers → Sat processes elections voters → ElectsNobodyLacking processes writes elections forgetful → ((p : ℕ) → p < length processes → both p ≡ false) → ⊥
  too_many empty more policy_is policy listed wrote voted nobody none = elim (search_below voters (length processes)) [
    | inl found ↦
        let c : ℕ = found.0 in
        let elected : Sat processes elections (λ p. voters p && nat_lt p (length processes)) = more processes elections voters _ (λ p below v. ap (λ b. b && nat_lt p (length processes)) v ∙ is_below p (length processes) below) voted in
        let has : (writers c && not (forgetful c)) ≡ true = nobody (λ n. torn) (torn_store more policy listed wrote none) 0 (λ p. refl) 0 c refl elected in
        both_ways _ (none c found.1) (three (writers c) (voters c) (forgetful c) has found.2)
    | inr nobody_votes ↦ empty processes elections (λ p. false) policy_is (λ p. refl) (more processes elections voters (λ p. false) (λ p below v. absurd (both_ways _ (nobody_votes p below) v)) voted)
  ]

pub met_is : (w v f : Bool) → ((w && v) && not f) ≡ true → (w ≡ true) × (v ≡ true) × (f ≡ false)
met_is true true false e = (refl, refl, refl)
met_is true true true e = absurd (false≢true e)
met_is true false f e = absurd (false≢true e)
met_is false v f e = absurd (false≢true e)

has_to : EmptySatisfiesNone → MoreOfMapSatisfies → (processes : List Locality) (writes : List Tree) (elections : Tree) (forgetful : ℕ → Bool) → IsPolicy elections → ElectsNobodyLacking processes writes elections forgetful → MayForgetByEach processes writes elections forgetful
has_to empty more processes writes elections forgetful policy_is nobody policy listed writers voters wrote voted =
    elim (search_below (both processes writes elections writers voters forgetful) (length processes)) [
      | inl found ↦
          let is = met_is (writers found.0) (voters found.0) (forgetful found.0) found.2 in
          record { process = found.0; there = found.1; wrote = is.0; votes = is.1; remembers = is.2 }
      | inr none ↦ absurd (too_many processes writes elections writers voters forgetful empty more policy_is policy listed wrote voted nobody none)
    ]

pub nobody_lacking_is_elected : EmptySatisfiesNone → MoreOfMapSatisfies → NobodyLackingIsElected
nobody_lacking_is_elected empty more processes writes elections forgetful policy_is = (
  lacks_nothing more processes writes elections forgetful,
  has_to empty more processes writes elections forgetful policy_is,
)

pub smaller_may_forget : SmallerMayForget
smaller_may_forget processes writes elections smaller forgetful within may writers voters wrote voted =
    let met = may writers voters wrote voted in
    record {
      process = met.process;
      there = met.there;
      wrote = met.wrote;
      votes = met.votes;
      remembers = false_from_ne_true _ (λ is. both_ways _ met.remembers (within met.process met.there is));
    }
