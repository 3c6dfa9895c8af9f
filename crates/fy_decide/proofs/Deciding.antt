-- the sets in 16 words, and the sets as tests
use Rattle.std.proofs.Common.{◌≡◌, ◌↔◌, ℕ, Bool, true, false, cond, ◌&&◌, not, eqb, List, [], ◌∷◌, refl, sym, ap, subst, ◌∙◌, true≢false}
use Rattle.std.specs.List.{AllByRecursion, position_from}
use Rattle.std.specs.Prelude.{None, Some, ◌+◌}
use Rattle.std.specs.Ordering.{nat_cmp}
use Rattle.std.specs.FinSet as sets
use Rattle.std.specs.Cmp.{nat_cmp_total, unsigned_tied}
use Rattle.fy_locality.specs.declared.locality.Locality.{Locality}
use Rattle.fy_policy.specs.Tree.{Tree, IsPolicy}
use Rattle.fy_policy.specs.Laws.{EmptySatisfiesNone, MoreSatisfies, TestIsSatisfaction}
use Rattle.fy_policy.specs.Sat.{Sat, satisfies}
use Rattle.fy_decide.specs.declared.dead_book.Loss.{Loss}
use Rattle.fy_decide.specs.declared.dead_book.Loss.TheVariants.{Emptied, Gone}
use Rattle.fy_decide.specs.Safety.{AreShort, AreSatisfied, with_set, without_set, everyone, MayDestroy, may_destroy}
use Rattle.fy_decide.specs.DeadBook.{Losses, IsSafe, healed}

pub union_is : (s t : sets.FinSet nat_cmp) → sets.contains (sets.union s t) ≡ with_set (sets.contains s) (sets.contains t)
union_is s t = λ i p. sets.contains-union nat_cmp_total s t p i

pub difference_is : (s t : sets.FinSet nat_cmp) → sets.contains (sets.difference s t) ≡ without_set (sets.contains s) (sets.contains t)
difference_is s t = λ i p. sets.contains-difference nat_cmp_total s t p i

abbrev May : Losses → sets.FinSet nat_cmp → Loss → Type 0
May dead s loss = MayDestroy dead.processes dead.policies (sets.contains dead.destroyed) (sets.contains dead.left) (sets.contains s) loss

abbrev may : Losses → sets.FinSet nat_cmp → Loss → Bool
may dead s loss = may_destroy dead.processes dead.policies (sets.contains dead.destroyed) (sets.contains dead.left) (sets.contains s) loss

abbrev Short : Losses → sets.FinSet nat_cmp → Type 0
Short dead s = AreShort dead.processes dead.policies (sets.contains (sets.union dead.destroyed s))

abbrev Enough : Losses → sets.FinSet nat_cmp → Type 0
Enough dead s = AreSatisfied dead.processes dead.policies (sets.contains (sets.difference dead.left s))

module _ (dead : Losses) (s : sets.FinSet nat_cmp) where
  short : Short dead s → AreShort dead.processes dead.policies (with_set (sets.contains dead.destroyed) (sets.contains s))
  short = subst (λ t. AreShort dead.processes dead.policies t) (union_is dead.destroyed s)

  short_back : AreShort dead.processes dead.policies (with_set (sets.contains dead.destroyed) (sets.contains s)) → Short dead s
  short_back = subst (λ t. AreShort dead.processes dead.policies t) (sym (union_is dead.destroyed s))

  enough : Enough dead s → AreSatisfied dead.processes dead.policies (without_set (sets.contains dead.left) (sets.contains s))
  enough = subst (λ t. AreSatisfied dead.processes dead.policies t) (difference_is dead.left s)

  enough_back : AreSatisfied dead.processes dead.policies (without_set (sets.contains dead.left) (sets.contains s)) → Enough dead s
  enough_back = subst (λ t. AreSatisfied dead.processes dead.policies t) (sym (difference_is dead.left s))

  -- not short
  pub refused : (loss : Loss) (b : Bool) → b ≡ false → (b ≡ true) ↔ Short dead s → (false ≡ true) ↔ May dead s loss
  refused loss b fails law = (λ e. absurd (true≢false (sym e)), λ m. absurd (true≢false (sym (law.1 (short_back (first loss m))) ∙ fails)))
    where
      first : (loss : Loss) → May dead s loss → AreShort dead.processes dead.policies (with_set (sets.contains dead.destroyed) (sets.contains s))
      first Emptied m = m
      first Gone m = m.0

  -- short, and emptied
  pub emptied : (loss : Loss) (b : Bool) → loss ≡ Emptied → b ≡ true → (b ≡ true) ↔ Short dead s → (true ≡ true) ↔ May dead s loss
  emptied loss b is on law = (λ _. subst (May dead s) (sym is) (short (law.0 on)), λ _. refl)

  -- short, and gone
  pub gone : (loss : Loss) (b r : Bool) → loss ≡ Gone → b ≡ true → (b ≡ true) ↔ Short dead s → (r ≡ true) ↔ Enough dead s → (r ≡ true) ↔ May dead s loss
  gone loss b r is on law left = (λ e. subst (May dead s) (sym is) (short (law.0 on), enough (left.0 e)), λ m. left.1 (enough_back (subst (May dead s) is m).1))

  -- a strike keeps a dead book safe
  pub IsSafe-emptied : (loss : Loss) → loss ≡ Emptied → IsSafe dead → May dead s loss → IsSafe (record dead { destroyed = sets.union dead.destroyed s })
  IsSafe-emptied loss is safe m = record { short = short_back (subst (May dead s) is m); satisfied = safe.satisfied }

  pub IsSafe-gone : (loss : Loss) → loss ≡ Gone → May dead s loss → IsSafe (record dead { destroyed = sets.union dead.destroyed s; left = sets.difference dead.left s })
  IsSafe-gone loss is m = let both : May dead s Gone = subst (May dead s) is m in record { short = short_back both.0; satisfied = enough_back both.1 }

-- ---- a heal
second : (b c : Bool) → (not b && c) ≡ true → c ≡ true
second true c e = absurd (true≢false (sym e))
second false c e = e

-- a set is short of each policy that a larger one is short of
short_of_less : MoreSatisfies
    → (processes : List Locality) (policies : List Tree) (s t : ℕ → Bool) → ((p : ℕ) → s p ≡ true → t p ≡ true) → AreShort processes policies t → AreShort processes policies s
short_of_less more processes [] s t less short = tt
short_of_less more processes (q ∷ qs) s t less short = (λ sat. short.0 (more processes q s t less sat), short_of_less more processes qs s t less short.1)

-- a heal keeps a dead book safe
pub IsSafe-healed : MoreSatisfies
    → (dead : Losses) (p : ℕ) → IsSafe dead → IsSafe (healed p dead)
IsSafe-healed more dead p safe = record {
  short = short_of_less more dead.processes dead.policies _ _ (λ q there. second (eqb q p) (sets.contains dead.destroyed q) (sym (without q) ∙ there)) safe.short;
  satisfied = safe.satisfied;
}
  where
    without : (q : ℕ) → sets.contains (sets.remove dead.destroyed p) q ≡ (not (eqb q p) && sets.contains dead.destroyed q)
    without q = sets.contains-remove nat_cmp_total dead.destroyed p q ∙ ap (λ b. not b && sets.contains dead.destroyed q) (unsigned_tied q p)

-- ---- what a search found
pub none_found : {X : Type 0} (t : X → Bool) (i : ℕ) (xs : List X) → position_from t i xs ≡ None → AllByRecursion (λ x. t x ≡ false) xs
none_found t i [] e = tt
none_found t i (x ∷ xs) e = go (λ h. none_found t (i + 1) xs h) (t x) refl e
  where
    go : (position_from t (i + 1) xs ≡ None → AllByRecursion (λ x. t x ≡ false) xs) → (b : Bool) → t x ≡ b → cond b (Some i) (position_from t (i + 1) xs) ≡ None → (t x ≡ false) × AllByRecursion (λ x. t x ≡ false) xs
    go later true is h = absurd (let y : ⊥ = cc in y)
    go later false is h = (is, later h)

pub each_satisfied : (processes : List Locality) (policies : List Tree) (s : ℕ → Bool)
    → TestIsSatisfaction
    → AllByRecursion (λ P. not (satisfies processes P s) ≡ false) policies → AreSatisfied processes policies s
each_satisfied processes [] s law h = tt
each_satisfied processes (q ∷ qs) s law h = ((law processes q s).0 (turned (satisfies processes q s) h.0), each_satisfied processes qs s law h.1)
  where
    turned : (b : Bool) → not b ≡ false → b ≡ true
    turned true e = refl
    turned false e = absurd (true≢false e)

-- ---- a new dead book
nobody_short : (processes : List Locality) (policies : List Tree) (s : ℕ → Bool)
    → EmptySatisfiesNone
    → ((p : ℕ) → s p ≡ false) → AllByRecursion (λ P. IsPolicy P × Sat processes P (everyone processes)) policies → AreShort processes policies s
nobody_short processes [] s law empty met = tt
nobody_short processes (q ∷ qs) s law empty met = (λ sat. law processes q s met.0.0 empty sat, nobody_short processes qs s law empty met.1)

each_met : (processes : List Locality) (policies : List Tree) → AllByRecursion (λ P. IsPolicy P × Sat processes P (everyone processes)) policies → AreSatisfied processes policies (everyone processes)
each_met processes [] met = tt
each_met processes (q ∷ qs) met = (met.0.1, each_met processes qs met.1)

-- nobody destroyed and everyone left, where all processes satisfy each policy
pub IsSafe-new : (processes : List Locality) (policies : List Tree) (destroyed left : sets.FinSet nat_cmp)
    → EmptySatisfiesNone
    → destroyed ≡ sets.empty → ((q : ℕ) → sets.contains left q ≡ everyone processes q) → AllByRecursion (λ P. IsPolicy P × Sat processes P (everyone processes)) policies
    → IsSafe (record { processes = processes; policies = policies; destroyed = destroyed; left = left })
IsSafe-new processes policies destroyed left none nobody all met = record {
  short = nobody_short processes policies (sets.contains destroyed) none (λ p. ap (λ s. sets.contains s p) nobody ∙ sets.contains-empty nat_cmp p) met;
  satisfied = subst (λ s. AreSatisfied processes policies s) (λ i q. sym (all q) i) (each_met processes policies met);
}
