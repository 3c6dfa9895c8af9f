-- the verdict that the code computes answers the order, and no other does
use Rattle.std.proofs.Common.{zero, suc, ◌≡◌, ℕ, ◌+◌, ◌<◌, ◌≤◌, Bool, true, false, cond, ◌&&◌, ◌||◌, not, List, [], ◌∷◌, length, refl, sym, ap, subst, ◌∙◌, arith, true≢false, inl, inr, ◌⊎◌}
use Rattle.std.specs.Prelude.{Option, None, Some, option_map, is_none, nat_le, slice_get, MatchOption}
use Rattle.std.specs.List.{find, list_any, position, position_from, range_with_len, AllByRecursion}
use Rattle.std.proofs.lemmas.Bool.{cases_lt, leb-true, le-leb}
use Rattle.std.proofs.lemmas.Iterator.Adapters.{position_from-zero}
use Rattle.fy_locality.specs.declared.ProcId.{ProcId}
use Rattle.fy_locality.specs.Values.{ProcessesHaveValues}
use Rattle.fy_policy.specs.Tree.{Tree}
use Rattle.fy_policy.specs.Laws.{TestIsSatisfaction}
use Rattle.fy_policy.specs.Sat.{Sat, satisfies}
use Rattle.fy_kinds.specs.declared.kind.Kind.{Kind}
use Rattle.fy_kinds.specs.declared.kind.Kind.TheVariants.{RebootProcess, Reboot, RebootAndDelete, KillInstantly}
use Rattle.fy_kinds.specs.Kinds.{Striking, rank, is_destroying, destroys_for_good}
use Rattle.fy_kinds.specs.Orders.{Order}
use Rattle.fy_kinds.specs.declared.verdict.Rule.{Rule}
use Rattle.fy_kinds.specs.declared.verdict.Rule.TheVariants.{NoTarget, NoGrant, Protected, TooManyDestroyed, TooFewLeft}
use Rattle.fy_kinds.specs.declared.verdict.Verdict.{Verdict}
use Rattle.fy_grants.specs.Least.{LeastWith, IsLeastWith, least_with}
use Rattle.fy_grants.specs.Changes.{LeastIsFirst}
use Rattle.fy_decide.specs.Safety.{with_set, without_set}
use Rattle.fy_decide.specs.Verdicts.{Situation, is_granted_to, order_targets, verdict, bar, hardest_first, is_allowed, first_rule, numbers, least, too_many_destroyed, too_few_left}
use Rattle.fy_decide.proofs.Deciding.{none_found, each_satisfied}
use Rattle.fy_decide.proofs.Judging.{each_short, both_true, none_of}
use Rattle.fy_decide.specs.Hardest.{HasTarget, AreGranted, AreUnprotected, StayShort, StaySatisfied, MayStrike, IsAllowed, StrikesHardest, IsFirstPolicy, FirstRule, AnswersOrder}
use Rattle.fy_decide.specs.Hardest.StrikesHardest.{strikes, strikes_nobody}
use Rattle.fy_decide.specs.Hardest.FirstRule.{no_rule, no_target, no_grant, protected, too_many_destroyed as by_destroyed, too_few_left as by_left}

-- ---- a number of a range that passes

some_passes : (t : ℕ → Bool) (a n : ℕ) → list_any t (range_with_len a n) ≡ true → (p : ℕ) × (t p ≡ true)
some_passes t a zero e = absurd (true≢false (sym e))
some_passes t a (suc n) e = go (some_passes t (a + 1) n) (t a) refl e
  where
    go : (list_any t (range_with_len (a + 1) n) ≡ true → (p : ℕ) × (t p ≡ true)) → (b : Bool) → t a ≡ b → (b || list_any t (range_with_len (a + 1) n)) ≡ true → (p : ℕ) × (t p ≡ true)
    go later true is h = (a, is)
    go later false is h = later h

none_passes : (t : ℕ → Bool) (a n p : ℕ) → list_any t (range_with_len a n) ≡ false → a ≤ p → p < a + n → t p ≡ true → ⊥
none_passes t a zero p e low high is = omega arith
none_passes t a (suc n) p e low high is = go (λ h more less. none_passes t (a + 1) n p h more less is) (t a) refl e
  where
    go : (list_any t (range_with_len (a + 1) n) ≡ false → a + 1 ≤ p → p < a + 1 + n → ⊥) → (b : Bool) → t a ≡ b → (b || list_any t (range_with_len (a + 1) n)) ≡ false → ⊥
    go later true here h = true≢false h
    go later false here h = elim (cases_lt a p) [
      | inl lt ↦ later h (omega arith) (omega arith)
      | inr ge ↦ let same : a ≡ p = omega arith in true≢false (sym is ∙ ap t (sym same) ∙ here)
    ]

-- ---- the first policy that passes a test

pub record FoundAt (t : Tree → Bool) (policies : List Tree) (k : ℕ) : Type 0 where
  pub policy : Tree
  pub at : slice_get policies k ≡ Some policy
  pub passes : t policy ≡ true
  pub before : (i : ℕ) (earlier : Tree) → i < k → slice_get policies i ≡ Some earlier → t earlier ≡ false

abbrev Found : (Tree → Bool) → List Tree → Option ℕ → Type 0
Found t policies found = MatchOption found (AllByRecursion (λ P. t P ≡ false) policies) (FoundAt t policies)

found_from : (t : Tree → Bool) (j : ℕ) (policies : List Tree) (k : ℕ) → position_from t j policies ≡ Some k → (i : ℕ) × (k ≡ j + i) × FoundAt t policies i
found_from t j [] k e = absurd (let y : ⊥ = cc in y)
found_from t j (x ∷ xs) k e = go (found_from t (j + 1) xs k) (t x) refl e
  where
    next : (i l : ℕ) → k ≡ j + 1 + l → t x ≡ false → FoundAt t xs l → (i : ℕ) × (k ≡ j + i) × FoundAt t (x ∷ xs) i
    next i l is off found = (
      suc l,
      omega (arith, is),
      record {
        policy = found.policy;
        at = found.at;
        passes = found.passes;
        before = earlier;
      },
    )
      where
        earlier : (m : ℕ) (old : Tree) → m < suc l → slice_get (x ∷ xs) m ≡ Some old → t old ≡ false
        earlier zero old lt at = let same : x ≡ old = cc in ap t (sym same) ∙ off
        earlier (suc m) old lt at = found.before m old (omega arith) at

    go : (position_from t (j + 1) xs ≡ Some k → (i : ℕ) × (k ≡ j + 1 + i) × FoundAt t xs i) → (b : Bool) → t x ≡ b → cond b (Some j) (position_from t (j + 1) xs) ≡ Some k → (i : ℕ) × (k ≡ j + i) × FoundAt t (x ∷ xs) i
    go later true is h = (
      zero,
      let same : j ≡ k = cc in omega (arith, same),
      record {
        policy = x;
        at = refl;
        passes = is;
        before = λ m old lt at. absurd (omega arith);
      },
    )
    go later false is h = let found : (i : ℕ) × (k ≡ j + 1 + i) × FoundAt t xs i = later h in next zero found.0 found.1 is found.2

found_is : (t : Tree → Bool) (policies : List Tree) → Found t policies (position t policies)
found_is t policies = go (position t policies) refl
  where
    go : (o : Option ℕ) → position t policies ≡ o → Found t policies o
    go None e = none_found t 0 policies (sym (position_from-zero t policies) ∙ e)
    go (Some k) e =
        let found : (i : ℕ) × (k ≡ 0 + i) × FoundAt t policies i = found_from t 0 policies k (sym (position_from-zero t policies) ∙ e) in
        let same : found.0 ≡ k = omega (arith, found.1) in
        subst (FoundAt t policies) same found.2

all_at : (P : Tree → Type 0) (xs : List Tree) (k : ℕ) (x : Tree) → AllByRecursion P xs → slice_get xs k ≡ Some x → P x
all_at P [] k x all at = absurd (let y : ⊥ = cc in y)
all_at P (z ∷ zs) zero x all at = let same : z ≡ x = cc in subst P same all.0
all_at P (z ∷ zs) (suc k) x all at = all_at P zs k x all.1 at

-- ---- the first rule

turned : (b : Bool) → not b ≡ false → b ≡ true
turned true e = refl
turned false e = absurd (true≢false e)

off : (b : Bool) → not b ≡ true → b ≡ true → ⊥
off true e is = true≢false (sym e)
off false e is = true≢false (sym is)

least_one : (set test : ℕ → Bool) (p q : ℕ) → IsLeastWith set test p → IsLeastWith set test q → p ≡ q
least_one set test p q here there = elim (cases_lt p q) [
  | inl lt ↦ absurd (true≢false (sym here.passes ∙ there.none_below p lt here.member))
  | inr ge ↦ elim (cases_lt q p) [
    | inl lt ↦ absurd (true≢false (sym there.passes ∙ here.none_below q lt there.member))
    | inr le ↦ omega arith
  ]
]

first_one : (policies : List Tree) (Holds : Tree → Type 0) (k l : ℕ) → IsFirstPolicy policies Holds k → IsFirstPolicy policies Holds l → k ≡ l
first_one policies Holds k l here there = elim (cases_lt k l) [
  | inl lt ↦ absurd (there.none_before k here.policy lt here.at here.holds)
  | inr ge ↦ elim (cases_lt l k) [
    | inl lt ↦ absurd (here.none_before l there.policy lt there.at there.holds)
    | inr le ↦ omega arith
  ]
]

module _ (law : TestIsSatisfaction) (situation : Situation) (s : ℕ → Bool) where
  abbrev is_granted : Kind → ℕ → Bool
  is_granted kind = is_granted_to situation (Striking kind)

  abbrev is_guarded : Kind → ℕ → Bool
  is_guarded kind q = situation.is_protected q (Striking kind)

  abbrev is_met_by : (ℕ → Bool) → Tree → Bool
  is_met_by t P = satisfies situation.processes P t

  abbrev lost : ℕ → Bool
  lost = with_set situation.destroyed s

  abbrev kept : ℕ → Bool
  kept = without_set situation.left s

  -- what is found of a kind, rule by rule
  pub record Looked (kind : Kind) (any : Bool) (u b : Option ProcId) (many few : Option ℕ) : Type 0 where
    pub some : any ≡ true → HasTarget s
    pub nobody : any ≡ false → HasTarget s → ⊥
    pub ungranted : LeastWith s (λ q. not (is_granted kind q)) u
    pub guarded : LeastWith s (is_guarded kind) b
    pub many_is : Found (is_met_by lost) situation.policies many
    pub few_is : Found (λ P. not (is_met_by kept P)) situation.policies few

  abbrev rules : Kind → Bool → Option ProcId → Option ProcId → Option ℕ → Option ℕ → List (Option Rule)
  rules kind any u b many few =
      cond any None (Some NoTarget) ∷ option_map NoGrant u ∷ option_map Protected b
      ∷ cond (is_destroying kind) (option_map TooManyDestroyed many) None
      ∷ cond (destroys_for_good kind) (option_map TooFewLeft few) None ∷ []

  granted_where : (kind : Kind) → ((q : ℕ) → s q ≡ true → not (is_granted kind q) ≡ false) → AreGranted situation kind s
  granted_where kind none p is = turned _ (none p is)

  stay_short : AllByRecursion (λ P. is_met_by lost P ≡ false) situation.policies → StayShort situation s
  stay_short = each_short situation.processes situation.policies lost law

  stay_satisfied : AllByRecursion (λ P. not (is_met_by kept P) ≡ false) situation.policies → StaySatisfied situation s
  stay_satisfied = each_satisfied situation.processes situation.policies kept law

  first_met : (k : ℕ) → FoundAt (is_met_by lost) situation.policies k → IsFirstPolicy situation.policies (λ P. Sat situation.processes P lost) k
  first_met k found = record {
    policy = found.policy;
    at = found.at;
    holds = (law situation.processes found.policy lost).0 found.passes;
    none_before = λ i old lt at sat. true≢false (sym ((law situation.processes old lost).1 sat) ∙ found.before i old lt at);
  }

  first_unmet : (k : ℕ) → FoundAt (λ P. not (is_met_by kept P)) situation.policies k → IsFirstPolicy situation.policies (λ P. Sat situation.processes P kept → ⊥) k
  first_unmet k found = record {
    policy = found.policy;
    at = found.at;
    holds = λ sat. off _ found.passes ((law situation.processes found.policy kept).1 sat);
    none_before = λ i old lt at short. short ((law situation.processes old kept).0 (turned _ (found.before i old lt at)));
  }

  pub looked_first : (kind : Kind) (any : Bool) (u b : Option ProcId) (many few : Option ℕ) → Looked kind any u b many few → FirstRule situation kind s (first_rule (rules kind any u b many few))
  looked_first kind false u b many few l = no_target (l.nobody refl)
  looked_first kind true (Some p) b many few l = no_grant p l.ungranted
  looked_first kind true None (Some p) many few l = protected p (granted_where kind l.ungranted) l.guarded
  looked_first RebootProcess true None None many few l = no_rule (record {
    target = l.some refl;
    granted = granted_where RebootProcess l.ungranted;
    unprotected = l.guarded;
    short = λ e. absurd (true≢false (sym e));
    satisfied = λ e. absurd (true≢false (sym e));
  })
  looked_first Reboot true None None many few l = no_rule (record {
    target = l.some refl;
    granted = granted_where Reboot l.ungranted;
    unprotected = l.guarded;
    short = λ e. absurd (true≢false (sym e));
    satisfied = λ e. absurd (true≢false (sym e));
  })
  looked_first RebootAndDelete true None None (Some k) few l = by_destroyed k (l.some refl) (granted_where RebootAndDelete l.ungranted) l.guarded refl (first_met k l.many_is)
  looked_first RebootAndDelete true None None None few l = no_rule (record {
    target = l.some refl;
    granted = granted_where RebootAndDelete l.ungranted;
    unprotected = l.guarded;
    short = λ e. stay_short l.many_is;
    satisfied = λ e. absurd (true≢false (sym e));
  })
  looked_first KillInstantly true None None (Some k) few l = by_destroyed k (l.some refl) (granted_where KillInstantly l.ungranted) l.guarded refl (first_met k l.many_is)
  looked_first KillInstantly true None None None (Some k) l = by_left k (l.some refl) (granted_where KillInstantly l.ungranted) l.guarded (stay_short l.many_is) refl (first_unmet k l.few_is)
  looked_first KillInstantly true None None None None l = no_rule (record {
    target = l.some refl;
    granted = granted_where KillInstantly l.ungranted;
    unprotected = l.guarded;
    short = λ e. stay_short l.many_is;
    satisfied = λ e. stay_satisfied l.few_is;
  })

  -- the bar is the first rule, and no kind that may strike has another
  module _ (order_law : LeastIsFirst) (small : (q : ℕ) → s q ≡ true → q < length situation.processes) where
    least_is : (test : ℕ → Bool) → LeastWith s test (least situation s test)
    least_is test = (order_law (length situation.processes) s test (least situation s test) small).1 (there (least_with (length situation.processes) s test))
      where
        there : (o : Option ℕ) → option_map {T = ProcId} (λ p. p.0) (option_map (λ p. record { 0 = p }) o) ≡ o
        there None = refl
        there (Some p) = refl

    looked : (kind : Kind) → Looked kind (list_any s (numbers situation)) (least situation s (λ q. not (is_granted kind q))) (least situation s (is_guarded kind)) (too_many_destroyed situation s) (too_few_left situation s)
    looked kind = record {
      some = some_passes s 0 (length situation.processes);
      nobody = λ e target. none_passes s 0 (length situation.processes) target.0 e (omega arith) (omega (arith, small target.0 target.1)) target.1;
      ungranted = least_is (λ q. not (is_granted kind q));
      guarded = least_is (is_guarded kind);
      many_is = found_is (is_met_by lost) situation.policies;
      few_is = found_is (λ P. not (is_met_by kept P)) situation.policies;
    }

    pub bar_is_first : (kind : Kind) → FirstRule situation kind s (bar situation (Striking kind) s)
    unfolding bar
    bar_is_first kind = looked_first kind _ _ _ _ _ (looked kind)

  may_where : (kind : Kind) (r : Option Rule) → FirstRule situation kind s r → r ≡ None → MayStrike situation kind s
  may_where kind r (no_rule may) e = may
  may_where kind r (no_target _) e = absurd (let y : ⊥ = cc in y)
  may_where kind r (no_grant p _) e = absurd (let y : ⊥ = cc in y)
  may_where kind r (protected p _ _) e = absurd (let y : ⊥ = cc in y)
  may_where kind r (by_destroyed k _ _ _ _ _) e = absurd (let y : ⊥ = cc in y)
  may_where kind r (by_left k _ _ _ _ _ _) e = absurd (let y : ⊥ = cc in y)

  -- what each rule takes away
  ungranted_bars : (kind : Kind) (p : ℕ) → IsLeastWith s (λ q. not (is_granted kind q)) p → AreGranted situation kind s → ⊥
  ungranted_bars kind p least granted = off _ least.passes (granted p least.member)

  guarded_bars : (kind : Kind) (p : ℕ) → IsLeastWith s (is_guarded kind) p → AreUnprotected situation kind s → ⊥
  guarded_bars kind p least free = true≢false (sym least.passes ∙ free p least.member)

  met_bars : (k : ℕ) → IsFirstPolicy situation.policies (λ P. Sat situation.processes P lost) k → StayShort situation s → ⊥
  met_bars k first short = all_at (λ P. Sat situation.processes P lost → ⊥) situation.policies k first.policy short first.at first.holds

  unmet_bars : (k : ℕ) → IsFirstPolicy situation.policies (λ P. Sat situation.processes P kept → ⊥) k → StaySatisfied situation s → ⊥
  unmet_bars k first enough = first.holds (all_at (λ P. Sat situation.processes P kept) situation.policies k first.policy enough first.at)

  none_where : (kind : Kind) (r : Option Rule) → FirstRule situation kind s r → MayStrike situation kind s → r ≡ None
  none_where kind r (no_rule _) may = refl
  none_where kind r (no_target none) may = absurd (none may.target)
  none_where kind r (no_grant p least) may = absurd (ungranted_bars kind p.0 least may.granted)
  none_where kind r (protected p _ least) may = absurd (guarded_bars kind p.0 least may.unprotected)
  none_where kind r (by_destroyed k _ _ _ destroying first) may = absurd (met_bars k first (may.short destroying))
  none_where kind r (by_left k _ _ _ _ good first) may = absurd (unmet_bars k first (may.satisfied good))

  -- a kind has one first rule
  pub one_rule : (kind : Kind) (a b : Option Rule) → FirstRule situation kind s a → FirstRule situation kind s b → a ≡ b
  one_rule kind a b (no_target _) (no_target _) = refl
  one_rule kind a b (no_target none1) (no_grant p2 least2) = absurd (none1 (p2.0, least2.member))
  one_rule kind a b (no_target none1) (protected p2 _ least2) = absurd (none1 (p2.0, least2.member))
  one_rule kind a b (no_target none1) (by_destroyed _ target2 _ _ _ _) = absurd (none1 target2)
  one_rule kind a b (no_target none1) (by_left _ target2 _ _ _ _ _) = absurd (none1 target2)
  one_rule kind a b (no_target none1) (no_rule may2) = absurd (none1 may2.target)
  one_rule kind a b (no_grant p1 least1) (no_target none2) = absurd (none2 (p1.0, least1.member))
  one_rule kind a b (no_grant p1 least1) (no_grant p2 least2) = ap (λ n. Some (NoGrant (record { 0 = n }))) (least_one s (λ q. not (is_granted kind q)) p1.0 p2.0 least1 least2)
  one_rule kind a b (no_grant p1 least1) (protected _ granted2 _) = absurd (ungranted_bars kind p1.0 least1 granted2)
  one_rule kind a b (no_grant p1 least1) (by_destroyed _ _ granted2 _ _ _) = absurd (ungranted_bars kind p1.0 least1 granted2)
  one_rule kind a b (no_grant p1 least1) (by_left _ _ granted2 _ _ _ _) = absurd (ungranted_bars kind p1.0 least1 granted2)
  one_rule kind a b (no_grant p1 least1) (no_rule may2) = absurd (ungranted_bars kind p1.0 least1 may2.granted)
  one_rule kind a b (protected p1 _ least1) (no_target none2) = absurd (none2 (p1.0, least1.member))
  one_rule kind a b (protected _ granted1 _) (no_grant p2 least2) = absurd (ungranted_bars kind p2.0 least2 granted1)
  one_rule kind a b (protected p1 _ least1) (protected p2 _ least2) = ap (λ n. Some (Protected (record { 0 = n }))) (least_one s (is_guarded kind) p1.0 p2.0 least1 least2)
  one_rule kind a b (protected p1 _ least1) (by_destroyed _ _ _ free2 _ _) = absurd (guarded_bars kind p1.0 least1 free2)
  one_rule kind a b (protected p1 _ least1) (by_left _ _ _ free2 _ _ _) = absurd (guarded_bars kind p1.0 least1 free2)
  one_rule kind a b (protected p1 _ least1) (no_rule may2) = absurd (guarded_bars kind p1.0 least1 may2.unprotected)
  one_rule kind a b (by_destroyed _ target1 _ _ _ _) (no_target none2) = absurd (none2 target1)
  one_rule kind a b (by_destroyed _ _ granted1 _ _ _) (no_grant p2 least2) = absurd (ungranted_bars kind p2.0 least2 granted1)
  one_rule kind a b (by_destroyed _ _ _ free1 _ _) (protected p2 _ least2) = absurd (guarded_bars kind p2.0 least2 free1)
  one_rule kind a b (by_destroyed k1 _ _ _ _ first1) (by_destroyed k2 _ _ _ _ first2) = ap (λ n. Some (TooManyDestroyed n)) (first_one situation.policies (λ P. Sat situation.processes P lost) k1 k2 first1 first2)
  one_rule kind a b (by_destroyed k1 _ _ _ _ first1) (by_left _ _ _ _ short2 _ _) = absurd (met_bars k1 first1 short2)
  one_rule kind a b (by_destroyed k1 _ _ _ destroying1 first1) (no_rule may2) = absurd (met_bars k1 first1 (may2.short destroying1))
  one_rule kind a b (by_left _ target1 _ _ _ _ _) (no_target none2) = absurd (none2 target1)
  one_rule kind a b (by_left _ _ granted1 _ _ _ _) (no_grant p2 least2) = absurd (ungranted_bars kind p2.0 least2 granted1)
  one_rule kind a b (by_left _ _ _ free1 _ _ _) (protected p2 _ least2) = absurd (guarded_bars kind p2.0 least2 free1)
  one_rule kind a b (by_left _ _ _ _ short1 _ _) (by_destroyed k2 _ _ _ _ first2) = absurd (met_bars k2 first2 short1)
  one_rule kind a b (by_left k1 _ _ _ _ _ first1) (by_left k2 _ _ _ _ _ first2) = ap (λ n. Some (TooFewLeft n)) (first_one situation.policies (λ P. Sat situation.processes P kept → ⊥) k1 k2 first1 first2)
  one_rule kind a b (by_left k1 _ _ _ _ good1 first1) (no_rule may2) = absurd (unmet_bars k1 first1 (may2.satisfied good1))
  one_rule kind a b (no_rule may1) (no_target none2) = absurd (none2 may1.target)
  one_rule kind a b (no_rule may1) (no_grant p2 least2) = absurd (ungranted_bars kind p2.0 least2 may1.granted)
  one_rule kind a b (no_rule may1) (protected p2 _ least2) = absurd (guarded_bars kind p2.0 least2 may1.unprotected)
  one_rule kind a b (no_rule may1) (by_destroyed k2 _ _ _ destroying2 first2) = absurd (met_bars k2 first2 (may1.short destroying2))
  one_rule kind a b (no_rule may1) (by_left k2 _ _ _ _ good2 first2) = absurd (unmet_bars k2 first2 (may1.satisfied good2))
  one_rule kind a b (no_rule _) (no_rule _) = refl

-- ---- the hardest kind

within : (order : Order) (kind : Kind) → is_allowed order kind ≡ true → IsAllowed order kind
within order kind e =
    let both : (nat_le (rank order.floor) (rank kind) ≡ true) × (nat_le (rank kind) (rank order.kind) ≡ true) = both_true _ _ e in
    record { floor = leb-true _ _ both.0; ordered = leb-true _ _ both.1 }

allowed : (order : Order) (kind : Kind) → IsAllowed order kind → is_allowed order kind ≡ true
allowed order kind w = ap (λ b. b && nat_le (rank kind) (rank order.kind)) (le-leb _ _ w.floor) ∙ le-leb _ _ w.ordered

of_rank : ℕ → Kind
of_rank zero = RebootProcess
of_rank (suc zero) = Reboot
of_rank (suc (suc zero)) = RebootAndDelete
of_rank (suc (suc (suc n))) = KillInstantly

of_its_rank : (kind : Kind) → of_rank (rank kind) ≡ kind
unfolding of_rank
of_its_rank RebootProcess = refl
of_its_rank Reboot = refl
of_its_rank RebootAndDelete = refl
of_its_rank KillInstantly = refl

module _ (situation : Situation) (order : Order) (s : ℕ → Bool) where
  abbrev MayBeOrdered : Kind → Type 0
  MayBeOrdered kind = IsAllowed order kind × MayStrike situation kind s

  abbrev NoneHarder : Kind → Type 0
  NoneHarder kind = (harder : Kind) → rank kind < rank harder → IsAllowed order harder → MayStrike situation harder s → ⊥

  -- one kind strikes
  pub one_struck : (a b : Option Kind) → StrikesHardest situation order s a → StrikesHardest situation order s b → a ≡ b
  one_struck a b (strikes k w may none) (strikes l v might nil) = elim (cases_lt (rank k) (rank l)) [
    | inl lt ↦ absurd (none l lt v might)
    | inr ge ↦ elim (cases_lt (rank l) (rank k)) [
      | inl lt ↦ absurd (nil k lt w may)
      | inr le ↦ let same : rank k ≡ rank l = omega arith in ap Some (sym (of_its_rank k) ∙ ap of_rank same ∙ of_its_rank l)
    ]
  ]
  one_struck a b (strikes k w may _) (strikes_nobody none) = absurd (none k w may)
  one_struck a b (strikes_nobody none) (strikes l v might _) = absurd (none l v might)
  one_struck a b (strikes_nobody _) (strikes_nobody _) = refl

  module _ (t : Kind → Bool) (yes : (kind : Kind) → t kind ≡ true → MayBeOrdered kind) (no : (kind : Kind) → IsAllowed order kind → MayStrike situation kind s → t kind ≡ true) where
    barred : (kind : Kind) → t kind ≡ false → IsAllowed order kind → MayStrike situation kind s → ⊥
    barred kind e w may = true≢false (sym (no kind w may) ∙ e)

    above_all : NoneHarder KillInstantly
    above_all KillInstantly lt w may = omega arith
    above_all RebootAndDelete lt w may = omega arith
    above_all Reboot lt w may = omega arith
    above_all RebootProcess lt w may = omega arith

    above_delete : t KillInstantly ≡ false → NoneHarder RebootAndDelete
    above_delete e KillInstantly lt w may = barred KillInstantly e w may
    above_delete e RebootAndDelete lt w may = omega arith
    above_delete e Reboot lt w may = omega arith
    above_delete e RebootProcess lt w may = omega arith

    above_reboot : t KillInstantly ≡ false → t RebootAndDelete ≡ false → NoneHarder Reboot
    above_reboot e f KillInstantly lt w may = barred KillInstantly e w may
    above_reboot e f RebootAndDelete lt w may = barred RebootAndDelete f w may
    above_reboot e f Reboot lt w may = omega arith
    above_reboot e f RebootProcess lt w may = omega arith

    above_process : t KillInstantly ≡ false → t RebootAndDelete ≡ false → t Reboot ≡ false → NoneHarder RebootProcess
    above_process e f g KillInstantly lt w may = barred KillInstantly e w may
    above_process e f g RebootAndDelete lt w may = barred RebootAndDelete f w may
    above_process e f g Reboot lt w may = barred Reboot g w may
    above_process e f g RebootProcess lt w may = omega arith

    none_at_all : t KillInstantly ≡ false → t RebootAndDelete ≡ false → t Reboot ≡ false → t RebootProcess ≡ false → (kind : Kind) → IsAllowed order kind → MayStrike situation kind s → ⊥
    none_at_all e f g h KillInstantly w may = barred KillInstantly e w may
    none_at_all e f g h RebootAndDelete w may = barred RebootAndDelete f w may
    none_at_all e f g h Reboot w may = barred Reboot g w may
    none_at_all e f g h RebootProcess w may = barred RebootProcess h w may

    struck_by : (kind : Kind) → t kind ≡ true → NoneHarder kind → StrikesHardest situation order s (Some kind)
    struck_by kind e none = let may : MayBeOrdered kind = yes kind e in strikes kind may.0 may.1 none

    found_hardest : (a b c d : Bool) → t KillInstantly ≡ a → t RebootAndDelete ≡ b → t Reboot ≡ c → t RebootProcess ≡ d → StrikesHardest situation order s (cond a (Some KillInstantly) (cond b (Some RebootAndDelete) (cond c (Some Reboot) (cond d (Some RebootProcess) None))))
    found_hardest true b c d e f g h = struck_by KillInstantly e above_all
    found_hardest false true c d e f g h = struck_by RebootAndDelete f (above_delete e)
    found_hardest false false true d e f g h = struck_by Reboot g (above_reboot e f)
    found_hardest false false false true e f g h = struck_by RebootProcess h (above_process e f g)
    found_hardest false false false false e f g h = strikes_nobody (none_at_all e f g h)

    pub find_is_hardest : StrikesHardest situation order s (find t hardest_first)
    find_is_hardest = found_hardest (t KillInstantly) (t RebootAndDelete) (t Reboot) (t RebootProcess) refl refl refl refl

abbrev SmallTargets : Type 0
SmallTargets = (situation : Situation) (order : Order) (q : ℕ) → order_targets situation order q ≡ true → q < length situation.processes

pub targets_small : ProcessesHaveValues → SmallTargets
targets_small law situation order q is = go (cases_lt q (length situation.processes))
  where
    go : (q < length situation.processes) ⊎ (length situation.processes ≤ q) → q < length situation.processes
    go (inl lt) = lt
    go (inr ge) = absurd (true≢false (sym (both_true _ _ is).1 ∙ law situation.processes order.target.key order.target.value q ge))

-- ---- the verdict

module _ (law : TestIsSatisfaction) (order_law : LeastIsFirst) (valued : ProcessesHaveValues) (situation : Situation) (order : Order) where
  abbrev targets : ℕ → Bool
  targets = order_targets situation order

  first_is : (kind : Kind) → FirstRule situation kind targets (bar situation (Striking kind) targets)
  first_is = bar_is_first law situation targets order_law (targets_small valued situation order)

  abbrev passes : Kind → Bool
  passes kind = is_allowed order kind && is_none (bar situation (Striking kind) targets)

  may_pass : (kind : Kind) → passes kind ≡ true → IsAllowed order kind × MayStrike situation kind targets
  may_pass kind e =
      let both : (is_allowed order kind ≡ true) × (is_none (bar situation (Striking kind) targets) ≡ true) = both_true _ _ e in
      (within order kind both.0, may_where law situation targets kind _ (first_is kind) (none_of _ both.1))

  passes_where : (kind : Kind) → IsAllowed order kind → MayStrike situation kind targets → passes kind ≡ true
  passes_where kind w may =
      ap (λ b. b && is_none (bar situation (Striking kind) targets)) (allowed order kind w)
      ∙ ap is_none (none_where law situation targets kind _ (first_is kind) may)

  pub verdict_answers : AnswersOrder situation order (verdict situation order)
  unfolding verdict
  verdict_answers = record {
    struck = find_is_hardest situation order targets passes may_pass passes_where;
    rule = first_is order.kind;
  }

  pub one_answers : (answer : Verdict) → AnswersOrder situation order answer → answer ≡ verdict situation order
  one_answers answer answers = λ i. record {
    struck = one_struck situation order targets answer.struck (verdict situation order).struck answers.struck verdict_answers.struck i;
    rule = one_rule law situation targets order.kind answer.rule (verdict situation order).rule answers.rule verdict_answers.rule i;
  }
