-- what the words of a verdict say of one that is written out
use Rattle.std.proofs.Common.{◌≡◌, ◌<◌, ℕ, Bool, not, List, Option, Some, None, length, refl, sym, subst, arith}
use Rattle.fy_locality.specs.declared.ProcId.{ProcId}
use Rattle.fy_policy.specs.Sat.{Sat}
use Rattle.fy_kinds.specs.declared.kind.Kind.{Kind}
use Rattle.fy_kinds.specs.Kinds.{Striking, rank}
use Rattle.fy_kinds.specs.Orders.{Order}
use Rattle.fy_kinds.specs.declared.verdict.Rule.{Rule}
use Rattle.fy_kinds.specs.declared.verdict.Rule.TheVariants.{NoTarget, NoGrant, Protected, TooManyDestroyed, TooFewLeft}
use Rattle.fy_kinds.specs.declared.verdict.Verdict.{Verdict}
use Rattle.fy_grants.specs.Least.{IsLeastWith}
use Rattle.fy_decide.specs.Safety.{with_set, without_set}
use Rattle.fy_decide.specs.Verdicts.{Situation, is_granted_to, verdict}
use Rattle.fy_decide.specs.Hardest.{HasTarget, AreGranted, AreUnprotected, StayShort, MayStrike, IsAllowed, StrikesHardest, IsFirstPolicy, FirstRule, AnswersOrder, VerdictAnswers}
use Rattle.fy_decide.specs.Hardest.StrikesHardest.{strikes, strikes_nobody}
use Rattle.fy_decide.specs.Hardest.FirstRule.{no_rule, no_target, no_grant, protected, too_many_destroyed, too_few_left}
use Rattle.fy_acts.specs.declared.reply.Reply.TheVariants.{Verdict as Verdicted}
use Rattle.fy_acts.specs.declared.entry.Entry.{Entry}
use Rattle.fy_cluster.specs.Setup.{Setup}
use Rattle.fy_laws.specs.Judged.{situation_after, JudgedAfter, StrikesAfter, NamesAfter}

-- ---- the verdict that is computed is accepted

module _ (law : VerdictAnswers) (c : Setup) (before : List Entry) (by : ℕ) (order : Order) where
  abbrev answer : Verdict
  answer = verdict (situation_after c before by) order

  pub right_strikes : (found : Option Kind) → answer.struck ≡ found → StrikesAfter c before by order found
  right_strikes found e = subst (StrikesAfter c before by order) e (law (situation_after c before by) order).struck

  pub right_names : (rule : Option Rule) → answer.rule ≡ rule → NamesAfter c before by order rule
  right_names rule e = subst (NamesAfter c before by order) e (law (situation_after c before by) order).rule

  pub right_judged : (v : Verdict) → by < length c.roles → answer ≡ v → JudgedAfter c before by order (Verdicted v)
  right_judged v there e = record {
    known = λ lt. (v, refl, subst (AnswersOrder (situation_after c before by) order) e (law (situation_after c before by) order));
    stranger = λ le. absurd (omega (arith, there, le));
  }

-- ---- what a judged reply says

same_verdict : (v w : Verdict) → Verdicted v ≡ Verdicted w → v ≡ w
same_verdict v w e = cc

module _ (c : Setup) (before : List Entry) (by : ℕ) (order : Order) (v : Verdict) (there : by < length c.roles) (judged : JudgedAfter c before by order (Verdicted v)) where
  answers : AnswersOrder (situation_after c before by) order v
  answers =
      let told = judged.known there in
      subst (AnswersOrder (situation_after c before by) order) (same_verdict told.0 v (sym told.1)) told.2

  pub judged_strikes : StrikesAfter c before by order v.struck
  judged_strikes = answers.struck

  pub judged_names : NamesAfter c before by order v.rule
  judged_names = answers.rule

-- ---- what struck

module _ (s : Situation) (order : Order) (t : ℕ → Bool) where
  pub struck_allowed : (found : Option Kind) (kind : Kind) → found ≡ Some kind → StrikesHardest s order t found → IsAllowed order kind
  struck_allowed found kind e (strikes k w may none) = let same : k ≡ kind = cc in subst (IsAllowed order) same w
  struck_allowed found kind e (strikes_nobody none) = absurd (let y : ⊥ = cc in y)

  pub struck_may : (found : Option Kind) (kind : Kind) → found ≡ Some kind → StrikesHardest s order t found → MayStrike s kind t
  struck_may found kind e (strikes k w may none) = let same : k ≡ kind = cc in subst (λ k. MayStrike s k t) same may
  struck_may found kind e (strikes_nobody none) = absurd (let y : ⊥ = cc in y)

  pub struck_hardest : (found : Option Kind) (kind : Kind) → found ≡ Some kind → StrikesHardest s order t found
      → (harder : Kind) → rank kind < rank harder → IsAllowed order harder → MayStrike s harder t → ⊥
  struck_hardest found kind e (strikes k w may none) =
      let same : k ≡ kind = cc in
      subst (λ k. (harder : Kind) → rank k < rank harder → IsAllowed order harder → MayStrike s harder t → ⊥) same none
  struck_hardest found kind e (strikes_nobody none) = absurd (let y : ⊥ = cc in y)

  pub none_struck : (found : Option Kind) → found ≡ None → StrikesHardest s order t found → (kind : Kind) → IsAllowed order kind → MayStrike s kind t → ⊥
  none_struck found e (strikes k w may none) = absurd (let y : ⊥ = cc in y)
  none_struck found e (strikes_nobody none) = none

-- ---- the rule that is named

module _ (s : Situation) (kind : Kind) (t : ℕ → Bool) where
  pub none_named : (found : Option Rule) → found ≡ None → FirstRule s kind t found → MayStrike s kind t
  none_named found e (no_rule may) = may
  none_named found e (no_target none) = absurd (let y : ⊥ = cc in y)
  none_named found e (no_grant p least) = absurd (let y : ⊥ = cc in y)
  none_named found e (protected p granted least) = absurd (let y : ⊥ = cc in y)
  none_named found e (too_many_destroyed k target granted free destroying first) = absurd (let y : ⊥ = cc in y)
  none_named found e (too_few_left k target granted free short good first) = absurd (let y : ⊥ = cc in y)

  pub target_named : (found : Option Rule) → found ≡ Some NoTarget → FirstRule s kind t found → HasTarget t → ⊥
  target_named found e (no_rule may) = absurd (let y : ⊥ = cc in y)
  target_named found e (no_target none) = none
  target_named found e (no_grant p least) = absurd (let y : ⊥ = cc in y)
  target_named found e (protected p granted least) = absurd (let y : ⊥ = cc in y)
  target_named found e (too_many_destroyed k target granted free destroying first) = absurd (let y : ⊥ = cc in y)
  target_named found e (too_few_left k target granted free short good first) = absurd (let y : ⊥ = cc in y)

  pub grant_named : (found : Option Rule) → (q : ProcId) → found ≡ Some (NoGrant q) → FirstRule s kind t found → IsLeastWith t (λ p. not (is_granted_to s (Striking kind) p)) q.0
  grant_named found q e (no_rule may) = absurd (let y : ⊥ = cc in y)
  grant_named found q e (no_target none) = absurd (let y : ⊥ = cc in y)
  grant_named found q e (no_grant p least) = let same : p ≡ q = cc in subst (λ (p : ProcId). IsLeastWith t (λ p. not (is_granted_to s (Striking kind) p)) p.0) same least
  grant_named found q e (protected p granted least) = absurd (let y : ⊥ = cc in y)
  grant_named found q e (too_many_destroyed k target granted free destroying first) = absurd (let y : ⊥ = cc in y)
  grant_named found q e (too_few_left k target granted free short good first) = absurd (let y : ⊥ = cc in y)

  pub protection_named : (found : Option Rule) → (q : ProcId) → found ≡ Some (Protected q) → FirstRule s kind t found → AreGranted s kind t × IsLeastWith t (λ p. s.is_protected p (Striking kind)) q.0
  protection_named found q e (no_rule may) = absurd (let y : ⊥ = cc in y)
  protection_named found q e (no_target none) = absurd (let y : ⊥ = cc in y)
  protection_named found q e (no_grant p least) = absurd (let y : ⊥ = cc in y)
  protection_named found q e (protected p granted least) = (granted, let same : p ≡ q = cc in subst (λ (p : ProcId). IsLeastWith t (λ p. s.is_protected p (Striking kind)) p.0) same least)
  protection_named found q e (too_many_destroyed k target granted free destroying first) = absurd (let y : ⊥ = cc in y)
  protection_named found q e (too_few_left k target granted free short good first) = absurd (let y : ⊥ = cc in y)

  pub destroyed_named : (found : Option Rule) → (i : ℕ) → found ≡ Some (TooManyDestroyed i) → FirstRule s kind t found → AreGranted s kind t × AreUnprotected s kind t × IsFirstPolicy s.policies (λ P. Sat s.processes P (with_set s.destroyed t)) i
  destroyed_named found i e (no_rule may) = absurd (let y : ⊥ = cc in y)
  destroyed_named found i e (no_target none) = absurd (let y : ⊥ = cc in y)
  destroyed_named found i e (no_grant p least) = absurd (let y : ⊥ = cc in y)
  destroyed_named found i e (protected p granted least) = absurd (let y : ⊥ = cc in y)
  destroyed_named found i e (too_many_destroyed k target granted free destroying first) = (granted, free, let same : k ≡ i = cc in subst (IsFirstPolicy s.policies (λ P. Sat s.processes P (with_set s.destroyed t))) same first)
  destroyed_named found i e (too_few_left k target granted free short good first) = absurd (let y : ⊥ = cc in y)

  pub left_named : (found : Option Rule) → (i : ℕ) → found ≡ Some (TooFewLeft i) → FirstRule s kind t found → StayShort s t × IsFirstPolicy s.policies (λ P. Sat s.processes P (without_set s.left t) → ⊥) i
  left_named found i e (no_rule may) = absurd (let y : ⊥ = cc in y)
  left_named found i e (no_target none) = absurd (let y : ⊥ = cc in y)
  left_named found i e (no_grant p least) = absurd (let y : ⊥ = cc in y)
  left_named found i e (protected p granted least) = absurd (let y : ⊥ = cc in y)
  left_named found i e (too_many_destroyed k target granted free destroying first) = absurd (let y : ⊥ = cc in y)
  left_named found i e (too_few_left k target granted free short good first) = (short, let same : k ≡ i = cc in subst (IsFirstPolicy s.policies (λ P. Sat s.processes P (without_set s.left t) → ⊥)) same first)
