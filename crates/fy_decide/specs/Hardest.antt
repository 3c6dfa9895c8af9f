-- the verdict in words: the hardest kind that nothing bars strikes, and the first rule against the
-- ordered kind is named
use Rattle.std.specs.Prelude.{◌≡◌, ℕ, ◌<◌, ◌≤◌, Bool, not, IsTrue, IsFalse, List, Option, Some, None, slice_get}
use Rattle.fy_locality.specs.declared.ProcId.{ProcId}
use Rattle.fy_policy.specs.Tree.{Tree}
use Rattle.fy_policy.specs.Sat.{Sat}
use Rattle.fy_kinds.specs.declared.kind.Kind.{Kind}
use Rattle.fy_kinds.specs.Kinds.{Striking, rank, is_destroying, destroys_for_good}
use Rattle.fy_kinds.specs.Orders.{Order}
use Rattle.fy_kinds.specs.declared.verdict.Rule.{Rule}
use Rattle.fy_kinds.specs.declared.verdict.Rule.TheVariants.{NoTarget, NoGrant, Protected, TooManyDestroyed, TooFewLeft}
use Rattle.fy_kinds.specs.declared.verdict.Verdict.{Verdict}
use Rattle.fy_grants.specs.Least.{IsLeastWith}
use Rattle.fy_decide.specs.Safety.{AreShort, AreSatisfied, with_set, without_set}
use Rattle.fy_decide.specs.Verdicts.{Situation, is_granted_to, order_targets, verdict}

-- there is a target
abbrev pub HasTarget : (ℕ → Bool) → Type 0
HasTarget targets = (p : ℕ) × IsTrue (targets p)

-- each target is covered by a grant of the actor that has the kind
abbrev pub AreGranted : Situation → Kind → (ℕ → Bool) → Type 0
AreGranted situation kind targets =
    (p : ℕ) → IsTrue (targets p) → IsTrue (is_granted_to situation (Striking kind) p)

-- no target is protected from the kind
abbrev pub AreUnprotected : Situation → Kind → (ℕ → Bool) → Type 0
AreUnprotected situation kind targets =
    (p : ℕ) → IsTrue (targets p) → IsFalse (situation.is_protected p (Striking kind))

-- the destroyed with the targets are short of every policy
abbrev pub StayShort : Situation → (ℕ → Bool) → Type 0
StayShort situation targets =
    AreShort situation.processes situation.policies (with_set situation.destroyed targets)

-- those left without the targets satisfy every policy
abbrev pub StaySatisfied : Situation → (ℕ → Bool) → Type 0
StaySatisfied situation targets =
    AreSatisfied situation.processes situation.policies (without_set situation.left targets)

-- nothing bars a kind at its targets: not the grants, not a protection and, where it destroys or
-- kills for good, not replication
pub record MayStrike (situation : Situation) (kind : Kind) (targets : ℕ → Bool) : Type 0 where
  pub target : HasTarget targets
  pub granted : AreGranted situation kind targets
  pub unprotected : AreUnprotected situation kind targets
  pub short : IsTrue (is_destroying kind) → StayShort situation targets
  pub satisfied : IsTrue (destroys_for_good kind) → StaySatisfied situation targets

-- a kind lies between the floor of an order and its ordered kind
pub record IsAllowed (order : Order) (kind : Kind) : Type 0 where
  pub floor : rank order.floor ≤ rank kind
  pub ordered : rank kind ≤ rank order.kind

-- what strikes lies within the order, nothing bars it, and every harder kind within the order is
-- barred; nothing strikes only where every kind within the order is barred
pub data StrikesHardest (situation : Situation) (order : Order) (targets : ℕ → Bool)
    : Option Kind → Type 0 where
  strikes : (kind : Kind) → IsAllowed order kind → MayStrike situation kind targets →
      ((harder : Kind) → rank kind < rank harder → IsAllowed order harder →
      MayStrike situation harder targets → ⊥) →
      StrikesHardest situation order targets (Some kind)
  strikes_nobody :
      ((kind : Kind) → IsAllowed order kind → MayStrike situation kind targets → ⊥) →
      StrikesHardest situation order targets None

-- policy k is the first of which something holds
pub record IsFirstPolicy (policies : List Tree) (Holds : Tree → Type 0) (k : ℕ) : Type 0 where
  pub policy : Tree
  pub at : slice_get policies k ≡ Some policy
  pub holds : Holds policy
  pub none_before : (i : ℕ) (earlier : Tree) → i < k → slice_get policies i ≡ Some earlier →
      Holds earlier → ⊥

-- the first rule that bars a kind at its targets, with the least process or policy for which it
-- does; no rule where nothing bars it
pub data FirstRule (situation : Situation) (kind : Kind) (targets : ℕ → Bool)
    : Option Rule → Type 0 where
  no_rule : MayStrike situation kind targets → FirstRule situation kind targets None
  no_target : (HasTarget targets → ⊥) → FirstRule situation kind targets (Some NoTarget)
  no_grant : (p : ProcId) →
      IsLeastWith targets (λ q. not (is_granted_to situation (Striking kind) q)) p.0 →
      FirstRule situation kind targets (Some (NoGrant p))
  protected : (p : ProcId) → AreGranted situation kind targets →
      IsLeastWith targets (λ q. situation.is_protected q (Striking kind)) p.0 →
      FirstRule situation kind targets (Some (Protected p))
  too_many_destroyed : (k : ℕ) → HasTarget targets → AreGranted situation kind targets →
      AreUnprotected situation kind targets → IsTrue (is_destroying kind) →
      IsFirstPolicy situation.policies
      (λ P. Sat situation.processes P (with_set situation.destroyed targets)) k →
      FirstRule situation kind targets (Some (TooManyDestroyed k))
  too_few_left : (k : ℕ) → HasTarget targets → AreGranted situation kind targets →
      AreUnprotected situation kind targets → StayShort situation targets →
      IsTrue (destroys_for_good kind) →
      IsFirstPolicy situation.policies
      (λ P. Sat situation.processes P (without_set situation.left targets) → ⊥) k →
      FirstRule situation kind targets (Some (TooFewLeft k))

-- a verdict answers an order: it strikes with the hardest kind that may strike the order's targets,
-- and names the first rule that bars the ordered kind
pub record AnswersOrder (situation : Situation) (order : Order) (verdict : Verdict) : Type 0 where
  pub struck : StrikesHardest situation order (order_targets situation order) verdict.struck
  pub rule : FirstRule situation order.kind (order_targets situation order) verdict.rule

-- ---- what the law of the verdict states

-- the verdict is the one that answers the order
abbrev pub VerdictAnswers : Type 0
VerdictAnswers = (situation : Situation) (order : Order) →
    AnswersOrder situation order (verdict situation order)

-- no other does
abbrev pub OneVerdictAnswers : Type 0
OneVerdictAnswers = (situation : Situation) (order : Order) (answer : Verdict) →
    AnswersOrder situation order answer → answer ≡ verdict situation order
