-- from what the code finds to the rules
use Rattle.std.proofs.Common.{◌≡◌, ℕ, Bool, true, false, [], ◌∷◌, not, refl, sym, ◌∙◌, ap}
use Rattle.std.specs.List.{list_any}
use Rattle.std.specs.Prelude.{Option, None, Some, option_map, if◌then◌else◌}
use Rattle.fy_locality.specs.declared.ProcId.{ProcId}
use Rattle.fy_kinds.specs.declared.kind.Kind.{Kind}
use Rattle.fy_kinds.specs.declared.verdict.Rule.{Rule}
use Rattle.fy_kinds.specs.declared.verdict.Rule.TheVariants.{NoTarget, NoGrant, Protected, TooManyDestroyed, TooFewLeft}
use Rattle.fy_kinds.specs.Kinds.{Deed, Striking, is_kill_which, is_destroying, destroys_for_good}
use Rattle.fy_kinds.specs.Orders.{Order}
use Rattle.fy_decide.specs.Verdicts.{Situation, numbers, least, is_granted_to, too_many_destroyed, too_few_left, first_rule, order_targets, bar, hardest, verdict}

-- a rule of the least that was found
pub of_least : (rule : ProcId → Rule) (found least : Option ℕ) (p : ℕ) → found ≡ Some p → found ≡ least → Some (rule (record { 0 = p })) ≡ option_map rule (option_map (λ q. record { 0 = q }) least)
of_least rule found least p is same = ap (λ o. option_map rule (option_map (λ (q : ℕ). let it : ProcId = record { 0 = q } in it) o)) (sym is ∙ same)

pub of_none : (rule : ProcId → Rule) (found least : Option ℕ) → found ≡ None → found ≡ least → None ≡ option_map rule (option_map (λ q. record { 0 = q }) least)
of_none rule found least is same = ap (λ o. option_map rule (option_map (λ (q : ℕ). let it : ProcId = record { 0 = q } in it) o)) (sym is ∙ same)

-- a rule of the least policy that was found
pub of_policy : (rule : ℕ → Rule) (b : Bool) (found least : Option ℕ) (policy : ℕ) → b ≡ true → found ≡ Some policy → found ≡ least → Some (rule policy) ≡ (if b then option_map rule least else None)
of_policy rule b found least policy may is same = ap (option_map rule) (sym is ∙ same) ∙ ap (λ t. if t then option_map rule least else None) (sym may)

pub of_no_policy : (rule : ℕ → Rule) (b : Bool) (found least : Option ℕ) → b ≡ true → found ≡ None → found ≡ least → None ≡ (if b then option_map rule least else None)
of_no_policy rule b found least may is same = ap (option_map rule) (sym is ∙ same) ∙ ap (λ t. if t then option_map rule least else None) (sym may)

-- the rule that there are no targets
pub of_targets : (rule : Rule) (b any : Bool) → b ≡ any → b ≡ true → None ≡ (if any then None else Some rule)
of_targets rule b any is there = ap (λ t. if t then None else Some rule) (sym there ∙ is)

pub of_no_targets : (rule : Rule) (b any : Bool) → b ≡ any → b ≡ false → Some rule ≡ (if any then None else Some rule)
of_no_targets rule b any is missing = ap (λ t. if t then None else Some rule) (sym missing ∙ is)

-- the verdict of what strikes and what bars
pub judged : (situation : Situation) (order : Order) (s : ℕ → Bool) (kind : Kind) (struck : Option Kind) (rule : Option Rule) → ((p : ℕ) → s p ≡ order_targets situation order p) → kind ≡ order.kind → struck ≡ hardest situation order s → rule ≡ bar situation (Striking kind) s
    → record { struck = struck; rule = rule } ≡ verdict situation order
unfolding verdict
judged situation order s kind struck rule each is strikes bars = λ i. record {
  struck = (strikes ∙ ap (hardest situation order) (λ j p. each p j)) i;
  rule = (bars ∙ ap (λ k. bar situation (Striking k) s) is ∙ ap (bar situation (Striking order.kind)) (λ j p. each p j)) i;
}

-- ---- the first of five

module _ (situation : Situation) (deed : Deed) (s : ℕ → Bool) where
  abbrev untargeted : Option Rule
  untargeted = if list_any s (numbers situation) then None else Some NoTarget

  abbrev ungranted : Option Rule
  ungranted = option_map NoGrant (least situation s (λ p. not (is_granted_to situation deed p)))

  abbrev kept_from : Option Rule
  kept_from = option_map Protected (least situation s (λ p. situation.is_protected p deed))

  abbrev many : Option Rule
  many = if is_kill_which is_destroying deed then option_map TooManyDestroyed (too_many_destroyed situation s) else None

  abbrev few : Option Rule
  few = if is_kill_which destroys_for_good deed then option_map TooFewLeft (too_few_left situation s) else None

  pub bar_first : (a : Option Rule) (rule : Rule) → a ≡ untargeted → a ≡ Some rule → Some rule ≡ bar situation deed s
  unfolding bar
  bar_first a rule ea is = λ i. first_rule ((sym is ∙ ea) i ∷ ungranted ∷ kept_from ∷ many ∷ few ∷ [])

  pub bar_second : (a b : Option Rule) (rule : Rule) → a ≡ untargeted → a ≡ None → b ≡ ungranted → b ≡ Some rule → Some rule ≡ bar situation deed s
  unfolding bar
  bar_second a b rule ea na eb is = λ i. first_rule ((sym na ∙ ea) i ∷ (sym is ∙ eb) i ∷ kept_from ∷ many ∷ few ∷ [])

  pub bar_third : (a b d : Option Rule) (rule : Rule) → a ≡ untargeted → a ≡ None → b ≡ ungranted → b ≡ None → d ≡ kept_from → d ≡ Some rule → Some rule ≡ bar situation deed s
  unfolding bar
  bar_third a b d rule ea na eb nb ed is = λ i. first_rule ((sym na ∙ ea) i ∷ (sym nb ∙ eb) i ∷ (sym is ∙ ed) i ∷ many ∷ few ∷ [])

  pub bar_fourth : (a b d e : Option Rule) (rule : Rule) → a ≡ untargeted → a ≡ None → b ≡ ungranted → b ≡ None → d ≡ kept_from → d ≡ None → e ≡ many → e ≡ Some rule → Some rule ≡ bar situation deed s
  unfolding bar
  bar_fourth a b d e rule ea na eb nb ed nd ee is = λ i. first_rule ((sym na ∙ ea) i ∷ (sym nb ∙ eb) i ∷ (sym nd ∙ ed) i ∷ (sym is ∙ ee) i ∷ few ∷ [])

  pub bar_fifth : (a b d e f : Option Rule) → a ≡ untargeted → a ≡ None → b ≡ ungranted → b ≡ None → d ≡ kept_from → d ≡ None → e ≡ many → e ≡ None → f ≡ few → f ≡ bar situation deed s
  unfolding bar
  bar_fifth a b d e f ea na eb nb ed nd ee ne ef = only f ∙ (λ i. first_rule ((sym na ∙ ea) i ∷ (sym nb ∙ eb) i ∷ (sym nd ∙ ed) i ∷ (sym ne ∙ ee) i ∷ ef i ∷ []))
    where
      only : (r : Option Rule) → r ≡ first_rule (r ∷ [])
      only None = refl
      only (Some rule) = refl
