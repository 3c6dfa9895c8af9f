-- the history of steps, one step after another
use Rattle.std.proofs.Common.{◌≡◌, ℕ, ◌+◌, ◌<◌, List, [], ◌∷◌, ◌++◌, length, take, get_or, refl, ◌∙◌, ap}
use Rattle.fy_cluster.specs.History.{History}
use Rattle.fy_check_by_rules.specs.declared.step.FoundStep.{FoundStep}
use Rattle.fy_check_by_rules.specs.Past.{as_step, past_after, past}
use Rattle.fy_check_by_rules.proofs.Lists.{one_more}

after-push : (h : History) (steps : List FoundStep) (s : FoundStep) → past_after h (steps ++ s ∷ []) ≡ as_step (past_after h steps) s ∷ past_after h steps
after-push h [] s = refl
after-push h (x ∷ steps) s = after-push (as_step h x ∷ h) steps s

pub past_push : (steps : List FoundStep) (s : FoundStep) → past (steps ++ s ∷ []) ≡ as_step (past steps) s ∷ past steps
unfolding past
past_push steps s = after-push [] steps s

-- one step more
pub past_next : (steps : List FoundStep) (i : ℕ) (s : FoundStep) → i < length steps → s ≡ get_or steps i s → past (take (i + 1) steps) ≡ as_step (past (take i steps)) s ∷ past (take i steps)
past_next steps i s l e = ap past (one_more steps i s l e) ∙ past_push (take i steps) s

pub past_none : past [] ≡ []
unfolding past
past_none = refl
