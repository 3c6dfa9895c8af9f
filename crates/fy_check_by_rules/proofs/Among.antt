-- who is one of some processes
use Rattle.std.proofs.Common.{◌≡◌, ◌==◌, ◌||◌, ◌&&◌, not, ℕ, Bool, true, false, List, [], ◌∷◌, ◌++◌, filter, cond, Some, refl, sym, ◌∙◌, ap, arith}
use Rattle.std.specs.Prelude.{option_map}
use Rattle.fy_cluster.specs.History.{some_is, heals, heals_at}
use Rattle.fy_check_by_rules.specs.declared.step.FoundStep.{FoundStep}
use Rattle.fy_check_by_rules.specs.Past.{as_step}
use Rattle.std.proofs.lemmas.Bool.Decides.{nat_tests}
use Rattle.fy_locality.specs.declared.ProcId.{ProcId}
use Rattle.fy_team.specs.Teams.{is_among}

pub among-none : (p : ℕ) → is_among [] p ≡ false
among-none p = refl

or_assoc : (a b d : Bool) → ((a || b) || d) ≡ (a || (b || d))
or_assoc true b d = refl
or_assoc false b d = refl

-- one more
pub among-push : (ps : List ProcId) (q : ProcId) (p : ℕ) → is_among (ps ++ q ∷ []) p ≡ (is_among ps p || q.0 == p)
among-push [] q p = at (q.0 == p)
  where
    at : (b : Bool) → (b || false) ≡ (false || b)
    at true = refl
    at false = refl
among-push (x ∷ ps) q p = ap (λ b. x.0 == p || b) (among-push ps q p) ∙ sym (or_assoc (x.0 == p) (is_among ps p) (q.0 == p))

-- all but one
pub among-without : (ps : List ProcId) (q : ProcId) (p : ℕ) → is_among (filter (λ x. not (x.0 == q.0)) ps) p ≡ (not (q.0 == p) && is_among ps p)
among-without [] q p = at (q.0 == p)
  where
    at : (b : Bool) → false ≡ (not b && false)
    at true = refl
    at false = refl
among-without (x ∷ ps) q p = at (x.0 == q.0) refl (among-without ps q p)
  where
    rest : List ProcId
    rest = filter (λ x. not (x.0 == q.0)) ps

    at : (b : Bool) → b ≡ (x.0 == q.0) → is_among rest p ≡ (not (q.0 == p) && is_among ps p) → is_among (cond (not b) (x ∷ rest) rest) p ≡ (not (q.0 == p) && (x.0 == p || is_among ps p))
    at true e ih = ih ∙ grind (arith, nat_tests)
    at false e ih = ap (λ b. x.0 == p || b) ih ∙ grind (arith, nat_tests)

and_true : (b : Bool) → b ≡ (b && not false)
and_true true = refl
and_true false = refl

-- the process that a step heals, where the record wasn't acknowledged
pub healed_at : (s : FoundStep) (healed : ProcId) (was : Bool) (p : ℕ) → option_map (λ (q : ProcId). q.0) (Some healed) ≡ heals s.entry.act s.entry.reply → was ≡ false → (healed.0 == p) ≡ (heals_at (as_step [] s) p && not was)
healed_at s healed was p e f = ap (some_is (λ q. q == p)) e ∙ and_true (heals_at (as_step [] s) p) ∙ ap (λ b. heals_at (as_step [] s) p && not b) (sym f)

pub ruleset among = (among-none, among-push, among-without)
