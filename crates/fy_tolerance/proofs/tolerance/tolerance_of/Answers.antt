use Rattle.std.proofs.Common.{◌≡◌, ℕ, ◌-◌, ◌≤◌, Bool, true, [], ◌∷◌, length, subst, sym}
use Rattle.std.specs.FinSet as sets
use Rattle.fy_policy.specs.Counted.{number_of}
use Rattle.fy_policy.specs.Sat.{Sat}
use Rattle.fy_decide.specs.Safety.{MayDestroy}
use Rattle.fy_tolerance.specs.Costs.{HasNoAnd}
use Rattle.fy_tolerance.proofs.BorneLosses.{each_at}
use Rattle.fy_tolerance.proofs.Tolerating.{carried, exact_is_greatest, parts_of, read_at, stands_at}
use Rattle.fy_tolerance.proofs.tolerance.tolerance_of.Goals as goal

pub settled-requires-clause-short : goal.settled-requires-clause-short
settled-requires-clause-short c =
    let at = stands_at c.args.policies.now c.args.dead.now.policies c.args.index c.index-policies-index.result c.index-policies-index.is c.requires.policies c.requires.index in
    carried (λ ps q d l. Sat ps q (sets.contains d) → ⊥) _ _ _ _ _ _ _ _ (sym c.requires.map) (λ i. c.index-policies-index.result) (sym c.destroyed-destroyed.ensures.destroyed) (sym c.left-left.ensures.left)
    (each_at (λ P. Sat c.args.dead.now.processes P (sets.contains c.args.dead.now.destroyed) → ⊥) c.args.dead.now.policies c.args.index c.index-policies-index.result c.destroyed-destroyed.ensures.short at)

pub settled-requires-clause-satisfied : goal.settled-requires-clause-satisfied
settled-requires-clause-satisfied c =
    let at = stands_at c.args.policies.now c.args.dead.now.policies c.args.index c.index-policies-index.result c.index-policies-index.is c.requires.policies c.requires.index in
    carried (λ ps q d l. Sat ps q (sets.contains l)) _ _ _ _ _ _ _ _ (sym c.requires.map) (λ i. c.index-policies-index.result) (sym c.destroyed-destroyed.ensures.destroyed) (sym c.left-left.ensures.left)
    (each_at (λ P. Sat c.args.dead.now.processes P (sets.contains c.args.dead.now.left)) c.args.dead.now.policies c.args.index c.index-policies-index.result c.left-left.ensures.satisfied at)

pub settled-requires-clause-any : goal.settled-requires-clause-any
settled-requires-clause-any c =
    let at = stands_at c.args.policies.now c.args.dead.now.policies c.args.index c.index-policies-index.result c.index-policies-index.is c.requires.policies c.requires.index in
    carried (λ ps q d l. (s : ℕ → Bool) → number_of s (length ps) ≤ c.in_ok-part.part.least - 1 → MayDestroy ps (q ∷ []) (sets.contains d) (sets.contains l) s c.args.loss) _ _ _ _ _ _ _ _ (sym c.requires.map) (λ i. c.index-policies-index.result) (sym c.destroyed-destroyed.ensures.destroyed) (sym c.left-left.ensures.left)
    (c.in_ok-part.ensures.any c.index-policies-index.result at)

pub settled-requires-clause-too_many : goal.settled-requires-clause-too_many
settled-requires-clause-too_many c = λ bare.
    let at = stands_at c.args.policies.now c.args.dead.now.policies c.args.index c.index-policies-index.result c.index-policies-index.is c.requires.policies c.requires.index in
    carried (λ ps q d l. MayDestroy ps (q ∷ []) (sets.contains d) (sets.contains l) (sets.contains c.in_ok-part.part.set) c.args.loss → ⊥) _ _ _ _ _ _ _ _ (sym c.requires.map) (λ i. c.index-policies-index.result) (sym c.destroyed-destroyed.ensures.destroyed) (sym c.left-left.ensures.left)
    (c.in_ok-part.ensures.witness c.index-policies-index.result at bare).too_many

pub settled-requires-clause-exact : goal.settled-requires-clause-exact
settled-requires-clause-exact c = λ bare.
    let at = stands_at c.args.policies.now c.args.dead.now.policies c.args.index c.index-policies-index.result c.index-policies-index.is c.requires.policies c.requires.index in
    subst (λ ps. number_of (sets.contains c.in_ok-part.part.set) (length ps) ≤ c.in_ok-part.part.least) (sym c.requires.map) (c.in_ok-part.ensures.witness c.index-policies-index.result at bare).small

pub returns : goal.returns
returns c = λ policy at.
    let same : c.index-policies-index.result ≡ policy = read_at c.args.policies.now c.args.dead.now.policies c.args.index policy c.index-policies-index.result c.index-policies-index.is c.requires.policies at in
    let found = c.settled.result in
    let too_many : MayDestroy c.args.dead.now.processes (policy ∷ []) (sets.contains c.args.dead.now.destroyed) (sets.contains c.args.dead.now.left) (sets.contains found.too_many) c.args.loss → ⊥ =
    carried (λ ps q d l. MayDestroy ps (q ∷ []) (sets.contains d) (sets.contains l) (sets.contains found.too_many) c.args.loss → ⊥) _ _ _ _ _ _ _ _ c.requires.map same c.destroyed-destroyed.ensures.destroyed c.left-left.ensures.left c.settled.ensures.too_many in
    record {
      any = carried (λ ps q d l. (s : ℕ → Bool) → number_of s (length ps) ≤ found.any → MayDestroy ps (q ∷ []) (sets.contains d) (sets.contains l) s c.args.loss) _ _ _ _ _ _ _ _ c.requires.map same c.destroyed-destroyed.ensures.destroyed c.left-left.ensures.left c.settled.ensures.any;
      too_many = too_many;
      least = parts_of c.more_of_map_satisfies.ensures c.args.dead.now.processes policy (sets.contains c.args.dead.now.destroyed) (sets.contains c.args.dead.now.left) found.too_many c.args.loss
          (carried (λ ps q d l. (p : ℕ) → sets.contains found.too_many p ≡ true → MayDestroy ps (q ∷ []) (sets.contains d) (sets.contains l) (sets.contains (sets.remove found.too_many p)) c.args.loss) _ _ _ _ _ _ _ _ c.requires.map same c.destroyed-destroyed.ensures.destroyed c.left-left.ensures.left c.settled.ensures.least);
      greatest = exact_is_greatest c.args.dead.now policy c.args.loss found.any found.too_many too_many;
      none = c.settled.ensures.none;
      exact = λ bare. c.settled.ensures.exact (subst HasNoAnd (sym same) bare);
    }
