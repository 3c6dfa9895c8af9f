use Rattle.std.proofs.Common.{◌≡◌, ℕ, ◌-◌, ◌<◌, ◌≤◌, Bool, true, get_or, length, ap, sym, subst, ◌∙◌, arith}
use Rattle.std.specs.FinSet as sets
use Rattle.std.proofs.lemmas.Bool.Decides.{nat_tests}
use Rattle.std.proofs.lemmas.Option.{get_or_from_slice_get}
use Rattle.std.specs.Prelude.{nat_lt}
use Rattle.fy_policy.specs.Sat.{Sat}
use Rattle.fy_policy.specs.Shape.{tree_of}
use Rattle.fy_policy.specs.Tree.{IsPolicy, IsWellFormed}
use Rattle.fy_decide.specs.DeadBook.{Losses}
use Rattle.fy_tolerance.specs.Bears.{IsWitness, MayLoseBy}
use Rattle.fy_tolerance.specs.Costs.{HasNoAnd, IsBreaking, IsEnough, LacksAtLeast, NeedsAtLeast}
use Rattle.fy_tolerance.specs.declared.parts.Part.{Part}
use Rattle.fy_tolerance.proofs.BorneLosses.{each_at, short-with, satisfied-without}
use Rattle.fy_tolerance.proofs.Tolerating.{carried}
use Rattle.fy_tolerance.proofs.Witnessing.{witness-emptied, witness-gone}
use Rattle.fy_tolerance.proofs.tolerance.fewest_of.Goals.{in-Emptied, in-Gone}
use Rattle.fy_tolerance.proofs.tolerance.fewest_of.Goals as goal

pub returns-clause-any : goal.returns-clause-any
returns-clause-any c = λ policy at s small.
    let same : c.index-policies-index.result ≡ policy = c.index-policies-index.is ∙ ap (λ ps. get_or ps c.args.index c.index-policies-index.result) c.requires.policies ∙ get_or_from_slice_get c.args.dead.now.policies c.args.index policy c.index-policies-index.result at in
    let is : tree_of c.shape-shape.result.now ≡ policy = c.shape-shape.ensures.shape ∙ same in
    let formed : IsPolicy c.index-policies-index.result = c.shape-shape.ensures.policy in
    let counted : IsWellFormed (tree_of c.shape-shape.result.now) = subst IsWellFormed (sym c.shape-shape.ensures.shape) formed.counted in
    let needs0 : NeedsAtLeast c.args.dead.now.processes policy (sets.contains c.everyone.result) (sets.contains c.destroyed-destroyed.result) c.in_ok-needed.needed.least =
    subst (λ q. NeedsAtLeast c.args.dead.now.processes q (sets.contains c.everyone.result) (sets.contains c.destroyed-destroyed.result) c.in_ok-needed.needed.least) is
    (subst (λ ps. NeedsAtLeast ps (tree_of c.shape-shape.result.now) (sets.contains c.everyone.result) (sets.contains c.destroyed-destroyed.result) c.in_ok-needed.needed.least) c.requires.map (c.in_ok-needed.ensures.least counted)) in
    let needs : NeedsAtLeast c.args.dead.now.processes policy (sets.contains c.everyone.result) (sets.contains c.args.dead.now.destroyed) c.in_ok-needed.needed.least =
    subst (λ d. NeedsAtLeast c.args.dead.now.processes policy (sets.contains c.everyone.result) (sets.contains d) c.in_ok-needed.needed.least) c.destroyed-destroyed.ensures.destroyed needs0 in
    let lacks0 : LacksAtLeast c.args.dead.now.processes policy (sets.contains c.left-left.result) c.in_ok-lacked.lacked.least =
    subst (λ q. LacksAtLeast c.args.dead.now.processes q (sets.contains c.left-left.result) c.in_ok-lacked.lacked.least) is
    (subst (λ ps. LacksAtLeast ps (tree_of c.shape-shape.result.now) (sets.contains c.left-left.result) c.in_ok-lacked.lacked.least) c.requires.map (c.in_ok-lacked.ensures.least counted)) in
    let lacks : LacksAtLeast c.args.dead.now.processes policy (sets.contains c.args.dead.now.left) c.in_ok-lacked.lacked.least =
    subst (λ l. LacksAtLeast c.args.dead.now.processes policy (sets.contains l) c.in_ok-lacked.lacked.least) c.left-left.ensures.left lacks0 in
    let short : Sat c.args.dead.now.processes policy (sets.contains c.args.dead.now.destroyed) → ⊥ =
    each_at (λ P. Sat c.args.dead.now.processes P (sets.contains c.args.dead.now.destroyed) → ⊥) c.args.dead.now.policies c.args.index policy c.destroyed-destroyed.ensures.short at in
    let met : Sat c.args.dead.now.processes policy (sets.contains c.args.dead.now.left) =
    each_at (λ P. Sat c.args.dead.now.processes P (sets.contains c.args.dead.now.left)) c.args.dead.now.policies c.args.index policy c.left-left.ensures.satisfied at in
    let everyone : (p : ℕ) → p < length c.args.dead.now.processes → sets.contains c.everyone.result p ≡ true = λ p below. c.everyone.ensures p ∙ ap (λ ps. nat_lt p (length ps)) c.requires.map ∙ inside p (length c.args.dead.now.processes) below in
    elim c.match-loss.branch [
      | in-Emptied w ↦
          let least : c.match-loss.part.least ≡ c.in_ok-needed.needed.least = ap (λ part. part.least) w.part-is in
          subst (MayLoseBy c.args.dead.now policy s) (sym w.in-Emptied.is)
          (short-with c.args.dead.now.processes policy c.test_is_satisfaction.ensures c.more_of_map_satisfies.ensures (sets.contains c.everyone.result) (sets.contains c.args.dead.now.destroyed) c.in_ok-needed.needed.least (c.match-loss.part.least - 1) everyone needs short (omega arith) s small, tt)
      | in-Gone w ↦
          let least : c.match-loss.part.least ≡ w.lesser-part.result.least = ap (λ part. part.least) w.part-is in
          let first : w.lesser-part.result.least ≤ c.in_ok-needed.needed.least = w.lesser-part.ensures.first in
          let second : w.lesser-part.result.least ≤ c.in_ok-lacked.lacked.least = w.lesser-part.ensures.second in
          subst (MayLoseBy c.args.dead.now policy s) (sym w.in-Gone.is) (
            (short-with c.args.dead.now.processes policy c.test_is_satisfaction.ensures c.more_of_map_satisfies.ensures (sets.contains c.everyone.result) (sets.contains c.args.dead.now.destroyed) c.in_ok-needed.needed.least (c.match-loss.part.least - 1) everyone needs short (omega arith) s small, tt),
            (satisfied-without c.args.dead.now.processes policy c.test_is_satisfaction.ensures c.more_of_map_satisfies.ensures (sets.contains c.args.dead.now.left) c.in_ok-lacked.lacked.least (c.match-loss.part.least - 1) lacks met (omega arith) s small, tt),
          )
    ]
  where
    inside : (p n : ℕ) → p < n → nat_lt p n ≡ true
    inside p n h = grind (arith, nat_tests)

pub returns-clause-witness : goal.returns-clause-witness
returns-clause-witness c = λ policy at bare.
    let dead : Losses = c.args.dead.now in
    let needed : Part = c.in_ok-needed.needed in
    let lacked : Part = c.in_ok-lacked.lacked in
    let same : c.index-policies-index.result ≡ policy = c.index-policies-index.is ∙ ap (λ ps. get_or ps c.args.index c.index-policies-index.result) c.requires.policies ∙ get_or_from_slice_get dead.policies c.args.index policy c.index-policies-index.result at in
    let is : tree_of c.shape-shape.result.now ≡ policy = c.shape-shape.ensures.shape ∙ same in
    let formed : IsPolicy c.index-policies-index.result = c.shape-shape.ensures.policy in
    let counted : IsWellFormed (tree_of c.shape-shape.result.now) = subst IsWellFormed (sym c.shape-shape.ensures.shape) formed.counted in
    let all : ℕ → Bool = sets.contains c.everyone.result in
    let needs : NeedsAtLeast dead.processes policy all (sets.contains dead.destroyed) needed.least =
    carried (λ ps q d l. NeedsAtLeast ps q all (sets.contains d) needed.least) _ _ _ _ _ _ _ _ c.requires.map is c.destroyed-destroyed.ensures.destroyed c.left-left.ensures.left (c.in_ok-needed.ensures.least counted) in
    let enough : needed.least ≤ 1024 → IsEnough dead.processes policy all (sets.contains dead.destroyed) needed =
    carried (λ ps q d l. needed.least ≤ 1024 → IsEnough ps q all (sets.contains d) needed) _ _ _ _ _ _ _ _ c.requires.map is c.destroyed-destroyed.ensures.destroyed c.left-left.ensures.left
    (c.in_ok-needed.ensures.enough counted (subst HasNoAnd (sym is) bare) (λ p h. sym (c.everyone.ensures p) ∙ h)) in
    let breaking : lacked.least ≤ 1024 → IsBreaking dead.processes policy (sets.contains dead.left) lacked =
    carried (λ ps q d l. lacked.least ≤ 1024 → IsBreaking ps q (sets.contains l) lacked) _ _ _ _ _ _ _ _ c.requires.map is c.destroyed-destroyed.ensures.destroyed c.left-left.ensures.left (c.in_ok-lacked.ensures.breaking counted) in
    let met : Sat dead.processes policy (sets.contains dead.left) = each_at (λ P. Sat dead.processes P (sets.contains dead.left)) dead.policies c.args.index policy c.left-left.ensures.satisfied at in
    let everyone : (p : ℕ) → p < length dead.processes → all p ≡ true = λ p below. c.everyone.ensures p ∙ ap (λ ps. nat_lt p (length ps)) c.requires.map ∙ inside p (length dead.processes) below in
    let few : length dead.processes ≤ 1024 = subst (λ ps. length ps ≤ 1024) c.requires.map c.len-few.ensures.few in
    elim c.match-loss.branch [
      | in-Emptied w ↦
          subst (λ loss. IsWitness dead policy loss c.match-loss.part) (sym w.in-Emptied.is)
          (witness-emptied c.test_is_satisfaction.ensures c.more_of_map_satisfies.ensures dead policy all everyone few met needed lacked needs enough breaking c.match-loss.part w.part-is)
      | in-Gone w ↦
          subst (λ loss. IsWitness dead policy loss c.match-loss.part) (sym w.in-Gone.is)
          (witness-gone c.test_is_satisfaction.ensures c.more_of_map_satisfies.ensures dead policy all everyone few met needed lacked needs enough breaking c.match-loss.part (w.part-is ∙ w.lesser-part.ensures.which))
    ]
  where
    inside : (p n : ℕ) → p < n → nat_lt p n ≡ true
    inside p n h = grind (arith, nat_tests)
