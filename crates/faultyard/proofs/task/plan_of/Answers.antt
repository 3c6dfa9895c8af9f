use Rattle.std.proofs.Common.{rules, ◌≡◌, ◌∙◌, inl, inr, None, Some, codes, sym, ap}
use Rattle.clap.specs.Words.{found_of}
use Rattle.clap.proofs.WalkLemmas.{first_value-rows}
use Rattle.faultyard.proofs.task.plan_of.Goals as goal

pub returns-in-Some-mixed : goal.returns-in-Some-mixed
returns-in-Some-mixed c =
    inr
    (sym (c.in-Some-mixed.ensures ∙ first_value-rows (found_of c.args.given.now) (codes "plan"))
    ∙ ap Some c.in-Some-mixed.is-mixed)

pub returns-in-Some-attrition : goal.returns-in-Some-attrition
returns-in-Some-attrition c =
    sym (c.in-Some-attrition.ensures ∙ first_value-rows (found_of c.args.given.now) (codes "plan"))
    ∙ ap Some c.in-Some-attrition.is-attrition

pub returns-in-Some-swizzle : goal.returns-in-Some-swizzle
returns-in-Some-swizzle c =
    sym (c.in-Some-swizzle.ensures ∙ first_value-rows (found_of c.args.given.now) (codes "plan"))
    ∙ ap Some c.in-Some-swizzle.is-swizzle

pub returns-in-Some-rolling : goal.returns-in-Some-rolling
returns-in-Some-rolling c =
    sym (c.in-Some-rolling.ensures ∙ first_value-rows (found_of c.args.given.now) (codes "plan"))
    ∙ ap Some c.in-Some-rolling.is-rolling

pub returns-in-Some : goal.returns-in-Some
returns-in-Some c = (
  λ none.
      let bad : Some c.in-Some.field-0.now ≡ None =
      c.in-Some.ensures ∙ (first_value-rows (found_of c.args.given.now) (codes "plan") ∙ none) in
      absurd (search rules),
  λ flag.
      let same : Some c.in-Some.field-0.now ≡ Some (codes "mixed") =
      c.in-Some.ensures ∙ (first_value-rows (found_of c.args.given.now) (codes "plan") ∙ flag) in
      absurd (c.in-Some.not-mixed (search rules)),
  λ flag.
      let same : Some c.in-Some.field-0.now ≡ Some (codes "attrition") =
      c.in-Some.ensures ∙ (first_value-rows (found_of c.args.given.now) (codes "plan") ∙ flag) in
      absurd (c.in-Some.not-attrition (search rules)),
  λ flag.
      let same : Some c.in-Some.field-0.now ≡ Some (codes "swizzle") =
      c.in-Some.ensures ∙ (first_value-rows (found_of c.args.given.now) (codes "plan") ∙ flag) in
      absurd (c.in-Some.not-swizzle (search rules)),
  λ flag.
      let same : Some c.in-Some.field-0.now ≡ Some (codes "rolling") =
      c.in-Some.ensures ∙ (first_value-rows (found_of c.args.given.now) (codes "plan") ∙ flag) in
      absurd (c.in-Some.not-rolling (search rules)),
)

pub returns-in-None : goal.returns-in-None
returns-in-None c =
    inl (sym (c.in-None.ensures ∙ first_value-rows (found_of c.args.given.now) (codes "plan")))
