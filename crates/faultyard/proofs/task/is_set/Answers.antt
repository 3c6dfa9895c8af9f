use Rattle.std.proofs.Common.{rules, ◌≡◌, ◌∙◌, true, false, None, Some, codes, refl, sym, ap, option_map}
use Rattle.clap.specs.Words.{found_of}
use Rattle.clap.proofs.WalkLemmas.{first_value-rows}
use Rattle.faultyard.proofs.task.is_set.Goals as goal

pub returns-in-Some-true : goal.returns-in-Some-true
returns-in-Some-true c = (
  λ flag. refl,
  λ set. sym (c.in-Some-true.ensures ∙ first_value-rows (found_of c.args.given.now) c.args.flag.now) ∙ ap Some c.in-Some-true.is-true,
)

pub returns-in_default : goal.returns-in_default
returns-in_default c = (
  λ flag.
      let same : Some c.in_default.field-0.now ≡ Some (codes "true") =
      sym (ap (option_map (λ s. s.now)) c.in_default.is) ∙ (c.get_str.ensures ∙ (first_value-rows (found_of c.args.given.now) c.args.flag.now ∙ flag)) in
      absurd (c.in_default.not-true (search rules)),
  λ set. let bad : false ≡ true = set in absurd (search rules),
)

pub returns-in_default-2 : goal.returns-in_default-2
returns-in_default-2 c = (
  λ flag.
      let bad : None ≡ Some (codes "true") =
      sym (ap (option_map (λ s. s.now)) c.in_default.is) ∙ (c.get_str.ensures ∙ (first_value-rows (found_of c.args.given.now) c.args.flag.now ∙ flag)) in
      absurd (search rules),
  λ set. let bad : false ≡ true = set in absurd (search rules),
)
