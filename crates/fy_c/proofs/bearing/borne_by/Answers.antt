use Rattle.std.proofs.Common.{◌≡◌, ◌≤◌, ◌<◌, length, sym, ap, subst, ◌∙◌}
use Rattle.fy_policy.specs.Counted.{number_of}
use Rattle.fy_tolerance.specs.Bears.{least_any}
use Rattle.fy_tolerance.proofs.Tolerating.{all_bear}
use Rattle.fy_c.specs.Bearing.{is_exact}
use Rattle.fy_c.specs.Numbers.{bit}
use Rattle.fy_c.proofs.Exact.{bit_of, none_greater, zero_is_exact}
use Rattle.fy_c.proofs.bearing.borne_by.Goals as goal

pub returns : goal.returns
returns c =
    let dead = c.args.dead.now in
    let found = c.in_ok-tolerances.tolerances.items in
    let any = c.least_any-any.result in
    let count = length dead.processes in
    let any_is : any ≡ least_any count found =
    c.least_any-any.ensures ∙ ap (λ them. least_any c.len.result them) c.deref.ensures.value
    ∙ ap (λ n. least_any n found) (c.len.ensures.count ∙ ap length c.requires.map) in
    let exact_is : c.bit.result ≡ bit (is_exact any found) 1 =
    c.bit.ensures
    ∙ ap (λ b. bit b 1) (c.is_exact.ensures ∙ ap (is_exact any) c.deref-2.ensures.value) in
    record {
      found = found;
      tolerances = c.in_ok-tolerances.ensures;
      any_is = any_is;
      exact_is = exact_is;
      borne = λ s few.
          all_bear dead c.args.loss s dead.policies found count c.in_ok-tolerances.ensures
          (subst (λ n. number_of s count ≤ n) any_is few);
      greatest = λ exact.
          none_greater dead c.args.loss dead.policies found any c.in_ok-tolerances.ensures
          (bit_of (is_exact any found) (sym exact_is ∙ exact));
      none = λ nothing.
          exact_is
          ∙ ap (λ b. bit b 1)
          (zero_is_exact dead c.args.loss dead.policies found any c.in_ok-tolerances.ensures
          (subst (λ policies. 0 < length policies) c.requires.policies c.requires.some)
          any_is nothing);
    }
