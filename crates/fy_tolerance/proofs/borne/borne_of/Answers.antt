use Rattle.std.proofs.Common.{◌≡◌, ◌≤◌, length, refl, ap, subst, ◌∙◌}
use Rattle.fy_policy.specs.Counted.{number_of}
use Rattle.fy_tolerance.specs.Bears.{least_any}
use Rattle.fy_tolerance.proofs.Tolerating.{all_bear}
use Rattle.fy_tolerance.proofs.borne.borne_of.Goals as goal

pub returns : goal.returns
returns c =
    let any : c.least_any-any.result ≡ least_any (length c.args.dead.now.processes) c.in_ok-tolerances.tolerances.items =
    c.least_any-any.ensures ∙ ap (λ found. least_any c.len.result found) c.deref.ensures.value ∙ ap (λ n. least_any n c.in_ok-tolerances.tolerances.items) (c.len.ensures.count ∙ ap length c.requires.map) in
    record {
      of_loss = refl;
      tolerances = c.in_ok-tolerances.ensures;
      any = any;
      borne = λ s few. all_bear c.args.dead.now c.args.loss s c.args.dead.now.policies c.in_ok-tolerances.tolerances.items (length c.args.dead.now.processes) c.in_ok-tolerances.ensures (subst (λ n. number_of s (length c.args.dead.now.processes) ≤ n) any few);
      processes = c.in_ok-borne_alone.ensures;
      machines = c.in_ok-group_of.ensures;
      zones = c.in_ok-group_of-2.ensures;
      halls = c.in_ok-group_of-3.ensures;
      data_centers = c.in_ok-group_of-4.ensures;
    }
