use Rattle.std.proofs.Common.{subst, sym, ◌∙◌}
use Rattle.std.specs.List.{AllByRecursion}
use Rattle.fy_policy.specs.Tree.{IsPolicy}
use Rattle.fy_policy.specs.Sat.{Sat}
use Rattle.fy_decide.specs.Safety.{everyone}
use Rattle.fy_cluster.specs.Setup.{setup_of, is_in_range}
use Rattle.fy_cluster.proofs.config.Config.make.Goals as goal

pub invariant_of-result : goal.invariant_of-result
invariant_of-result c = record {
  in_range = (λ i. is_in_range (setup_of c.args.map (sym c.deref.ensures.value i) (sym c.deref-2.ensures.value i) (sym c.deref-3.ensures.value i) (sym c.deref-4.ensures.value i) c.args.journal_limit)) ∙ sym c.if-not-is_in_range.ensures;
  met = subst (λ qs. AllByRecursion (λ P. IsPolicy P × Sat c.args.map P (everyone c.args.map)) qs) c.deref-5.ensures.value (c.first_unmet.ensures.met c.in_default.is);
}
