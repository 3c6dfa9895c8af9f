use Rattle.std.proofs.Common.{◌<◌, ap, sym, subst, ◌∙◌, length, arith}
use Rattle.std.specs.Str.{bytes_eq}
use Rattle.fy_locality.specs.declared.key.Key.TheVariants.{Process}
use Rattle.fy_locality.specs.Locality.{value_of}
use Rattle.fy_locality.proofs.Values.{found_at, not_found}
use Rattle.fy_locality.proofs.Indexes.{is_some-lookup}
use Rattle.fy_locality.proofs.map.Map.find.Goals as goal

pub overflow_cast-result : goal.overflow_cast-result
overflow_cast-result c =
    let at = found_at _ _ c.args.id.now c.self.invariant.ids_are.seen c.self.invariant.own c.in-Some.at (sym c.in-Some.ensures.index) in
    omega (arith, at.1, c.self.invariant.few)

pub returns-in-Some-clause-found : goal.returns-in-Some-clause-found
returns-in-Some-clause-found c =
    ap (λ ps. value_of ps Process c.in-Some.at) (sym c.self.view_is)
    ∙ (found_at _ _ c.args.id.now c.self.invariant.ids_are.seen c.self.invariant.own c.in-Some.at (sym c.in-Some.ensures.index)).0

pub returns-in-Some-clause-within : goal.returns-in-Some-clause-within
returns-in-Some-clause-within c =
    subst (λ ps. c.in-Some.at < length ps) c.self.view_is
    (found_at _ _ c.args.id.now c.self.invariant.ids_are.seen c.self.invariant.own c.in-Some.at (sym c.in-Some.ensures.index)).1

pub returns-in-None-clause-missing : goal.returns-in-None-clause-missing
returns-in-None-clause-missing c = λ p is.
    not_found _ _ c.args.id.now c.self.invariant.ids_are.seen c.self.invariant.own
    (sym (is_some-lookup (bytes_eq c.args.id.now) _) ∙ sym c.in-None.ensures.found) p
    (ap (λ ps. value_of ps Process p) c.self.view_is ∙ is)
