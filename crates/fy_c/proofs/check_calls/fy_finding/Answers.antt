use Rattle.std.proofs.Common.{◌∙◌, ap, sym}
use Rattle.fy_c.specs.Checking.{Finding, count_of, bad_of}
use Rattle.fy_c.specs.declared.checking.Check.{Check}
use Rattle.fy_c.specs.declared.status.Status.TheVariants.{Done, NoHeader}
use Rattle.fy_c.proofs.check_calls.fy_finding.Goals as goal

pub returns-in-Some-clause-found : goal.returns-in-Some-clause-found
returns-in-Some-clause-found c = (
  Done,
  c.number.ensures,
  Finding.found c.in-Some.field-0
      (sym (ap (λ (it : Check). it.begun) c.held-held.ensures.value) ∙ c.in-Some.is)
      (c.count_of.ensures ∙ ap count_of c.in-Some.is)
      (c.bad_of.ensures ∙ ap bad_of c.in-Some.is),
)

pub returns-in-None-clause-found : goal.returns-in-None-clause-found
returns-in-None-clause-found c = (
  NoHeader,
  c.number-in-None.ensures,
  Finding.no_header
      (sym (ap (λ (it : Check). it.begun) c.held-held.ensures.value) ∙ c.in-None.is)
      (c.count_of.ensures ∙ ap count_of c.in-None.is)
      (c.bad_of.ensures ∙ ap bad_of c.in-None.is),
)
