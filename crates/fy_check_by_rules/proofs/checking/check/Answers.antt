use Rattle.std.proofs.Common.{◌≡◌, ◌<◌, ◌∷◌, ◌++◌, length, [], take, get_or, sym, ◌∙◌, ap, subst, rules}
use Rattle.std.specs.Prelude.{List, Option, is_some, IfSome}
use Rattle.fy_replay.specs.Check.{IsFirstBad}
use Rattle.fy_replay.proofs.Nexts.{place_is}
use Rattle.fy_check_by_rules.specs.declared.step.FoundStep.{FoundStep}
use Rattle.fy_check_by_rules.specs.Steps.{AreStepsOf}
use Rattle.fy_check_by_rules.proofs.Nexts.{first_bad}
use Rattle.fy_check_by_rules.proofs.Following.{none_yet, one_further}
use Rattle.fy_check_by_rules.proofs.checking.check.Goals as goal

pub loop-entry-init : goal.loop-entry-init
loop-entry-init c = subst (AreStepsOf c.version-version.result c.args.config.now []) (sym c.new-steps.ensures.items) (none_yet c.version-version.result c.args.config.now)

pub loop-entry-preserved : goal.loop-entry-preserved
loop-entry-preserved c =
    let version = c.version-version.result in
    let setup = c.args.config.now in
    let entries = c.args.journal.now.entries in
    let i = c.loop-entry.entry-index in
    let e = c.entry-item.result in
    let step = c.in-Some.step in
    let seen = c.deref.result.now in
    let within : i < length entries = search rules in
    let is : e ≡ get_or entries i e = search rules in
    let place : e.at ≡ length (take i entries) = place_is entries i e within is c.invariant.ensures.numbered in
    let are : AreStepsOf version setup (take i entries) seen = subst (AreStepsOf version setup (take i entries)) (sym c.deref.ensures.value) c.loop-entry.invariant in
    let did : AreStepsOf version setup (take i entries ++ e ∷ []) (seen ++ step ∷ []) =
    subst (λ (next : Option FoundStep). IfSome next (λ (s : FoundStep). AreStepsOf version setup (take i entries ++ e ∷ []) (seen ++ s ∷ []))) c.in-Some.is (c.in_ok-step.ensures.put (take i entries) are place) in
    one_further version setup entries i e _ within is
    (subst (AreStepsOf version setup (take i entries ++ e ∷ [])) (ap (λ (so_far : List FoundStep). so_far ++ step ∷ []) c.deref.ensures.value ∙ sym c.in_ok-put_last.ensures) did)

pub returns-in_default : goal.returns-in_default
returns-in_default c =
    let version = c.version-version.result in
    let setup = c.args.config.now in
    let entries = c.args.journal.now.entries in
    let i = c.loop-entry.entry-index in
    let e = c.entry-item.result in
    let within : i < length entries = search rules in
    let is : e ≡ get_or entries i e = search rules in
    let place : e.at ≡ length (take i entries) = place_is entries i e within is c.invariant.ensures.numbered in
    let are : AreStepsOf version setup (take i entries) c.deref.result.now = subst (AreStepsOf version setup (take i entries)) (sym c.deref.ensures.value) c.loop-entry.invariant in
    subst (λ known. IsFirstBad known setup entries e.at) c.version-version.ensures
    (first_bad version setup entries i e (is_some c.in_ok-step.field-0) within is place c.loop-entry.invariant.legal (c.in_ok-step.ensures.next (take i entries) are place) (ap is_some c.in_default.is))
