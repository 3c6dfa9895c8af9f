use Rattle.std.proofs.Common.{◌≡◌, ℕ, List, length, not, ◌∙◌, ap₂, rules}
use Rattle.std.specs.Prelude.{Option}
use Rattle.std.specs.FinSet as sets
use Rattle.std.specs.Ordering.{nat_cmp}
use Rattle.fy_locality.specs.declared.locality.Locality.{Locality}
use Rattle.fy_kinds.specs.declared.verdict.Rule.TheVariants.{NoGrant}
use Rattle.fy_kinds.specs.Kinds.{only}
use Rattle.fy_grants.specs.declared.grant.Grant.{Grant}
use Rattle.fy_grants.specs.Least.{least_with}
use Rattle.fy_grants.specs.Rights.{is_covered}
use Rattle.fy_check_by_rules.specs.Deeds.{deed_of}
use Rattle.fy_check_by_rules.specs.declared.asked.AskedDeed.{AskedDeed}
use Rattle.fy_check_by_rules.proofs.Ruling.{of_least, of_none}
use Rattle.fy_check_by_rules.proofs.rules.Case.no_grant.Goals as goal

-- the least that some grants don't cover
abbrev uncovered : sets.FinSet nat_cmp → AskedDeed → List Locality → List Grant → Option ℕ
uncovered targets asked ps own = least_with (length ps) (sets.contains targets) (λ p. not (is_covered ps own (only (deed_of asked)) p))

pub returns-in-Some : goal.returns-in-Some
returns-in-Some c =
    let found = c.least_uncovered.result in
    let told : found ≡ uncovered c.args.targets.now c.args.asked c.map.result.now c.in_ok-own.own.items = search rules in
    of_least NoGrant found _ c.in-Some.p c.in-Some.is (told ∙ ap₂ (uncovered c.args.targets.now c.args.asked) c.map.ensures c.in_ok-own.ensures)

pub returns : goal.returns
returns c =
    let found = c.least_uncovered.result in
    let told : found ≡ uncovered c.args.targets.now c.args.asked c.map.result.now c.in_ok-own.own.items = search rules in
    of_none NoGrant found _ c.in-None.is (told ∙ ap₂ (uncovered c.args.targets.now c.args.asked) c.map.ensures c.in_ok-own.ensures)
