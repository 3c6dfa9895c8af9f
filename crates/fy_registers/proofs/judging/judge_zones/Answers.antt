use Rattle.std.proofs.Common.{rules, ◌≡◌, List, sym, subst, IsPermutation}
use Rattle.std.specs.List.{AllPairs}
use Rattle.std.specs.List.Sorted.{IsNonDecreasingBy}
use Rattle.std.proofs.lemmas.List.Sorted.{IsNonDecreasingBy-from_sort_by_key}
use Rattle.fy_registers.specs.declared.operation.Operation.{Operation}
use Rattle.fy_registers.specs.declared.zone.Zone.{Zone}
use Rattle.fy_registers.specs.Zones.{MayPrecede, AreZones, IsNothingFirst, zone_key}
use Rattle.fy_registers.proofs.Rows.{judged_shown, judged_linearizable, judged_conflict, zones_moved}
use Rattle.fy_registers.proofs.judging.judge_zones.Goals as goal

pub returns-in-Some : goal.returns-in-Some
returns-in-Some c = judged_shown c.args.operations.now c.requires.once c.in-Some.evidence c.in-Some.ensures.found

pub torn-requires : goal.torn-requires
torn-requires c =
    subst (λ zs. IsNonDecreasingBy zone_key zs) (sym c.deref-2.ensures.value)
    (IsNonDecreasingBy-from_sort_by_key zone_key _ c.sort_unstable_by_key.ensures.sorted (λ a r q k. search rules))

-- the zones as they were sorted
sorted_are : (h : List Operation) (zones moved row : List Zone) → row ≡ moved → IsPermutation zones moved → AreZones h zones → AreZones h row
sorted_are h zones moved row is perm are = subst (λ zs. AreZones h zs) (sym is) (zones_moved h zones moved perm are)

pub returns-in-Some-torn : goal.returns-in-Some-torn
returns-in-Some-torn c =
    let h = c.args.operations.now in
    let are = sorted_are h c.args.zones.items c.sort_unstable_by_key.new.self.items c.deref-2.result.now c.deref-2.ensures.value c.sort_unstable_by_key.ensures.permutation c.requires.zones in
    judged_conflict h c.deref-2.result.now are c.requires.once c.in-Some-torn.one c.in-Some-torn.other c.in-Some-torn.ensures.found c.span.result c.span.ensures c.span-in-Some-torn.result c.span-in-Some-torn.ensures

pub returns : goal.returns
returns c =
    judged_linearizable c.args.operations.now c.requires.history c.requires.once c.args.zones.items c.sort_unstable_by_key.new.self.items c.sort_unstable_by_key.ensures.permutation c.requires.zones
    (subst (λ zs. IsNothingFirst c.args.operations.now zs) c.deref.ensures.value c.in_default.ensures.none)
    (subst (λ zs. AllPairs MayPrecede zs) c.deref-2.ensures.value c.in-None.ensures.none)
