use Rattle.std.proofs.Common.{◌≡◌, ◌<◌, true, false, ltb, eqb, ap, sym, subst, ◌∙◌, rules}
use Rattle.std.specs.Prelude.{Some, None, slice_get}
use Rattle.std.proofs.lemmas.Option.{slice_get-get_or, slice_get_past}
use Rattle.std.specs.List.{AllPairs}
use Rattle.std.specs.List.Sorted.{IsPartitionPoint}
use Rattle.std.specs.Option.{option_map_or}
use Rattle.std.proofs.lemmas.List.Sorted.{IsPartitionPoint-from_clause, IsPartitionedBy-ltb}
use Rattle.fy_locality.specs.declared.ProcId.{ProcId}
use Rattle.fy_team.specs.Teams.{is_among}
use Rattle.fy_team.proofs.Counting.{found_at}
use Rattle.fy_team.proofs.Swapping.{numbers_rise}
use Rattle.fy_team.proofs.members.Members.has.Goals as goal

pub returns-in-Some : goal.returns-in-Some
returns-in-Some c =
    let ps = c.self.inside.processes.items in
    let place = c.partition_point-place.result in
    let same : c.deref-2.result.now ≡ ps = c.deref-2.ensures.value in
    let rise : AllPairs (λ p q. p.0 < q.0) c.deref.result.now = subst (AllPairs (λ p q. p.0 < q.0)) (sym c.deref.ensures.value) c.self.invariant.rising in
    let parted : IsPartitionPoint (λ (q : ProcId). ltb q.0 c.args.p.0 ≡ true) (λ (q : ProcId). ltb q.0 c.args.p.0 ≡ false) c.deref.result.now place =
    IsPartitionPoint-from_clause (λ (q : ProcId). ltb q.0 c.args.p.0) c.deref.result.now place c.partition_point-place.ensures.partitioned (IsPartitionedBy-ltb (λ (q : ProcId). q.0) c.deref.result.now c.args.p.0 (numbers_rise _ rise)) (λ a r f' called. search rules) in
    let found : is_among ps c.args.p.0 ≡ option_map_or (λ (q : ProcId). eqb q.0 c.args.p.0) (slice_get ps place) false =
    found_at c.args.p.0 place ps c.self.invariant.rising (subst (λ qs. IsPartitionPoint (λ (q : ProcId). ltb q.0 c.args.p.0 ≡ true) (λ (q : ProcId). ltb q.0 c.args.p.0 ≡ false) qs place) c.deref.ensures.value parted) in
    let there : slice_get ps place ≡ Some c.in-Some.member.now =
    ap (λ qs. slice_get qs place) (sym same) ∙ slice_get-get_or c.deref-2.result.now place c.in-Some.member.now c.in-Some.ensures.lookup.3.0 ∙ ap Some (sym c.in-Some.ensures.lookup.1) in
    ap (λ at. option_map_or (λ (q : ProcId). eqb q.0 c.args.p.0) at false) (sym there) ∙ sym found ∙ ap (λ members. is_among members c.args.p.0) c.self.view_is

pub returns-in-None : goal.returns-in-None
returns-in-None c =
    let ps = c.self.inside.processes.items in
    let place = c.partition_point-place.result in
    let same : c.deref-2.result.now ≡ ps = c.deref-2.ensures.value in
    let rise : AllPairs (λ p q. p.0 < q.0) c.deref.result.now = subst (AllPairs (λ p q. p.0 < q.0)) (sym c.deref.ensures.value) c.self.invariant.rising in
    let parted : IsPartitionPoint (λ (q : ProcId). ltb q.0 c.args.p.0 ≡ true) (λ (q : ProcId). ltb q.0 c.args.p.0 ≡ false) c.deref.result.now place =
    IsPartitionPoint-from_clause (λ (q : ProcId). ltb q.0 c.args.p.0) c.deref.result.now place c.partition_point-place.ensures.partitioned (IsPartitionedBy-ltb (λ (q : ProcId). q.0) c.deref.result.now c.args.p.0 (numbers_rise _ rise)) (λ a r f' called. search rules) in
    let found : is_among ps c.args.p.0 ≡ option_map_or (λ (q : ProcId). eqb q.0 c.args.p.0) (slice_get ps place) false =
    found_at c.args.p.0 place ps c.self.invariant.rising (subst (λ qs. IsPartitionPoint (λ (q : ProcId). ltb q.0 c.args.p.0 ≡ true) (λ (q : ProcId). ltb q.0 c.args.p.0 ≡ false) qs place) c.deref.ensures.value parted) in
    let there : slice_get ps place ≡ None =
    ap (λ qs. slice_get qs place) (sym same) ∙ slice_get_past c.deref-2.result.now place c.in-None.ensures.lookup.3 in
    ap (λ at. option_map_or (λ (q : ProcId). eqb q.0 c.args.p.0) at false) (sym there) ∙ sym found ∙ ap (λ members. is_among members c.args.p.0) c.self.view_is
