use Rattle.std.proofs.Common.{◌≡◌, ◌<◌, ◌≤◌, ◌+◌, cond, length, take, set, get_or, refl, sym, ap, subst, ◌∙◌, arith}
use Rattle.std.proofs.lemmas.List.{length-set, take_all}
use Rattle.std.specs.Prelude.{Some, option_map, slice_get}
use Rattle.std.proofs.lemmas.Option.{slice_get-get_or, get_or_from_slice_get, slice_get_within}
use Rattle.fy_team.specs.Counts.{Counted, WasMissing, recounted}
use Rattle.fy_team.specs.Index.{ChangedAmong}
use Rattle.fy_team.proofs.Indexing.{changed_none, changed_more, recounted_twice}
use Rattle.fy_team.proofs.teams.recount.Goals as goal

pub loop-rec-init : goal.loop-rec-init
loop-rec-init c = record { count = refl; changed = changed_none (recounted c.args.team c.args.members.now) c.args.records.now.items }

pub index_mut-requires : goal.index_mut-requires
index_mut-requires c = omega (arith, c.loop-rec.invariant.count, c.requires.room c.loop-rec.rec-index 0 c.loop-rec-test.true, c.loop-rec.records.ok.0)

pub recount-requires : goal.recount-requires
recount-requires c = λ of_team.
    let i = get_or c.args.numbers.now c.loop-rec.rec-index 0 in
    let it = c.index_mut.result.now in
    let old = c.args.records.now.items in
    let there : i < length c.loop-rec.records.items = omega (arith, c.loop-rec.invariant.count, c.requires.room c.loop-rec.rec-index 0 c.loop-rec-test.true) in
    let same : slice_get c.loop-rec.records.items i ≡ slice_get old i =
    c.loop-rec.invariant.changed i ∙ ap (λ b. cond b (option_map (recounted c.args.team c.args.members.now) (slice_get old i)) (slice_get old i)) (c.requires.apart c.loop-rec.rec-index c.loop-rec-test.true) in
    let found : slice_get old i ≡ Some it = sym same ∙ slice_get-get_or c.loop-rec.records.items i it there ∙ ap Some (sym c.index_mut.ensures.value) in
    let read : get_or old i it ≡ it = get_or_from_slice_get old i it it found in
    subst (λ (x : Counted). x.held.team ≡ c.args.team → WasMissing c.args.out c.args.into c.args.members.now x) read (c.requires.right i it (slice_get_within old i it found)) of_team

pub loop-rec-preserved : goal.loop-rec-preserved
loop-rec-preserved c =
    let i = get_or c.args.numbers.now c.loop-rec.rec-index 0 in
    let there : i < length c.loop-rec.records.items = omega (arith, c.loop-rec.invariant.count, c.requires.room c.loop-rec.rec-index 0 c.loop-rec-test.true) in
    record {
      count = length-set c.loop-rec.records.items i c.recount.new.self ∙ c.loop-rec.invariant.count;
      changed = subst (λ x. ChangedAmong (take (c.loop-rec.rec-index + 1) c.args.numbers.now) (recounted c.args.team c.args.members.now) c.args.records.now.items (set c.loop-rec.records.items i x)) (sym c.recount.ensures)
          (changed_more c.args.numbers.now c.loop-rec.rec-index (recounted c.args.team c.args.members.now) (recounted_twice c.args.team c.args.members.now) c.args.records.now.items c.loop-rec.records.items c.index_mut.result.now c.loop-rec-test.true there c.index_mut.ensures.value c.loop-rec.invariant.changed);
    }

pub returns : goal.returns
returns c =
    subst (λ numbers. ChangedAmong numbers (recounted c.args.team c.args.members.now) c.args.records.now.items c.loop-rec.records.items)
    (take_all c.loop-rec.rec-index c.args.numbers.now (let e : length c.args.numbers.now ≤ c.loop-rec.rec-index = omega arith in e))
    c.loop-rec.invariant.changed
