use Rattle.std.proofs.Common.{◌≡◌, ◌<◌, ◌+◌, length, map, refl, ap, sym, subst, ◌∙◌, arith}
use Rattle.std.specs.Prelude.{Some}
use Rattle.std.proofs.lemmas.List.{length-map, length-set, map-set}
use Rattle.fy_team.specs.Teams.{Record, Team}
use Rattle.fy_team.specs.Counts.{Counted, CountsMissing}
use Rattle.fy_team.specs.Index.{HealedWithin}
use Rattle.fy_team.specs.declared.blocks.TheConstants.{BLOCK}
use Rattle.fy_team.proofs.Marking.{healed_record-team, healed_record-payload}
use Rattle.fy_team.proofs.Keeping.{held, team_read, counted_at, counted_for, record_there, TeamsInvariant-set}
use Rattle.fy_team.proofs.Indexing.{healed_none, healed_more, healed_past}
use Rattle.fy_team.proofs.teams.heal_records.Goals as goal

pub loop-rec-init : goal.loop-rec-init
loop-rec-init c = record { kept = c.requires.counts; count = refl; near = omega arith; healed = healed_none c.args.first c.args.p.0 (map held c.args.records.now.items) }

pub index_mut-record-requires : goal.index_mut-record-requires
index_mut-record-requires c = omega (arith, c.loop-rec.invariant.count, c.loop-rec.records.ok.0, c.args.records.now.ok.0)

pub index-team-requires : goal.index-team-requires
index-team-requires c =
    let within : c.loop-rec.rec < length c.loop-rec.records.items = omega (arith, c.loop-rec.invariant.count, c.args.records.now.ok.0) in
    let lt : c.team.result < length c.args.teams.now.items = team_read c.args.teams.now.items c.loop-rec.records.items c.loop-rec.rec c.team.result c.index_mut-record.result.now c.loop-rec.invariant.kept within c.index_mut-record.ensures.value c.team.ensures in
    omega (arith, c.args.teams.now.ok.0)

pub heal-requires : goal.heal-requires
heal-requires c =
    let within : c.loop-rec.rec < length c.loop-rec.records.items = omega (arith, c.loop-rec.invariant.count, c.args.records.now.ok.0) in
    subst (λ members. CountsMissing members c.index_mut-record.result.now) (ap (λ (it : Team). it.members) (sym c.team-in-loop-rec.view_is))
    (counted_at c.args.teams.now.items c.loop-rec.records.items c.loop-rec.rec c.index_mut-record.result.now c.team.result c.index-team.result.now c.loop-rec.invariant.kept within c.index_mut-record.ensures.value c.team.ensures c.index-team.ensures)

pub loop-rec-preserved : goal.loop-rec-preserved
loop-rec-preserved c =
    let teams = c.args.teams.now.items in
    let now = c.loop-rec.records.items in
    let it = c.index_mut-record.result.now in
    let x = c.heal.new.self in
    let rec = c.loop-rec.rec in
    let kept = c.loop-rec.invariant.kept in
    let within : rec < length now = omega (arith, c.loop-rec.invariant.count, c.args.records.now.ok.0) in
    let lt : c.team.result < length teams = team_read teams now rec c.team.result it kept within c.index_mut-record.ensures.value c.team.ensures in
    let same : x.held.team ≡ it.held.team = ap (λ (it : Record). it.team) c.heal.ensures.held ∙ healed_record-team c.args.p.0 it.held in
    let payload : x.held.payload ≡ it.held.payload = ap (λ (it : Record). it.payload) c.heal.ensures.held ∙ healed_record-payload c.args.p.0 it.held in
    record {
      kept = TeamsInvariant-set teams now rec x it within
          (same ∙ ap (λ (x : Counted). x.held.team) c.index_mut-record.ensures.value)
          (payload ∙ ap (λ (x : Counted). x.held.payload) c.index_mut-record.ensures.value)
          (counted_for teams x c.team.result c.index-team.result.now c.team-in-loop-rec.inside.members lt (c.team.ensures ∙ sym same) c.index-team.ensures (ap (λ (it : Team). it.members) c.team-in-loop-rec.view_is) c.heal.ensures.counted)
          kept;
      count = length-set now rec x ∙ c.loop-rec.invariant.count;
      near = omega arith;
      healed = subst (λ rs. HealedWithin c.args.first (rec + 1) c.args.p.0 (map held c.args.records.now.items) rs) (sym (map-set held now rec x))
          (healed_more c.args.first rec c.args.p.0 (map held c.args.records.now.items) (map held now) x.held it.held c.loop-rec.auto.rec (omega (arith, length-map now held))
          (record_there now rec it within ∙ ap (λ (y : Counted). Some y.held) (sym c.index_mut-record.ensures.value))
          c.heal.ensures.held
          c.loop-rec.invariant.healed);
    }

pub returns-clause-counts : goal.returns-clause-counts
returns-clause-counts c = c.loop-rec.invariant.kept

pub returns-clause-healed : goal.returns-clause-healed
returns-clause-healed c =
    healed_past c.args.first c.loop-rec.rec (c.args.first + BLOCK) c.args.p.0 (map held c.args.records.now.items) (map held c.loop-rec.records.items)
    (λ rec low high. omega (arith, length-map c.args.records.now.items held, c.args.records.now.ok.0))
    c.loop-rec.invariant.near
    c.loop-rec.invariant.healed
