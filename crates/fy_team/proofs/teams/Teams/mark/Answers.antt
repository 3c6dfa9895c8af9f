use Rattle.std.proofs.Common.{◌≡◌, ◌<◌, ◌≤◌, ◌+◌, ◌*◌, ◌/◌, ◌||◌, Bool, true, false, length, set, refl, ap, sym, subst, ◌∙◌, arith}
use Rattle.std.specs.FinSet as sets
use Rattle.fy_team.specs.Teams.{Team, Record, all_marked, marked_by}
use Rattle.fy_team.specs.Counts.{Counted, CountsMissing}
use Rattle.std.proofs.lemmas.List.{length-map}
use Rattle.fy_team.specs.Index.{TeamsKept}
use Rattle.fy_team.specs.declared.blocks.TheConstants.{BLOCK}
use Rattle.fy_team.proofs.Kept.{TeamsKept-marked}
use Rattle.fy_team.proofs.Keeping.{held, within_kept, team_read, counted_at, counted_for, TeamsInvariant-set, marked_kept, acked_kept}
use Rattle.fy_team.proofs.teams.Teams.mark.Goals as goal

pub index-team-requires : goal.index-team-requires
index-team-requires c =
    let inside = c.self.inside in
    let within : c.args.rec < length inside.records.items = within_kept inside.teams.items inside.records.items c.args.self.now c.args.rec c.self.view_is c.requires.there in
    let lt : c.team.result < length inside.teams.items = team_read inside.teams.items inside.records.items c.args.rec c.team.result c.index_mut-record.result.now c.self.invariant.kept.counts within c.index_mut-record.ensures.value c.team.ensures in
    omega (arith, inside.teams.ok.0)

pub mark-requires-clause-counted : goal.mark-requires-clause-counted
mark-requires-clause-counted c =
    let inside = c.self.inside in
    let within : c.args.rec < length inside.records.items = within_kept inside.teams.items inside.records.items c.args.self.now c.args.rec c.self.view_is c.requires.there in
    subst (λ members. CountsMissing members c.index_mut-record.result.now) (ap (λ (it : Team). it.members) (sym c.team-2.view_is))
    (counted_at inside.teams.items inside.records.items c.args.rec c.index_mut-record.result.now c.team.result c.index-team.result.now c.self.invariant.kept.counts within c.index_mut-record.ensures.value c.team.ensures c.index-team.ensures)

-- a record that is unacknowledged after a mark was so before
was_open : (a b c : Bool) → c ≡ (a || b) → c ≡ false → a ≡ false
was_open true b c e f = sym e ∙ f
was_open false b c e f = refl

pub invariant_of-self : goal.invariant_of-self
invariant_of-self c =
    let inside = c.self.inside in
    let rec = c.args.rec in
    let it = c.index_mut-record.result.now in
    let x = c.mark.new.self in
    let within : rec < length inside.records.items = within_kept inside.teams.items inside.records.items c.args.self.now rec c.self.view_is c.requires.there in
    let lt : c.team.result < length inside.teams.items = team_read inside.teams.items inside.records.items rec c.team.result it c.self.invariant.kept.counts within c.index_mut-record.ensures.value c.team.ensures in
    let same : x.held.team ≡ it.held.team = ap (λ (it : Record). it.team) c.mark.ensures.held in
    let payload : x.held.payload ≡ it.held.payload = ap (λ (it : Record). it.payload) c.mark.ensures.held in
    let low : BLOCK * (rec / 256) ≤ rec = omega arith in
    let high : rec < BLOCK * (rec / 256) + BLOCK = omega arith in
    let there : rec / 256 < length inside.marked.items = omega (arith, c.self.invariant.kept.blocks.room, length-map inside.records.items held) in
    record {
      member_sets = c.self.invariant.member_sets;
      kept = subst (λ s. TeamsKept inside.teams.items (set inside.records.items rec x) inside.numbers.items (set inside.marked.items (rec / 256) s)) (sym c.put.ensures)
          (TeamsKept-marked inside.teams.items inside.records.items inside.numbers.items inside.marked.items rec c.args.p.0 (rec / 256) x it c.index_mut.result.now within c.index_mut-record.ensures.value low high there c.index_mut.ensures.value same
          (ap (λ (it : Record). it.marks) c.mark.ensures.held)
          (was_open it.held.acked _ x.held.acked (ap (λ (it : Record). it.acked) c.mark.ensures.held))
          (TeamsInvariant-set inside.teams.items inside.records.items rec x it within
          (same ∙ ap (λ (x : Counted). x.held.team) c.index_mut-record.ensures.value)
          (payload ∙ ap (λ (x : Counted). x.held.payload) c.index_mut-record.ensures.value)
          (counted_for inside.teams.items x c.team.result c.index-team.result.now c.team-2.inside.members lt (c.team.ensures ∙ sym same) c.index-team.ensures (ap (λ (it : Team). it.members) c.team-2.view_is) c.mark.ensures.counted)
          c.self.invariant.kept.counts)
          c.self.invariant.kept);
    }

pub returns-clause-acked : goal.returns-clause-acked
returns-clause-acked c =
    let inside = c.self.inside in
    let within : c.args.rec < length inside.records.items = within_kept inside.teams.items inside.records.items c.args.self.now c.args.rec c.self.view_is c.requires.there in
    c.acked-acked.ensures ∙ sym (acked_kept inside.teams.items inside.records.items c.args.rec c.mark.new.self within)

pub returns-clause-marked : goal.returns-clause-marked
returns-clause-marked c =
    let inside = c.self.inside in
    let it = c.index_mut-record.result.now in
    let within : c.args.rec < length inside.records.items = within_kept inside.teams.items inside.records.items c.args.self.now c.args.rec c.self.view_is c.requires.there in
    let becomes : c.mark.new.self.held ≡ record it.held { marks = sets.insert it.held.marks c.args.p.0; acked = it.held.acked || all_marked (sets.insert it.held.marks c.args.p.0) c.index-team.result.now.members } =
    c.mark.ensures.held ∙ ap (λ (team : Team). record it.held { marks = sets.insert it.held.marks c.args.p.0; acked = it.held.acked || all_marked (sets.insert it.held.marks c.args.p.0) team.members }) c.team-2.view_is in
    marked_kept inside.teams.items inside.records.items c.args.rec c.args.p.0 c.team.result it c.mark.new.self c.index-team.result.now c.self.invariant.kept.counts within c.index_mut-record.ensures.value c.team.ensures c.index-team.ensures becomes
    ∙ ap (marked_by c.args.rec c.args.p.0) c.self.view_is
