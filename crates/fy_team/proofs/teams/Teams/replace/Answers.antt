use Rattle.std.proofs.Common.{◌≡◌, ◌<◌, ℕ, false, eqb, take, List, length, get_or, map, get_or-set_same, set, ap, sym, subst, ◌∙◌}
use Rattle.std.specs.List.{All, list_any}
use Rattle.std.specs.Prelude.{Some, slice_get}
use Rattle.std.proofs.lemmas.Option.{slice_get_within, get_or_from_slice_get}
use Rattle.fy_locality.specs.declared.ProcId.{ProcId}
use Rattle.fy_team.specs.Teams.{Team, Roster, AreFormed, AreMembers, swapped, with_member, replaced, records_of}
use Rattle.fy_team.specs.Counts.{TeamsInvariant, recounted, roster_of}
use Rattle.fy_team.proofs.Swapping.{AreFormed-replaced, replaced_there, read_there, team_there}
use Rattle.std.proofs.lemmas.List.{length-set}
use Rattle.fy_team.specs.Index.{ChangedAmong, TeamsKept, SetsRight}
use Rattle.fy_team.proofs.Indexing.{recounted_all, places_apart, teams_of}
use Rattle.fy_team.proofs.Kept.{SetsRight-replaced, set_read, TeamsKept-counted, numbers_read, numbers_within}
use Rattle.fy_team.proofs.Keeping.{held, records_recounted, TeamsInvariant-replaced}
use Rattle.fy_team.proofs.teams.Teams.replace.Goals as goal

abbrev was : goal.After-recount → Team
was c = record { members = c.requires.members; policy = c.requires.policy }

there : (c : goal.After-recount) → slice_get c.self.inside.teams.items c.args.team ≡ Some (was c)
there c =
    ap (λ (roster : Roster). slice_get roster.teams c.args.team) c.self.view_is
    ∙ team_there c.args.self.now c.args.team c.requires.members c.requires.policy c.requires.there c.requires.names

becomes : (c : goal.After-recount) → c.replace.new.self ≡ with_member c.args.out c.args.into (was c)
becomes c = c.replace.ensures ∙ ap (with_member c.args.out c.args.into) (read_there c.self.inside.teams.items c.args.team c.index_mut-2.result.now (was c) c.index_mut-2.ensures.value (there c))

-- the team as it is read to count anew
read_back : (c : goal.After-recount) → c.behind-self.inside.members ≡ swapped c.args.out c.args.into c.requires.members
read_back c =
    ap (λ (team : Team). team.members)
    (c.behind-self.view_is
    ∙ c.index-2.ensures
    ∙ get_or-set_same c.self.inside.teams.items c.args.team c.replace.new.self c.index-2.result.now (slice_get_within c.self.inside.teams.items c.args.team (was c) (there c))
    ∙ becomes c)

-- the numbers that are read are those of the team's records
numbers_are : (c : goal.After-recount) → c.as_slice-numbers.result.now ≡ records_of (roster_of c.self.inside.teams.items c.self.inside.records.items) c.args.team
numbers_are c =
    numbers_read c.self.inside.teams.items c.self.inside.records.items c.self.inside.numbers.items c.self.inside.marked.items c.args.team c.as_slice-numbers.result.now
    (slice_get_within c.self.inside.teams.items c.args.team (was c) (there c))
    (c.as_slice-numbers.ensures ∙ subst (λ s. c.index.result.now ≡ get_or c.self.inside.numbers.items c.args.team s) (sym c.as_slice-numbers.ensures) c.index.ensures)
    c.self.invariant.kept

counts : (c : goal.After-recount) → c.recount.new.records.items ≡ map (recounted c.args.team (swapped c.args.out c.args.into c.requires.members)) c.self.inside.records.items
counts c =
    recounted_all c.args.team c.behind-self.inside.members c.self.inside.records.items c.recount.new.records.items
    (subst (λ numbers. ChangedAmong numbers (recounted c.args.team c.behind-self.inside.members) c.self.inside.records.items c.recount.new.records.items) (numbers_are c) c.recount.ensures)
    ∙ ap (λ (members : List ProcId). map (recounted c.args.team members) c.self.inside.records.items) (read_back c)

pub recount-requires-clause-room : goal.recount-requires-clause-room
recount-requires-clause-room c =
    let here : slice_get c.self.inside.teams.items c.args.team ≡ Some (record { members = c.requires.members; policy = c.requires.policy }) =
    ap (λ (roster : Roster). slice_get roster.teams c.args.team) c.self.view_is
    ∙ team_there c.args.self.now c.args.team c.requires.members c.requires.policy c.requires.there c.requires.names in
    subst (All (λ rec. rec < length c.self.inside.records.items))
    (sym (numbers_read c.self.inside.teams.items c.self.inside.records.items c.self.inside.numbers.items c.self.inside.marked.items c.args.team c.as_slice-numbers.result.now
    (slice_get_within c.self.inside.teams.items c.args.team (record { members = c.requires.members; policy = c.requires.policy }) here)
    (c.as_slice-numbers.ensures ∙ subst (λ s. c.index.result.now ≡ get_or c.self.inside.numbers.items c.args.team s) (sym c.as_slice-numbers.ensures) c.index.ensures)
    c.self.invariant.kept))
    (numbers_within c.self.inside.records.items c.args.team)

pub recount-requires-clause-apart : goal.recount-requires-clause-apart
recount-requires-clause-apart c =
    let here : slice_get c.self.inside.teams.items c.args.team ≡ Some (record { members = c.requires.members; policy = c.requires.policy }) =
    ap (λ (roster : Roster). slice_get roster.teams c.args.team) c.self.view_is
    ∙ team_there c.args.self.now c.args.team c.requires.members c.requires.policy c.requires.there c.requires.names in
    subst (λ (ns : List ℕ). (k : ℕ) → k < length ns → list_any (λ n. eqb n (get_or ns k 0)) (take k ns) ≡ false)
    (sym (numbers_read c.self.inside.teams.items c.self.inside.records.items c.self.inside.numbers.items c.self.inside.marked.items c.args.team c.as_slice-numbers.result.now
    (slice_get_within c.self.inside.teams.items c.args.team (record { members = c.requires.members; policy = c.requires.policy }) here)
    (c.as_slice-numbers.ensures ∙ subst (λ s. c.index.result.now ≡ get_or c.self.inside.numbers.items c.args.team s) (sym c.as_slice-numbers.ensures) c.index.ensures)
    c.self.invariant.kept))
    (places_apart 0 c.args.team (teams_of c.self.inside.records.items))

pub recount-requires-clause-right : goal.recount-requires-clause-right
recount-requires-clause-right c = λ i d within of_team.
    let before : Team = record { members = c.requires.members; policy = c.requires.policy } in
    let teams = c.self.inside.teams.items in
    let here : slice_get teams c.args.team ≡ Some before =
    ap (λ (roster : Roster). slice_get roster.teams c.args.team) c.self.view_is
    ∙ team_there c.args.self.now c.args.team c.requires.members c.requires.policy c.requires.there c.requires.names in
    let lt : c.args.team < length teams = slice_get_within teams c.args.team before here in
    let now : c.replace.new.self ≡ with_member c.args.out c.args.into before =
    c.replace.ensures ∙ ap (with_member c.args.out c.args.into) (read_there teams c.args.team c.index_mut-2.result.now before c.index_mut-2.ensures.value here) in
    record {
      was = c.requires.members;
      valid = subst (λ (it : Team). AreMembers it.members) (get_or_from_slice_get teams c.args.team before before here) (c.self.invariant.kept.counts.roster.rising c.args.team before lt);
      member = c.requires.member;
      stranger = c.requires.stranger;
      now = ap (λ (it : Team). it.members) (c.behind-self.view_is ∙ c.index-2.ensures ∙ get_or-set_same teams c.args.team c.replace.new.self c.index-2.result.now lt ∙ now);
      counted = c.self.invariant.kept.counts.counted i d within before (ap (slice_get teams) of_team ∙ here);
    }

kept_after : (c : goal.After-recount) → TeamsKept (set c.self.inside.teams.items c.args.team c.replace.new.self) c.recount.new.records.items c.self.inside.numbers.items c.self.inside.marked.items
kept_after c =
    let inside = c.self.inside in
    TeamsKept-counted inside.teams.items (set inside.teams.items c.args.team c.replace.new.self) inside.records.items c.recount.new.records.items inside.numbers.items inside.marked.items
    (length-set inside.teams.items c.args.team c.replace.new.self)
    (ap (map held) (counts c) ∙ records_recounted c.args.team (swapped c.args.out c.args.into c.requires.members) inside.records.items)
    (subst (λ it. TeamsInvariant (set inside.teams.items c.args.team it) c.recount.new.records.items) (sym (becomes c))
    (subst (TeamsInvariant (set inside.teams.items c.args.team (with_member c.args.out c.args.into (was c)))) (sym (counts c))
    (TeamsInvariant-replaced inside.teams.items inside.records.items c.args.team c.args.out c.args.into (was c) (there c) c.requires.member c.self.invariant.kept.counts)))
    c.self.invariant.kept

pub swap_in-requires-clause-out : goal.swap_in-requires-clause-out
swap_in-requires-clause-out c =
    let here : slice_get c.self.inside.teams.items c.args.team ≡ Some (record { members = c.requires.members; policy = c.requires.policy }) =
    ap (λ (roster : Roster). slice_get roster.teams c.args.team) c.self.view_is
    ∙ team_there c.args.self.now c.args.team c.requires.members c.requires.policy c.requires.there c.requires.names in
    set_read c.self.inside.teams.items c.self.inside.member_sets.items c.args.team (record { members = c.requires.members; policy = c.requires.policy }) c.index_mut.result.now c.args.out.0 here c.index_mut.ensures.value c.self.invariant.member_sets
    ∙ c.requires.member

pub invariant_of-self : goal.invariant_of-self
invariant_of-self c = record {
  kept = kept_after c;
  member_sets = subst (λ it. SetsRight (set c.self.inside.teams.items c.args.team it) (set c.self.inside.member_sets.items c.args.team c.swap_in.new.set)) (sym (becomes c))
      (SetsRight-replaced c.self.inside.teams.items c.self.inside.member_sets.items c.args.team c.args.out c.args.into (was c) c.index_mut.result.now c.swap_in.new.set (there c) c.index_mut.ensures.value c.swap_in.ensures c.self.invariant.member_sets);
}

pub returns-clause-replaced : goal.returns-clause-replaced
returns-clause-replaced c =
    let inside : Roster = roster_of c.self.inside.teams.items c.self.inside.records.items in
    ap (λ it. roster_of (set inside.teams c.args.team it) c.recount.new.records.items) (becomes c)
    ∙ ap (λ records. record { teams = set inside.teams c.args.team (with_member c.args.out c.args.into (was c)); records = records }) (ap (map held) (counts c) ∙ records_recounted c.args.team (swapped c.args.out c.args.into c.requires.members) c.self.inside.records.items)
    ∙ ap (λ teams. record inside { teams = teams }) (sym (replaced_there inside c.args.team c.args.out c.args.into (was c) (there c)))
    ∙ ap (replaced c.args.team c.args.out c.args.into) c.self.view_is

pub returns-clause-kept : goal.returns-clause-kept
returns-clause-kept c = λ before.
    subst (λ it. AreFormed c.args.map.now c.args.policies.now (set c.self.inside.teams.items c.args.team it)) (sym (becomes c))
    (subst (λ (roster : Roster). AreFormed c.args.map.now c.args.policies.now (set roster.teams c.args.team (with_member c.args.out c.args.into (was c)))) (sym c.self.view_is)
    (AreFormed-replaced c.args.map.now c.args.policies.now c.args.self.now c.args.team c.args.out c.args.into c.requires before))
