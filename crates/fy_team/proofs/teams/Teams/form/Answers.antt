use Rattle.std.proofs.Common.{◌≡◌, ◌<◌, ◌++◌, ◌∷◌, [], length, ap, sym, subst, ◌∙◌, arith}
use Rattle.std.specs.Prelude.{None, slice_get}
use Rattle.fy_team.specs.Teams.{Roster, Team, AreMembers, AreFormed, unfit}
use Rattle.fy_team.specs.Index.{TeamsKept, TeamsHeld, SetsRight}
use Rattle.fy_team.specs.declared.limits.TheConstants.{MOST_TEAMS}
use Rattle.fy_team.proofs.Rising.{AreFormed-push}
use Rattle.fy_team.proofs.Keeping.{TeamsInvariant-formed}
use Rattle.fy_team.proofs.Kept.{TeamsKept-formed, SetsRight-formed}
use Rattle.fy_team.proofs.teams.Teams.form.Goals as goal

pub returns-clause-satisfied : goal.returns-clause-satisfied
returns-clause-satisfied c =
    let fit : unfit c.args.map.now (slice_get c.args.policies.now c.args.policy) c.args.gone.now c.args.members c.args.policy ≡ None = sym c.unfit.ensures ∙ c.in_default.is in
    c.fit_is_formed.ensures c.args.map.now c.args.policies.now c.args.gone.now c.args.members c.args.policy fit

pub returns-clause-kept : goal.returns-clause-kept
returns-clause-kept c = λ before.
    let fit : unfit c.args.map.now (slice_get c.args.policies.now c.args.policy) c.args.gone.now c.args.members c.args.policy ≡ None = sym c.unfit.ensures ∙ c.in_default.is in
    let team : Team = record { members = c.args.members; policy = c.args.policy } in
    subst (AreFormed c.args.map.now c.args.policies.now) (sym (c.push_reserved.ensures.items ∙ ap (λ ts. ts ++ team ∷ []) c.reserve.ensures.items))
    (AreFormed-push c.args.map.now c.args.policies.now c.self.inside.teams.items team (c.fit_is_formed.ensures c.args.map.now c.args.policies.now c.args.gone.now c.args.members c.args.policy fit)
    (subst (λ (roster : Roster). AreFormed c.args.map.now c.args.policies.now roster.teams) (sym c.self.view_is) before))

pub invariant_of-self-2 : goal.invariant_of-self-2
invariant_of-self-2 c =
    let inside = c.self.inside in
    let team : Team = record { members = c.args.members; policy = c.args.policy } in
    let few : length inside.teams.items < MOST_TEAMS = omega (arith, inside.teams.ok.0) in
    subst (λ teams. TeamsHeld teams inside.records.items c.push.new.self.items inside.marked.items c.push-2.new.self.items) (sym (c.push_reserved.ensures.items ∙ ap (λ teams. teams ++ team ∷ []) c.reserve.ensures.items))
    (record {
      kept = subst (λ numbers. TeamsKept (inside.teams.items ++ team ∷ []) inside.records.items numbers inside.marked.items) (ap (λ n. inside.numbers.items ++ n ∷ []) (sym c.make.ensures) ∙ sym c.in_ok-push.ensures.items)
          (TeamsKept-formed inside.teams.items inside.records.items inside.numbers.items inside.marked.items team
          (TeamsInvariant-formed inside.teams.items inside.records.items team (subst AreMembers c.members.view_is c.members.invariant) few c.self.invariant.kept.counts)
          c.self.invariant.kept);
      member_sets = subst (λ members. SetsRight (inside.teams.items ++ team ∷ []) members) (sym c.in_ok-push-2.ensures.items)
          (SetsRight-formed inside.teams.items inside.member_sets.items team c.set_of_fit-set.result c.set_of_fit-set.ensures c.self.invariant.member_sets);
    })
