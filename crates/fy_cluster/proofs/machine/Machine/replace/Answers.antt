use Rattle.std.proofs.Common.{true, false, ap, sym, subst, ◌∙◌, arith}
use Rattle.std.specs.FinSet as sets
use Rattle.fy_locality.specs.declared.TheConstants.{MOST_PROCESSES}
use Rattle.fy_team.specs.Teams.{is_among, swapped, MayReplace}
use Rattle.fy_cluster.specs.Setup.{Setup}
use Rattle.fy_cluster.specs.Replies.{meets}
use Rattle.fy_cluster.proofs.Starts.{past_processes, within_processes, left_tells}
use Rattle.fy_cluster.proofs.Needed.{needed_is, of_team_is}
use Rattle.fy_cluster.proofs.Resent.{members_known}
use Rattle.fy_cluster.proofs.Replaced.{MayStand, no_team, has_members, nobody_into, out_no_member, into_member, into_gone, named_policy, meets_is, team_short, into_needs, may_replace, replaces_now, known_below, member_below}
use Rattle.fy_cluster.proofs.machine.Machine.replace.Goals as goal

pub returns-in_default : goal.returns-in_default
returns-in_default g c = no_team g.point c.args.team c.args.out c.args.into _ c.requires.0 c.in_default.ensures

pub returns-then-into-len : goal.returns-then-into-len
returns-then-into-len g c =
    nobody_into g.point c.args.team c.args.out c.args.into c.in-Some.members.now _ c.requires.0
    (has_members g.point c.args.team c.in-Some.members.now _ c.requires.0 c.in-Some.ensures)
    (past_processes g.point.setup c.map.result.now c.args.into.0 (c.map.ensures ∙ ap (λ (s : Setup). s.processes) c.requires.1.0) (omega arith))

pub returns-then-not-has : goal.returns-then-not-has
returns-then-not-has g c =
    let there = within_processes g.point.setup c.map.result.now c.args.into.0 (c.map.ensures ∙ ap (λ (s : Setup). s.processes) c.requires.1.0) (omega arith) in
    out_no_member g.point c.args.team c.args.out c.args.into c.in-Some.members.now _ c.requires.0
    (has_members g.point c.args.team c.in-Some.members.now _ c.requires.0 c.in-Some.ensures)
    there.0
    (sym c.has.ensures ∙ c.if-not-has.true)

pub returns-then-has : goal.returns-then-has
returns-then-has g c =
    let there = within_processes g.point.setup c.map.result.now c.args.into.0 (c.map.ensures ∙ ap (λ (s : Setup). s.processes) c.requires.1.0) (omega arith) in
    into_member g.point c.args.team c.args.out c.args.into c.in-Some.members.now _ c.requires.0
    (has_members g.point c.args.team c.in-Some.members.now _ c.requires.0 c.in-Some.ensures)
    there.0
    (sym c.has.ensures ∙ c.if-not-has.false)
    (sym c.has-2.ensures ∙ c.if-has.true)

pub returns-then-not-contains : goal.returns-then-not-contains
returns-then-not-contains g c =
    let there = within_processes g.point.setup c.map.result.now c.args.into.0 (c.map.ensures ∙ ap (λ (s : Setup). s.processes) c.requires.1.0) (omega arith) in
    let may : MayStand g.point c.args.team c.args.out c.args.into c.in-Some.members.now = record {
      has = has_members g.point c.args.team c.in-Some.members.now _ c.requires.0 c.in-Some.ensures;
      known = there.0;
      member = sym c.has.ensures ∙ c.if-not-has.false;
      stranger = sym c.has-2.ensures ∙ c.if-has.false;
    } in
    into_gone g.point c.args.team c.args.out c.args.into c.in-Some.members.now _ c.requires.0 may
    (left_tells g.point _ c.requires.0 c.args.into.0 there.1 c.left.result c.left.ensures.left false c.contains.result c.contains.ensures c.if-not-contains.true)

pub set_with-requires-clause-known : goal.set_with-requires-clause-known
set_with-requires-clause-known g c =
    known_below _ MOST_PROCESSES c.in-Some.members.now c.as_slice.result.now c.requires.0.dead.few (sym c.as_slice.ensures.members)
    (members_known c.test_is_satisfaction.ensures g.point c.args.self.now c.requires.0 c.requires.1.1 c.args.team c.in-Some.members.now c.in-Some.ensures)

pub set_with-requires-clause-out : goal.set_with-requires-clause-out
set_with-requires-clause-out g c =
    let few = c.requires.0.dead.few in
    let low = member_below _ c.in-Some.members.now c.args.out.0 (members_known c.test_is_satisfaction.ensures g.point c.args.self.now c.requires.0 c.requires.1.1 c.args.team c.in-Some.members.now c.in-Some.ensures) (sym c.has.ensures ∙ c.if-not-has.false) in
    omega (arith, few, low)

pub returns-then-not-meets : goal.returns-then-not-meets
returns-then-not-meets g c =
    let there = within_processes g.point.setup c.map.result.now c.args.into.0 (c.map.ensures ∙ ap (λ (s : Setup). s.processes) c.requires.1.0) (omega arith) in
    let may : MayStand g.point c.args.team c.args.out c.args.into c.in-Some.members.now = record {
      has = has_members g.point c.args.team c.in-Some.members.now _ c.requires.0 c.in-Some.ensures;
      known = there.0;
      member = sym c.has.ensures ∙ c.if-not-has.false;
      stranger = sym c.has-2.ensures ∙ c.if-has.false;
    } in
    team_short g.point c.args.team c.in-Some-policy_of.policy c.args.out c.args.into c.in-Some.members.now _ c.requires.0 may
    (left_tells g.point _ c.requires.0 c.args.into.0 there.1 c.left.result c.left.ensures.left true c.contains.result c.contains.ensures c.if-not-contains.false)
    (named_policy g.point c.args.team c.in-Some-policy_of.policy c.in-Some.members.now c.args.self.now c.requires.0 c.in-Some.ensures c.in-Some-policy_of.ensures)
    (meets_is g.point c.args.team c.in-Some-policy_of.policy c.args.out c.args.into c.in-Some.members.now (sets.contains c.set_with.result) c.meets.result may.has.are
    (named_policy g.point c.args.team c.in-Some-policy_of.policy c.in-Some.members.now c.args.self.now c.requires.0 c.in-Some.ensures c.in-Some-policy_of.ensures)
    (λ q. c.set_with.ensures q ∙ ap (λ ps. is_among (swapped c.args.out c.args.into ps) q) c.as_slice.ensures.members)
    (c.meets.ensures ∙ ap (λ s. meets s c.in-Some-policy_of.policy (sets.contains c.set_with.result)) c.requires.1.0)
    ∙ c.if-not-meets.true)

pub returns-in-Some-needed_of_team : goal.returns-in-Some-needed_of_team
returns-in-Some-needed_of_team g c =
    let there = within_processes g.point.setup c.map.result.now c.args.into.0 (c.map.ensures ∙ ap (λ (s : Setup). s.processes) c.requires.1.0) (omega arith) in
    let may : MayStand g.point c.args.team c.args.out c.args.into c.in-Some.members.now = record {
      has = has_members g.point c.args.team c.in-Some.members.now _ c.requires.0 c.in-Some.ensures;
      known = there.0;
      member = sym c.has.ensures ∙ c.if-not-has.false;
      stranger = sym c.has-2.ensures ∙ c.if-has.false;
    } in
    into_needs g.point c.args.team c.in-Some-policy_of.policy c.in-Some-needed_of_team.rec c.args.out c.args.into c.in-Some.members.now _ c.requires.0 may
    (left_tells g.point _ c.requires.0 c.args.into.0 there.1 c.left.result c.left.ensures.left true c.contains.result c.contains.ensures c.if-not-contains.false)
    (named_policy g.point c.args.team c.in-Some-policy_of.policy c.in-Some.members.now c.args.self.now c.requires.0 c.in-Some.ensures c.in-Some-policy_of.ensures)
    (meets_is g.point c.args.team c.in-Some-policy_of.policy c.args.out c.args.into c.in-Some.members.now (sets.contains c.set_with.result) c.meets.result may.has.are
    (named_policy g.point c.args.team c.in-Some-policy_of.policy c.in-Some.members.now c.args.self.now c.requires.0 c.in-Some.ensures c.in-Some-policy_of.ensures)
    (λ q. c.set_with.ensures q ∙ ap (λ ps. is_among (swapped c.args.out c.args.into ps) q) c.as_slice.ensures.members)
    (c.meets.ensures ∙ ap (λ s. meets s c.in-Some-policy_of.policy (sets.contains c.set_with.result)) c.requires.1.0)
    ∙ c.if-not-meets.false)
    (c.in-Some-needed_of_team.ensures ∙ needed_is g.point.setup g.point.before c.args.self.now c.requires.0 c.args.into.0 there.1 _ _ (of_team_is g.point.before c.args.self.now c.requires.0.teams c.args.team))

pub replace-requires : goal.replace-requires
replace-requires g c =
    let there = within_processes g.point.setup c.map.result.now c.args.into.0 (c.map.ensures ∙ ap (λ (s : Setup). s.processes) c.requires.1.0) (omega arith) in
    let may : MayStand g.point c.args.team c.args.out c.args.into c.in-Some.members.now = record {
      has = has_members g.point c.args.team c.in-Some.members.now _ c.requires.0 c.in-Some.ensures;
      known = there.0;
      member = sym c.has.ensures ∙ c.if-not-has.false;
      stranger = sym c.has-2.ensures ∙ c.if-has.false;
    } in
    subst (λ ps. MayReplace ps c.policies.result.now c.args.self.now.teams c.args.team c.args.out c.args.into) (sym (c.map-2.ensures ∙ ap (λ (s : Setup). s.processes) c.requires.1.0))
    (subst (λ qs. MayReplace g.point.setup.processes qs c.args.self.now.teams c.args.team c.args.out c.args.into) (sym (c.policies.ensures ∙ ap (λ (s : Setup). s.policies) c.requires.1.0))
    (may_replace c.test_is_satisfaction.ensures g.point c.args.team c.in-Some-policy_of.policy c.args.out c.args.into c.in-Some.members.now c.args.self.now c.requires.0 c.in-Some.ensures c.in-Some-policy_of.ensures may there.1
    (meets_is g.point c.args.team c.in-Some-policy_of.policy c.args.out c.args.into c.in-Some.members.now (sets.contains c.set_with.result) c.meets.result may.has.are
    (named_policy g.point c.args.team c.in-Some-policy_of.policy c.in-Some.members.now c.args.self.now c.requires.0 c.in-Some.ensures c.in-Some-policy_of.ensures)
    (λ q. c.set_with.ensures q ∙ ap (λ ps. is_among (swapped c.args.out c.args.into ps) q) c.as_slice.ensures.members)
    (c.meets.ensures ∙ ap (λ s. meets s c.in-Some-policy_of.policy (sets.contains c.set_with.result)) c.requires.1.0)
    ∙ c.if-not-meets.false)))

pub returns : goal.returns
returns g c =
    let there = within_processes g.point.setup c.map.result.now c.args.into.0 (c.map.ensures ∙ ap (λ (s : Setup). s.processes) c.requires.1.0) (omega arith) in
    let may : MayStand g.point c.args.team c.args.out c.args.into c.in-Some.members.now = record {
      has = has_members g.point c.args.team c.in-Some.members.now _ c.requires.0 c.in-Some.ensures;
      known = there.0;
      member = sym c.has.ensures ∙ c.if-not-has.false;
      stranger = sym c.has-2.ensures ∙ c.if-has.false;
    } in
    replaces_now g.point c.args.team c.in-Some-policy_of.policy c.args.out c.args.into c.in-Some.members.now c.args.self.now c.replace.new.self c.requires.0 may
    (left_tells g.point _ c.requires.0 c.args.into.0 there.1 c.left.result c.left.ensures.left true c.contains.result c.contains.ensures c.if-not-contains.false)
    (named_policy g.point c.args.team c.in-Some-policy_of.policy c.in-Some.members.now c.args.self.now c.requires.0 c.in-Some.ensures c.in-Some-policy_of.ensures)
    (meets_is g.point c.args.team c.in-Some-policy_of.policy c.args.out c.args.into c.in-Some.members.now (sets.contains c.set_with.result) c.meets.result may.has.are
    (named_policy g.point c.args.team c.in-Some-policy_of.policy c.in-Some.members.now c.args.self.now c.requires.0 c.in-Some.ensures c.in-Some-policy_of.ensures)
    (λ q. c.set_with.ensures q ∙ ap (λ ps. is_among (swapped c.args.out c.args.into ps) q) c.as_slice.ensures.members)
    (c.meets.ensures ∙ ap (λ s. meets s c.in-Some-policy_of.policy (sets.contains c.set_with.result)) c.requires.1.0)
    ∙ c.if-not-meets.false)
    (c.in_default-needed_of_team.ensures ∙ needed_is g.point.setup g.point.before c.args.self.now c.requires.0 c.args.into.0 there.1 _ _ (of_team_is g.point.before c.args.self.now c.requires.0.teams c.args.team))
    c.replace.ensures.replaced
