-- a member of a team is replaced
use Rattle.std.proofs.Common.{◌≡◌, ℕ, ◌<◌, ◌≤◌, List, [], ◌∷◌, Bool, true, false, not, Option, Some, None, option_map, refl, sym, ◌∙◌, ap, ap₂, subst, nat_le, length, arith, slice_get, slice_set, append-nil}
use Rattle.std.proofs.lemmas.List.Elements.{All-contains, All-weaker}
use Rattle.std.specs.List.{All}
use Rattle.std.specs.Option.{option_map_or}
use Rattle.fy_locality.specs.declared.ProcId.{ProcId}
use Rattle.fy_policy.specs.Tree.{Tree}
use Rattle.fy_policy.specs.Sat.{satisfies}
use Rattle.fy_team.specs.Teams.{Team, Roster, is_among, swapped, members_in, policy_in, replaced, with_member, MayReplace}
use Rattle.fy_acts.specs.declared.act.Act.TheVariants.{Replace}
use Rattle.fy_acts.specs.declared.reply.Reply.TheVariants.{Done, No}
use Rattle.fy_acts.specs.declared.reply.Refusal.TheVariants.{NoTeam, NoProcess, NotMember, IsMember, Gone, TeamShort, StillNeeds}
use Rattle.fy_cluster.specs.declared.machine.Machine.{Machine}
use Rattle.fy_cluster.specs.Setup.{Setup}
use Rattle.fy_cluster.specs.History.{History, Step, gone, teams, records, acked, members_of}
use Rattle.fy_cluster.specs.Replies.{first_refusal_or, refusals, answer, no_process, meets, policy_of, is_of_team, needed_by, still_needs}
use Rattle.fy_cluster.specs.Standing.{Refines, Point, StepsTo, step_at}
use Rattle.fy_cluster.proofs.Still.{net_still, only_traffic, or_nothing}
use Rattle.fy_cluster.proofs.Refusals.{refuse}
use Rattle.fy_cluster.proofs.Results.{some_is_same, some_not_none}
use Rattle.fy_cluster.proofs.Formed.{past_policies, within_policies}
use Rattle.fy_cluster.proofs.Records.{Tested}
use Rattle.fy_cluster.proofs.Resent.{members_are, team_there}
use Rattle.fy_cluster.proofs.Keepers.{among_is}

replace_reply : (c : Setup) (h : History) (by team : ℕ) (out into : ProcId) (a b d e f g : Bool) (policy : ℕ) (need : Option ℕ) → nat_le (length (teams h)) team ≡ a → no_process c into.0 ≡ b → is_among (members_of h team) out.0 ≡ d → is_among (members_of h team) into.0 ≡ e → gone h into.0 ≡ f
    → meets c (policy_of h team) (is_among (swapped out into (members_of h team))) ≡ g → policy_of h team ≡ policy → needed_by h into.0 (is_of_team h team) ≡ need
    → first_refusal_or (refusals c h (Replace team out into)) (answer c h by (Replace team out into)) ≡ first_refusal_or ((a, NoTeam) ∷ (b, NoProcess) ∷ (not d, NotMember) ∷ (e, IsMember) ∷ (f, Gone) ∷ (not g, TeamShort policy) ∷ still_needs need ∷ []) Done
unfolding refusals answer
replace_reply c h by team out into a b d e f g policy need ea eb ed ee ef eg ep en = λ i. first_refusal_or ((ea i, NoTeam) ∷ (eb i, NoProcess) ∷ (not (ed i), NotMember) ∷ (ee i, IsMember) ∷ (ef i, Gone) ∷ (not (eg i), TeamShort (ep i)) ∷ still_needs (en i) ∷ []) Done

pub no_team : (point : Point) (team : ℕ) (out into : ProcId) (m : Machine) → Refines point.setup point.before m → None ≡ members_in m.teams team → StepsTo point (Replace team out into) (No NoTeam) m
no_team point team out into m k none = at (slice_get m.teams.teams team) refl none
  where
    at : (o : Option Team) → slice_get m.teams.teams team ≡ o → None ≡ option_map (λ (it : Team). it.members) o → StepsTo point (Replace team out into) (No NoTeam) m
    at None s none = refuse point (Replace team out into) NoTeam m k (replace_reply point.setup point.before point.by team out into true _ _ _ _ _ _ _ (past_policies (teams point.before) team (ap (λ ts. slice_get ts team) (sym k.teams.teams) ∙ s)) refl refl refl refl refl refl refl)
    at (Some t) s none = absurd (some_not_none t.members (sym none))

-- the team is there, and these are its members
pub record HasMembers (h : History) (team : ℕ) (members : List ProcId) : Type 0 where
  pub there : nat_le (length (teams h)) team ≡ false
  pub are : members_of h team ≡ members

pub has_members : (point : Point) (team : ℕ) (members : List ProcId) (m : Machine) → Refines point.setup point.before m → Some members ≡ members_in m.teams team → HasMembers point.before team members
has_members point team members m k e = record {
  there = let t = team_there point.before m.teams k.teams team members e in within_policies (teams point.before) team t.0 t.1;
  are = members_are point team members m k e;
}

pub nobody_into : (point : Point) (team : ℕ) (out into : ProcId) (members : List ProcId) (m : Machine) → Refines point.setup point.before m → HasMembers point.before team members → no_process point.setup into.0 ≡ true → StepsTo point (Replace team out into) (No NoProcess) m
nobody_into point team out into members m k is b = refuse point (Replace team out into) NoProcess m k (replace_reply point.setup point.before point.by team out into false true _ _ _ _ _ _ is.there b refl refl refl refl refl refl)

pub out_no_member : (point : Point) (team : ℕ) (out into : ProcId) (members : List ProcId) (m : Machine) → Refines point.setup point.before m → HasMembers point.before team members → no_process point.setup into.0 ≡ false → is_among members out.0 ≡ false → StepsTo point (Replace team out into) (No NotMember) m
out_no_member point team out into members m k is b d = refuse point (Replace team out into) NotMember m k (replace_reply point.setup point.before point.by team out into false false false _ _ _ _ _ is.there b (ap (λ ps. is_among ps out.0) is.are ∙ d) refl refl refl refl refl)

pub into_member : (point : Point) (team : ℕ) (out into : ProcId) (members : List ProcId) (m : Machine) → Refines point.setup point.before m → HasMembers point.before team members → no_process point.setup into.0 ≡ false → is_among members out.0 ≡ true → is_among members into.0 ≡ true
    → StepsTo point (Replace team out into) (No IsMember) m
into_member point team out into members m k is b d e = refuse point (Replace team out into) IsMember m k (replace_reply point.setup point.before point.by team out into false false true true _ _ _ _ is.there b (ap (λ ps. is_among ps out.0) is.are ∙ d) (ap (λ ps. is_among ps into.0) is.are ∙ e) refl refl refl refl)

-- so far nothing speaks against the replacement
pub record MayStand (point : Point) (team : ℕ) (out into : ProcId) (members : List ProcId) : Type 0 where
  pub has : HasMembers point.before team members
  pub known : no_process point.setup into.0 ≡ false
  pub member : is_among members out.0 ≡ true
  pub stranger : is_among members into.0 ≡ false

pub into_gone : (point : Point) (team : ℕ) (out into : ProcId) (members : List ProcId) (m : Machine) → Refines point.setup point.before m → MayStand point team out into members → gone point.before into.0 ≡ true → StepsTo point (Replace team out into) (No Gone) m
into_gone point team out into members m k may f = refuse point (Replace team out into) Gone m k (replace_reply point.setup point.before point.by team out into false false true false true _ _ _ may.has.there may.known (ap (λ ps. is_among ps out.0) may.has.are ∙ may.member) (ap (λ ps. is_among ps into.0) may.has.are ∙ may.stranger) f refl refl refl)

-- what the teams say of a number is one team
pub is_team : (roster : Roster) (team policy : ℕ) (members : List ProcId) → Some members ≡ members_in roster team → Some policy ≡ policy_in roster team → slice_get roster.teams team ≡ Some (record { members = members; policy = policy })
is_team roster team policy members e f = at (slice_get roster.teams team) refl e f
  where
    at : (o : Option Team) → slice_get roster.teams team ≡ o → Some members ≡ option_map (λ (it : Team). it.members) o → Some policy ≡ option_map (λ (it : Team). it.policy) o → slice_get roster.teams team ≡ Some (record { members = members; policy = policy })
    at None s e f = absurd (some_not_none members e)
    at (Some t) s e f = s ∙ ap₂ (λ ps n. Some (record { members = ps; policy = n })) (sym (some_is_same members t.members e)) (sym (some_is_same policy t.policy f))

pub named_policy : (point : Point) (team policy : ℕ) (members : List ProcId) (m : Machine) → Refines point.setup point.before m → Some members ≡ members_in m.teams team → Some policy ≡ policy_in m.teams team → policy_of point.before team ≡ policy
named_policy point team policy members m k e f = ap (λ (o : Option Team). option_map_or (λ t. t.policy) o 0) (ap (λ ts. slice_get ts team) (sym k.teams.teams) ∙ is_team m.teams team policy members e f)

-- whether the changed members meet the policy is what the set says
pub meets_is : (point : Point) (team policy : ℕ) (out into : ProcId) (members : List ProcId) (set : ℕ → Bool) (g : Bool) → members_of point.before team ≡ members → policy_of point.before team ≡ policy → ((q : ℕ) → set q ≡ is_among (swapped out into members) q) → g ≡ meets point.setup policy set
    → meets point.setup (policy_of point.before team) (is_among (swapped out into (members_of point.before team))) ≡ g
meets_is point team policy out into members set g are named same is = ap₂ (λ n ps. meets point.setup n (is_among (swapped out into ps))) named are ∙ (λ i. meets point.setup policy (λ q. sym (same q) i)) ∙ sym is

pub team_short : (point : Point) (team policy : ℕ) (out into : ProcId) (members : List ProcId) (m : Machine) → Refines point.setup point.before m → MayStand point team out into members → gone point.before into.0 ≡ false → policy_of point.before team ≡ policy
    → meets point.setup (policy_of point.before team) (is_among (swapped out into (members_of point.before team))) ≡ false → StepsTo point (Replace team out into) (No (TeamShort policy)) m
team_short point team policy out into members m k may f named g = refuse point (Replace team out into) (TeamShort policy) m k (replace_reply point.setup point.before point.by team out into false false true false false false policy _ may.has.there may.known (ap (λ ps. is_among ps out.0) may.has.are ∙ may.member) (ap (λ ps. is_among ps into.0) may.has.are ∙ may.stranger) f g named refl)

pub into_needs : (point : Point) (team policy rec : ℕ) (out into : ProcId) (members : List ProcId) (m : Machine) → Refines point.setup point.before m → MayStand point team out into members → gone point.before into.0 ≡ false → policy_of point.before team ≡ policy
    → meets point.setup (policy_of point.before team) (is_among (swapped out into (members_of point.before team))) ≡ true → Some rec ≡ needed_by point.before into.0 (is_of_team point.before team) → StepsTo point (Replace team out into) (No (StillNeeds rec)) m
into_needs point team policy rec out into members m k may f named g need = refuse point (Replace team out into) (StillNeeds rec) m k (replace_reply point.setup point.before point.by team out into false false true false false true policy (Some rec) may.has.there may.known (ap (λ ps. is_among ps out.0) may.has.are ∙ may.member) (ap (λ ps. is_among ps into.0) may.has.are ∙ may.stranger) f g named (sym need))

-- the teams may make the replacement
pub may_replace : Tested → (point : Point) (team policy : ℕ) (out into : ProcId) (members : List ProcId) (m : Machine) → Refines point.setup point.before m → Some members ≡ members_in m.teams team → Some policy ≡ policy_in m.teams team → MayStand point team out into members → into.0 < length point.setup.processes
    → meets point.setup (policy_of point.before team) (is_among (swapped out into (members_of point.before team))) ≡ true → MayReplace point.setup.processes point.setup.policies m.teams team out into
may_replace tested point team policy out into members m k e f may low g = at (slice_get point.setup.policies policy) refl met
  where
    met : meets point.setup policy (is_among (swapped out into members)) ≡ true
    met = sym (ap₂ (λ n ps. meets point.setup n (is_among (swapped out into ps))) (named_policy point team policy members m k e f) may.has.are) ∙ g

    at : (o : Option Tree) → slice_get point.setup.policies policy ≡ o → option_map_or (λ P. satisfies point.setup.processes P (is_among (swapped out into members))) o false ≡ true → MayReplace point.setup.processes point.setup.policies m.teams team out into
    at None s met = absurd (cc)
    at (Some need) s met = record {
      members = members;
      policy = policy;
      need = need;
      there = sym e;
      names = sym f;
      named = s;
      member = may.member;
      stranger = may.stranger;
      known = low;
      satisfied = (tested point.setup.processes need (is_among (swapped out into members))).0 met;
    }

-- ---- Replace

pub replaces_now : (point : Point) (team policy : ℕ) (out into : ProcId) (members : List ProcId) (machine : Machine) (roster : Roster) → Refines point.setup point.before machine → MayStand point team out into members → gone point.before into.0 ≡ false → policy_of point.before team ≡ policy
    → meets point.setup (policy_of point.before team) (is_among (swapped out into (members_of point.before team))) ≡ true → None ≡ needed_by point.before into.0 (is_of_team point.before team) → roster ≡ replaced team out into machine.teams
    → StepsTo point (Replace team out into) Done (record machine { teams = roster })
replaces_now point team policy out into members machine roster k may f named g need is = rw is (record {
  right = sym (replace_reply c h point.by team out into false false true false false true policy None may.has.there may.known (ap (λ ps. is_among ps out.0) may.has.are ∙ may.member) (ap (λ ps. is_among ps into.0) may.has.are ∙ may.stranger) f g named (sym need));
  stands = only_traffic point (Replace team out into) Done machine machine.net (replaced team out into machine.teams) refl (λ p. refl) k
      (net_still c m h machine.net refl (λ n. refl) refl refl refl k.net)
      record {
        teams = ap (λ (ts : List Team). option_map_or (λ it. slice_set ts team (with_member out into it)) (slice_get ts team) ts) k.teams.teams ∙ sym (append-nil _);
        records = k.teams.records ∙ sym (append-nil (records h));
        marks = k.teams.marks;
        acked = λ r. k.teams.acked r ∙ sym (or_nothing (acked h r));
      };
})
  where
    c : Setup
    c = point.setup

    h : History
    h = point.before

    m : Step
    m = step_at point (Replace team out into) Done

-- ---- the set of the changed members

pub known_below : (n k : ℕ) (ps qs : List ProcId) → n ≤ k → ps ≡ qs → All (λ p. p.0 < n) ps → All (λ p. p.0 < k) qs
known_below n k ps qs l e a = subst (All (λ p. p.0 < k)) e (All-weaker (λ p. p.0 < n) (λ p. p.0 < k) (λ p w. omega (arith, w, l)) ps a)

-- a member is one of those below a number
pub member_below : (n : ℕ) (members : List ProcId) (q : ℕ) → All (λ p. p.0 < n) members → is_among members q ≡ true → q < n
member_below n members q a i =
    let p = among_is members q i in
    subst (λ x. x < n) p.4 (All-contains (λ p. p.0 < n) members p.1 a (p.0, p.2, p.3))
