-- teams form
use Rattle.std.proofs.Common.{◌≡◌, ℕ, zero, suc, ◌<◌, List, [], ◌∷◌, ◌++◌, Bool, true, false, ◌&&◌, ◌||◌, not, Option, Some, None, Result, Ok, ◌⊎◌, inl, inr, refl, sym, ◌∙◌, ap, ap₂, nat_lt, nat_le, length, arith, slice_get, append-nil, if◌then◌else◌}
use Rattle.std.proofs.lemmas.Bool.{or_parts}
use Rattle.std.proofs.lemmas.Bool.Decides.{nat_tests}
use Rattle.std.specs.Option.{option_map_or}
use Rattle.std.specs.List.{list_any}
use Rattle.std.specs.FinSet as sets
use Rattle.std.specs.Ordering.{nat_cmp}
use Rattle.std.specs.Cmp.{nat_cmp_total}
use Rattle.fy_locality.specs.declared.ProcId.{ProcId}
use Rattle.fy_locality.specs.declared.locality.Locality.{Locality}
use Rattle.fy_policy.specs.Tree.{Tree}
use Rattle.fy_policy.specs.Sat.{satisfies}
use Rattle.fy_team.specs.declared.fault.TeamFault.{TeamFault}
use Rattle.fy_team.specs.declared.fault.TeamFault.TheVariants.{TooMany as TooManyThere, NoPolicy as NoPolicyThere, NoProcess as NoProcessThere, Gone as GoneThere, TeamShort as ShortTeam, NoTeam as NoTeamThere, Payload as LongPayload, NoMemory as NoMemoryLeft}
use Rattle.fy_team.specs.Teams.{Roster, is_among, form_refusal, with_team}
use Rattle.fy_acts.specs.declared.act.Act.{Act}
use Rattle.fy_acts.specs.declared.act.Act.TheVariants.{Form}
use Rattle.fy_acts.specs.declared.reply.Reply.{Reply}
use Rattle.fy_acts.specs.declared.reply.Reply.TheVariants.{Formed}
use Rattle.fy_acts.specs.declared.reply.Refusal.TheVariants.{TooMany, NoPolicy, NoProcess, Gone, TeamShort, NoTeam, Payload}
use Rattle.fy_cluster.specs.declared.fault.Fault.{Fault}
use Rattle.fy_cluster.specs.declared.machine.Machine.{Machine}
use Rattle.fy_cluster.specs.Setup.{Setup}
use Rattle.fy_cluster.specs.History.{History, Step, gone, left, teams, records, acked}
use Rattle.fy_cluster.specs.Replies.{first_refusal_or, refusals, answer, no_process, meets}
use Rattle.fy_cluster.specs.Standing.{Refines, Point, StepsTo, StepsToOrOom, step_at, reply_to_team_fault}
use Rattle.fy_cluster.proofs.Still.{net_still, only_traffic, or_nothing}
use Rattle.fy_cluster.proofs.Refusals.{refuse}
use Rattle.fy_cluster.proofs.Results.{ok_not_err}
use Rattle.fy_cluster.proofs.Starts.{gone_is}

-- a reply, where no allocation failed
abbrev pub said : Reply → Result Reply Fault
said r = Ok r

pub ok_same : {T E : Type 0} (r : Result T E) (x y : T) → r ≡ Ok x → r ≡ Ok y → x ≡ y
ok_same r x y d e = cc

-- a reason of the teams' is the reply
pub refuse_team : (point : Point) (act : Act) (fault : TeamFault) (m : Machine) → Refines point.setup point.before m → Ok (first_refusal_or (refusals point.setup point.before act) (answer point.setup point.before point.by act)) ≡ reply_to_team_fault fault → StepsToOrOom point act (reply_to_team_fault fault) m
refuse_team point act TooManyThere m k e = refuse point act TooMany m k (ok_same _ _ _ (sym e) refl)
refuse_team point act NoPolicyThere m k e = refuse point act NoPolicy m k (ok_same _ _ _ (sym e) refl)
refuse_team point act NoProcessThere m k e = refuse point act NoProcess m k (ok_same _ _ _ (sym e) refl)
refuse_team point act GoneThere m k e = refuse point act Gone m k (ok_same _ _ _ (sym e) refl)
refuse_team point act (ShortTeam policy) m k e = refuse point act (TeamShort policy) m k (ok_same _ _ _ (sym e) refl)
refuse_team point act NoTeamThere m k e = refuse point act NoTeam m k (ok_same _ _ _ (sym e) refl)
refuse_team point act LongPayload m k e = refuse point act Payload m k (ok_same _ _ _ (sym e) refl)
refuse_team point act NoMemoryLeft m k e = absurd (ok_not_err _ _ e)

-- ---- what the teams say of members

form_reply : (c : Setup) (h : History) (by : ℕ) (members : List ProcId) (policy : ℕ) (a b d e f : Bool) → nat_le 4096 (length (teams h)) ≡ a → nat_le (length c.policies) policy ≡ b → list_any (λ p. no_process c p.0) members ≡ d → list_any (λ p. gone h p.0) members ≡ e → not (meets c policy (is_among members)) ≡ f
    → first_refusal_or (refusals c h (Form members policy)) (answer c h by (Form members policy)) ≡ first_refusal_or ((a, TooMany) ∷ (b, NoPolicy) ∷ (d, NoProcess) ∷ (e, Gone) ∷ (f, TeamShort policy) ∷ []) (Formed (length (teams h)))
unfolding refusals answer
form_reply c h by members policy a b d e f ea eb ed ee ef = rw (ea, eb, ed, ee, ef) refl

pub past_policies : {X : Type 0} (xs : List X) (i : ℕ) → slice_get xs i ≡ None → nat_le (length xs) i ≡ true
past_policies [] i e = grind (arith, nat_tests)
past_policies (x ∷ xs) zero e = absurd (cc)
past_policies (x ∷ xs) (suc i) e = let more = past_policies xs i e in grind (arith, nat_tests)

pub within_policies : {X : Type 0} (xs : List X) (i : ℕ) (x : X) → slice_get xs i ≡ Some x → nat_le (length xs) i ≡ false
within_policies [] i x e = absurd (cc)
within_policies (y ∷ xs) zero x e = grind (arith, nat_tests)
within_policies (y ∷ xs) (suc i) x e = let more = within_policies xs i x e in grind (arith, nat_tests)

-- among processes that are there, those who aren't left are gone
gone_same : (c : Setup) (h : History) (set : ℕ → Bool) (members : List ProcId) → ((p : ℕ) → p < length c.processes → set p ≡ gone h p) → list_any (λ p. no_process c p.0) members ≡ false → list_any (λ p. gone h p.0) members ≡ list_any (λ p. set p.0) members
gone_same c h set [] w there = refl
gone_same c h set (p ∷ members) w there =
    let both = or_parts (no_process c p.0) (list_any (λ p. no_process c p.0) members) there in
    ap₂ (λ a b. a || b) (sym (w p.0 (let l = both.0 in grind (arith, nat_tests)))) (gone_same c h set members w both.1)

form_said : (c : Setup) (h : History) (by : ℕ) (roster : Roster) (set : sets.FinSet nat_cmp) (members : List ProcId) (policy : ℕ) → roster.teams ≡ teams h → ((p : ℕ) → p < length c.processes → sets.contains set p ≡ gone h p)
    → Ok (first_refusal_or (refusals c h (Form members policy)) (answer c h by (Form members policy))) ≡ option_map_or reply_to_team_fault (form_refusal roster c.processes c.policies set members policy) (Ok (Formed (length (teams h))))
form_said c h by roster set members policy same w = at (nat_le 4096 (length (teams h))) (slice_get c.policies policy) (list_any (λ p. no_process c p.0) members) refl refl refl
  where
    at : (a : Bool) (o : Option Tree) (d : Bool) → nat_le 4096 (length (teams h)) ≡ a → slice_get c.policies policy ≡ o → list_any (λ p. no_process c p.0) members ≡ d
        → Ok (first_refusal_or (refusals c h (Form members policy)) (answer c h by (Form members policy))) ≡ option_map_or reply_to_team_fault (form_refusal roster c.processes c.policies set members policy) (Ok (Formed (length (teams h))))
    at true o d ea eo ed = rw (same, ea) (ap Ok (form_reply c h by members policy true _ _ _ _ ea refl refl refl refl))
    at false None d ea eo ed = rw (same, ea, eo) (ap Ok (form_reply c h by members policy false true _ _ _ ea (past_policies c.policies policy eo) refl refl refl))
    at false (Some need) true ea eo ed = rw (same, ea, eo, ed) (ap Ok (form_reply c h by members policy false false true _ _ ea (within_policies c.policies policy need eo) ed refl refl))
    at false (Some need) false ea eo ed = rw (same, ea, eo, ed) (into (list_any (λ p. sets.contains set p.0) members) (satisfies c.processes need (is_among members)) refl refl)
      where
        into : (e s : Bool) → list_any (λ p. sets.contains set p.0) members ≡ e → satisfies c.processes need (is_among members) ≡ s
            → Ok (first_refusal_or (refusals c h (Form members policy)) (answer c h by (Form members policy))) ≡ option_map_or reply_to_team_fault (if e then Some GoneThere else (if s then None else Some (ShortTeam policy))) (Ok (Formed (length (teams h))))
        into true s ee es = ap Ok (form_reply c h by members policy false false false true _ ea (within_policies c.policies policy need eo) ed (gone_same c h (sets.contains set) members w ed ∙ ee) refl)
        into false s ee es = ap Ok (form_reply c h by members policy false false false false (not s) ea (within_policies c.policies policy need eo) ed (gone_same c h (sets.contains set) members w ed ∙ ee) (ap not (rw eo es))) ∙ last s
          where
            last : (s : Bool) → said (first_refusal_or ((false, TooMany) ∷ (false, NoPolicy) ∷ (false, NoProcess) ∷ (false, Gone) ∷ (not s, TeamShort policy) ∷ []) (Formed (length (teams h)))) ≡ option_map_or reply_to_team_fault (if s then None else Some (ShortTeam policy)) (Ok (Formed (length (teams h))))
            last true = refl
            last false = refl

-- everyone without those left are those gone
pub gone_set : (c : Setup) (h : History) (all still : sets.FinSet nat_cmp) → ((p : ℕ) → sets.contains all p ≡ nat_lt p (length c.processes)) → ((p : ℕ) → sets.contains still p ≡ left c h p) → (p : ℕ) → p < length c.processes → sets.contains (sets.difference all still) p ≡ gone h p
gone_set c h all still a s p l =
    let there : nat_lt p (length c.processes) ≡ true = grind (arith, nat_tests) in
    sets.contains-difference nat_cmp_total all still p ∙ ap (λ b. b && not (sets.contains still p)) (a p ∙ there) ∙ sym (gone_is c h p (sets.contains still p) l (s p))

-- ---- Form

formed : (point : Point) (members : List ProcId) (policy : ℕ) (machine : Machine) → Refines point.setup point.before machine
    → said (first_refusal_or (refusals point.setup point.before (Form members policy)) (answer point.setup point.before point.by (Form members policy))) ≡ said (Formed (length (teams point.before)))
    → StepsTo point (Form members policy) (Formed (length (teams point.before))) (record machine { teams = with_team members policy machine.teams })
formed point members policy machine k e = record {
  right = ok_same _ _ _ refl (sym e);
  stands = only_traffic point (Form members policy) (Formed (length (teams point.before))) machine machine.net (with_team members policy machine.teams) refl (λ p. refl) k
      (net_still c m h machine.net refl (λ k. refl) refl refl refl k.net)
      record {
        teams = ap (λ ts. ts ++ record { members = members; policy = policy } ∷ []) k.teams.teams;
        records = k.teams.records ∙ sym (append-nil (records h));
        marks = k.teams.marks;
        acked = λ r. k.teams.acked r ∙ sym (or_nothing (acked h r));
      };
}
  where
    c : Setup
    c = point.setup

    h : History
    h = point.before

    m : Step
    m = step_at point (Form members policy) (Formed (length (teams point.before)))

pub form_ok : (point : Point) (members : List ProcId) (policy number : ℕ) (m : Machine) (set : sets.FinSet nat_cmp) (roster : Roster) (processes : List Locality) (policies : List Tree) → Refines point.setup point.before m
    → processes ≡ point.setup.processes → policies ≡ point.setup.policies → ((p : ℕ) → p < length point.setup.processes → sets.contains set p ≡ gone point.before p)
    → form_refusal m.teams processes policies set members policy ≡ None → number ≡ length m.teams.teams → roster ≡ with_team members policy m.teams
    → StepsTo point (Form members policy) (Formed number) (record m { teams = roster })
form_ok point members policy number m set roster processes policies k e f w clear n is =
    let count : number ≡ length (teams point.before) = n ∙ ap length k.teams.teams in
    let none : form_refusal m.teams point.setup.processes point.setup.policies set members policy ≡ None = rw (e, f) at clear in
    rw (is, count) (formed point members policy m k (form_said point.setup point.before point.by m.teams set members policy k.teams.teams w ∙ ap (λ o. option_map_or reply_to_team_fault o (Ok (Formed (length (teams point.before))))) none))

pub form_err : (point : Point) (members : List ProcId) (policy : ℕ) (m : Machine) (set : sets.FinSet nat_cmp) (roster : Roster) (processes : List Locality) (policies : List Tree) (fault : TeamFault) → Refines point.setup point.before m
    → processes ≡ point.setup.processes → policies ≡ point.setup.policies → ((p : ℕ) → p < length point.setup.processes → sets.contains set p ≡ gone point.before p)
    → (form_refusal m.teams processes policies set members policy ≡ Some fault) ⊎ ((form_refusal m.teams processes policies set members policy ≡ None) × (fault ≡ NoMemoryLeft)) → roster ≡ m.teams
    → StepsToOrOom point (Form members policy) (reply_to_team_fault fault) (record m { teams = roster })
form_err point members policy m set roster processes policies fault k e f w (inr out) is = rw (out.1, is) (refl, k)
form_err point members policy m set roster processes policies fault k e f w (inl why) is =
    let some : form_refusal m.teams point.setup.processes point.setup.policies set members policy ≡ Some fault = rw (e, f) at why in
    rw is (refuse_team point (Form members policy) fault m k (form_said point.setup point.before point.by m.teams set members policy k.teams.teams w ∙ ap (λ o. option_map_or reply_to_team_fault o (Ok (Formed (length (teams point.before))))) some))
