-- a process is healed
use Rattle.std.proofs.Common.{◌==◌, ◌≡◌, ℕ, suc, ◌+◌, List, [], ◌∷◌, Bool, true, false, ◌&&◌, ◌||◌, not, Option, Some, None, refl, sym, ◌∙◌, ap, ap₂, nat_lt, length, map, filter, cond, arith, slice_get, append-nil, if◌then◌else◌}
use Rattle.std.proofs.lemmas.Bool.{or_from}
use Rattle.std.proofs.lemmas.Bool.Decides.{nat_tests}
use Rattle.std.specs.FinSet as sets
use Rattle.std.specs.Cmp.{nat_cmp_total, unsigned_tied}
use Rattle.fy_locality.specs.declared.ProcId.{ProcId}
use Rattle.fy_decide.specs.DeadBook.{Losses, healed as healed_book}
use Rattle.fy_net.specs.declared.message.Body.{Body}
use Rattle.fy_net.specs.declared.message.Message.{Message}
use Rattle.fy_net.specs.Net.{NetState, is_ack_from, without_acks_of}
use Rattle.fy_team.specs.Teams.{Record, Roster, is_among, healed_record, healed as healed_roster}
use Rattle.fy_team.specs.Standing.{HealedMarks, HealedAcked}
use Rattle.fy_acts.specs.declared.act.Act.TheVariants.{Heal}
use Rattle.fy_acts.specs.declared.reply.Reply.TheVariants.{Done, No}
use Rattle.fy_acts.specs.declared.reply.Refusal.TheVariants.{NoProcess, Gone, NotDestroyed, NotUp, StillNeeds}
use Rattle.fy_cluster.specs.declared.machine.Machine.{Machine}
use Rattle.fy_cluster.specs.Setup.{Setup}
use Rattle.fy_cluster.specs.History.{History, Step, BegunRecord, some_is, destroyed, gone, up, sent, is_removed, members_for, marked, acked, teams, records}
use Rattle.fy_cluster.specs.Replies.{first_refusal_or, refusals, answer, no_process, needed_by, still_needs}
use Rattle.fy_cluster.specs.Standing.{Refines, Point, StepsTo, step_at, RefinesDead, RefinesNet, RefinesTeams, begun_of, numbered}
use Rattle.fy_cluster.proofs.Still.{up_still, disks_still, rights_still, or_nothing, ends_still}
use Rattle.fy_cluster.proofs.Flights.{flying_taken, past_end}
use Rattle.fy_cluster.proofs.Refusals.{refuse}

-- ---- the reply

heal_reply : (c : Setup) (h : History) (by : ℕ) (p : ProcId) (a b d e : Bool) (need : Option ℕ) → no_process c p.0 ≡ a → gone h p.0 ≡ b → destroyed h p.0 ≡ d → up h p.0 ≡ e → needed_by h p.0 (λ r. is_among (members_for h r) p.0) ≡ need
    → first_refusal_or (refusals c h (Heal p)) (answer c h by (Heal p)) ≡ first_refusal_or ((a, NoProcess) ∷ (b, Gone) ∷ (not d, NotDestroyed) ∷ (not e, NotUp) ∷ still_needs need ∷ []) Done
unfolding refusals answer
heal_reply c h by p a b d e need ea eb ed ee en = λ i. first_refusal_or ((ea i, NoProcess) ∷ (eb i, Gone) ∷ (not (ed i), NotDestroyed) ∷ (not (ee i), NotUp) ∷ still_needs (en i) ∷ []) Done

pub nobody_to_heal : (point : Point) (p : ProcId) (m : Machine) → Refines point.setup point.before m → no_process point.setup p.0 ≡ true → StepsTo point (Heal p) (No NoProcess) m
nobody_to_heal point p m k a = refuse point (Heal p) NoProcess m k (heal_reply point.setup point.before point.by p true _ _ _ _ a refl refl refl refl)

pub gone_to_heal : (point : Point) (p : ProcId) (m : Machine) → Refines point.setup point.before m → no_process point.setup p.0 ≡ false → gone point.before p.0 ≡ true → StepsTo point (Heal p) (No Gone) m
gone_to_heal point p m k a b = refuse point (Heal p) Gone m k (heal_reply point.setup point.before point.by p false true _ _ _ a b refl refl refl)

pub not_destroyed : (point : Point) (p : ProcId) (m : Machine) → Refines point.setup point.before m → no_process point.setup p.0 ≡ false → gone point.before p.0 ≡ false → destroyed point.before p.0 ≡ false → StepsTo point (Heal p) (No NotDestroyed) m
not_destroyed point p m k a b d = refuse point (Heal p) NotDestroyed m k (heal_reply point.setup point.before point.by p false false false _ _ a b d refl refl)

pub down_to_heal : (point : Point) (p : ProcId) (m : Machine) → Refines point.setup point.before m → no_process point.setup p.0 ≡ false → gone point.before p.0 ≡ false → destroyed point.before p.0 ≡ true → up point.before p.0 ≡ false → StepsTo point (Heal p) (No NotUp) m
down_to_heal point p m k a b d e = refuse point (Heal p) NotUp m k (heal_reply point.setup point.before point.by p false false true false _ a b d e refl)

pub needs_to_heal : (point : Point) (p : ProcId) (rec : ℕ) (m : Machine) → Refines point.setup point.before m → no_process point.setup p.0 ≡ false → gone point.before p.0 ≡ false → destroyed point.before p.0 ≡ true → up point.before p.0 ≡ true
    → Some rec ≡ needed_by point.before p.0 (λ r. is_among (members_for point.before r) p.0) → StepsTo point (Heal p) (No (StillNeeds rec)) m
needs_to_heal point p rec m k a b d e need = refuse point (Heal p) (StillNeeds rec) m k (heal_reply point.setup point.before point.by p false false true true (Some rec) a b d e (sym need))

-- ---- who is destroyed

book_healed : (c : Setup) (m : Step) (h : History) (p : ℕ) (book : Losses) → ((q : ℕ) → destroyed (m ∷ h) q ≡ (not (p == q) && destroyed h q)) → ((q : ℕ) → gone (m ∷ h) q ≡ gone h q) → RefinesDead c h book → RefinesDead c (m ∷ h) (healed_book p book)
book_healed c m h p book less same k = record {
  processes = k.processes;
  policies = k.policies;
  few = k.few;
  destroyed = λ q. sets.contains-remove nat_cmp_total book.destroyed p q ∙ ap₂ (λ a b. not a && b) (unsigned_tied q p ∙ swap q p) (k.destroyed q) ∙ sym (less q);
  left = λ q. k.left q ∙ sym (ap (λ g. nat_lt q (length c.processes) && not g) (same q));
}
  where
    swap : (q p : ℕ) → (q == p) ≡ (p == q)
    swap q p = grind (arith, nat_tests)

-- ---- the network

-- each message says what was sent with its number
says : (f : Body → Bool) (keep : ℕ → Bool) (all : List Body) (k : ℕ) (xs : List Body) → ((i : ℕ) (b : Body) → slice_get xs i ≡ Some b → slice_get all (k + i) ≡ Some b)
    → filter (λ (x : Message). not (f x.body)) (filter (λ x. keep x.number) (numbered k xs)) ≡ filter (λ (x : Message). not (some_is f (slice_get all x.number))) (filter (λ x. keep x.number) (numbered k xs))
says f keep all k [] w = refl
says f keep all k (b ∷ xs) w = at (keep k) (says f keep all (k + 1) xs (λ i x s. ap (slice_get all) (omega arith) ∙ w (suc i) x s))
  where
    rest : List Message
    rest = filter (λ x. keep x.number) (numbered (k + 1) xs)

    here : some_is f (slice_get all k) ≡ f b
    here = ap (some_is f) (ap (slice_get all) (omega arith) ∙ w 0 b refl)

    at : (t : Bool) → filter (λ (x : Message). not (f x.body)) rest ≡ filter (λ (x : Message). not (some_is f (slice_get all x.number))) rest
        → filter (λ (x : Message). not (f x.body)) (cond t (record { number = k; body = b } ∷ rest) rest) ≡ filter (λ (x : Message). not (some_is f (slice_get all x.number))) (cond t (record { number = k; body = b } ∷ rest) rest)
    at true e = ap₂ (λ (t : Bool) (ys : List Message). cond (not t) (record { number = k; body = b } ∷ ys) ys) (sym here) e
    at false e = e

net_voided : (point : Point) (p : ProcId) (net : NetState) → RefinesNet point.setup point.before net → RefinesNet point.setup (step_at point (Heal p) Done ∷ point.before) (without_acks_of p.0 net)
net_voided point p net k = record {
  in_flight =
      ap (filter (λ (x : Message). not (is_ack_from p.0 x.body))) k.in_flight
      ∙ says (is_ack_from p.0) (λ n. not (is_removed h n)) (sent h) 0 (sent h) (λ i b s. ap (slice_get (sent h)) (omega arith) ∙ s)
      ∙ sym (flying_taken m h refl);
  sent_so_far = k.sent_so_far ∙ sym same;
  clock = k.clock ∙ omega arith;
  count = k.count;
  ends = λ q l. k.ends q l ∙ sym (ends_still m h q refl refl);
  early = λ n l. or_from _ _ (ap (some_is (is_ack_from p.0)) (past_end (sent h) n (let e = same in grind (arith, nat_tests)))) (k.early n (let e = same in omega arith));
  few = let e = same in let few = k.few in omega arith;
}
  where
    h : History
    h = point.before

    m : Step
    m = step_at point (Heal p) Done

    same : length (sent (m ∷ h)) ≡ length (sent h)
    same = ap length (append-nil (sent h))

-- ---- teams

unless_same : (p : ℕ) (records : List Record) → map begun_of (map (healed_record p) records) ≡ map begun_of records
unless_same p [] = refl
unless_same p (it ∷ records) = ap₂ (λ (b : BegunRecord) bs. b ∷ bs) (at it.acked) (unless_same p records)
  where
    at : (b : Bool) → begun_of (if b then it else record it { marks = sets.remove it.marks p }) ≡ begun_of it
    at true = refl
    at false = refl

teams_healed : HealedMarks → HealedAcked → (m : Step) (h : History) (p : ℕ) (roster : Roster) → teams (m ∷ h) ≡ teams h → records (m ∷ h) ≡ records h → ((r q : ℕ) → marked (m ∷ h) r q ≡ (not ((p == q) && not (acked h r)) && marked h r q)) → ((r : ℕ) → acked (m ∷ h) r ≡ acked h r)
    → RefinesTeams h roster → RefinesTeams (m ∷ h) (healed_roster p roster)
teams_healed marks_off kept m h p roster same begun fewer still k = record {
  teams = k.teams ∙ sym same;
  records = unless_same p roster.records ∙ k.records ∙ sym begun;
  marks = λ r q. marks_off roster p r q ∙ ap₂ (λ a b. a && (b || not (q == p))) (k.marks r q) (k.acked r) ∙ off (marked h r q) (acked h r) (q == p) ∙ ap (λ t. not (t && not (acked h r)) && marked h r q) (swap q p) ∙ sym (fewer r q);
  acked = λ r. kept roster p r ∙ k.acked r ∙ sym (still r);
}
  where
    swap : (q p : ℕ) → (q == p) ≡ (p == q)
    swap q p = grind (arith, nat_tests)

    off : (a b t : Bool) → (a && (b || not t)) ≡ (not (t && not b) && a)
    off true true true = refl
    off true true false = refl
    off true false true = refl
    off true false false = refl
    off false true true = refl
    off false true false = refl
    off false false true = refl
    off false false false = refl

-- ---- Heal

pub heals_now : HealedMarks → HealedAcked → (point : Point) (p : ProcId) (machine : Machine) → Refines point.setup point.before machine → no_process point.setup p.0 ≡ false → gone point.before p.0 ≡ false → destroyed point.before p.0 ≡ true → up point.before p.0 ≡ true
    → None ≡ needed_by point.before p.0 (λ r. is_among (members_for point.before r) p.0)
    → StepsTo point (Heal p) Done (record machine { dead = healed_book p.0 machine.dead; net = without_acks_of p.0 machine.net; teams = healed_roster p.0 machine.teams })
heals_now marks_off kept point p machine k a b d e need = record {
  right = sym (heal_reply c h point.by p false false true true None a b d e (sym need));
  stands = record {
    dead = book_healed c m h p.0 machine.dead (λ q. refl) (λ q. refl) k.dead;
    rights = rights_still c m h machine.book refl refl refl refl k.rights;
    disks = disks_still c m h machine.disks (λ q. refl) refl (λ q. refl) k.disks;
    up = up_still c m h machine.up (λ q. refl) refl k.up;
    net = net_voided point p machine.net k.net;
    teams = teams_healed marks_off kept m h p.0 machine.teams (append-nil (teams h)) (append-nil (records h)) (λ r q. refl) (λ r. or_nothing (acked h r)) k.teams;
  };
}
  where
    c : Setup
    c = point.setup

    h : History
    h = point.before

    m : Step
    m = step_at point (Heal p) Done
