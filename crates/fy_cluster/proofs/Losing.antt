-- a message is lost
use Rattle.std.proofs.Common.{◌==◌, ◌≡◌, ℕ, ◌∷◌, [], Bool, true, false, not, Option, Some, None, Result, Ok, Err, IsOk, refl, sym, ◌∙◌, ap, length, arith, nat_lt, ◌≤◌, append-nil, ◌++◌, if◌then◌else◌, slice_get}
use Rattle.std.proofs.lemmas.Bool.{or_from, false_from_ne_true, and_parts, false≢true}
use Rattle.std.proofs.lemmas.Bool.Decides.{nat_tests}
use Rattle.fy_net.specs.declared.message.Body.{Body}
use Rattle.fy_net.specs.declared.fault.NetFault.{NetFault}
use Rattle.fy_net.specs.declared.fault.NetFault.TheVariants.{NoMessage as NoneInFlight}
use Rattle.fy_net.specs.Net.{NetState, body_of, without, without_message, lose_refusal, missing_refusal}
use Rattle.fy_acts.specs.declared.act.Act.TheVariants.{Lose}
use Rattle.fy_acts.specs.declared.reply.Reply.{Reply}
use Rattle.fy_acts.specs.declared.reply.Reply.TheVariants.{Done, No}
use Rattle.fy_acts.specs.declared.reply.Refusal.TheVariants.{NoMessage}
use Rattle.fy_cluster.specs.declared.machine.Machine.{Machine}
use Rattle.fy_cluster.specs.Setup.{Setup}
use Rattle.fy_cluster.specs.History.{History, Step, sent, in_flight, clogs, unclogs, ticks}
use Rattle.fy_cluster.specs.Replies.{first_refusal_or, refusals, answer}
use Rattle.fy_cluster.specs.Standing.{Refines, Point, StepsTo, step_at, RefinesNet}
use Rattle.fy_cluster.proofs.Still.{teams_idle, only_traffic, ends_still}
use Rattle.fy_cluster.proofs.Flights.{flying_without, body_flying}
use Rattle.fy_cluster.proofs.Refusals.{refuse}
use Rattle.fy_cluster.proofs.Records.{slice_get-some}

-- ---- a message leaves

-- what the network says of a number tells whether its message is in flight
pub flies : (c : Setup) (h : History) (net : NetState) → RefinesNet c h net → (n : ℕ) (b : Body) → body_of net.in_flight n ≡ Some b → (in_flight h n ≡ true) × (slice_get (sent h) n ≡ Some b)
flies c h net k n b e = at (in_flight h n) refl (sym (ap (λ xs. body_of xs n) k.in_flight ∙ body_flying h n) ∙ e)
  where
    at : (f : Bool) → in_flight h n ≡ f → (if f then slice_get (sent h) n else None) ≡ Some b → (in_flight h n ≡ true) × (slice_get (sent h) n ≡ Some b)
    at true is e = (is, e)
    at false is e = absurd (cc)

some_or_none : {X : Type 0} (xs : Option X) → xs ≡ None → (x : X) → xs ≡ Some x → ⊥
some_or_none xs e x f = cc

pub was_sent : (h : History) (n : ℕ) → in_flight h n ≡ true → (b : Body) × (slice_get (sent h) n ≡ Some b)
was_sent h n f = slice_get-some (sent h) n (let w = (and_parts (nat_lt n (length (sent h))) _ f).0 in grind (arith, nat_tests))

pub flies_not : (c : Setup) (h : History) (net : NetState) → RefinesNet c h net → ((n : ℕ) → in_flight h n ≡ true → (b : Body) × (slice_get (sent h) n ≡ Some b)) → (n : ℕ) → body_of net.in_flight n ≡ None → in_flight h n ≡ false
flies_not c h net k there n e = false_from_ne_true _ (λ f.
    let b = there n f in
    some_or_none (body_of net.in_flight n) e b.0 (ap (λ xs. body_of xs n) k.in_flight ∙ body_flying h n ∙ rw f b.1))

pub net_left : (c : Setup) (m : Step) (h : History) (net : NetState) (n : ℕ) → in_flight h n ≡ true → m.sends ≡ [] → ((k : ℕ) → m.removes k ≡ (k == n)) → clogs m.entry.act m.entry.reply ≡ None → unclogs m.entry.act m.entry.reply ≡ None → ticks m.entry.act m.entry.reply ≡ None
    → RefinesNet c h net → RefinesNet c (m ∷ h) (without_message n net)
net_left c m h net n flying_now none one no_clog no_end no_tick k = record {
  in_flight = ap (without n) k.in_flight ∙ sym (flying_without m h n none one);
  sent_so_far = k.sent_so_far ∙ sym same;
  clock = k.clock ∙ sym (rw no_tick (omega arith));
  count = k.count;
  ends = λ p l. k.ends p l ∙ sym (ends_still m h p no_clog no_end);
  early = λ i l. or_from _ _ (one i ∙ other i (let e = same in omega arith)) (k.early i (let e = same in omega arith));
  few = let e = same in let few = k.few in omega arith;
}
  where
    same : length (sent (m ∷ h)) ≡ length (sent h)
    same = ap (λ xs. length (sent h ++ xs)) none ∙ ap length (append-nil (sent h))

    within : nat_lt n (length (sent h)) ≡ true
    within = (and_parts (nat_lt n (length (sent h))) _ flying_now).0

    other : (i : ℕ) → length (sent h) ≤ i → (i == n) ≡ false
    other i l = let w = within in grind (arith, nat_tests)

-- ---- Lose

lose_reply : (c : Setup) (h : History) (by n : ℕ) (a : Bool) → in_flight h n ≡ a → first_refusal_or (refusals c h (Lose n)) (answer c h by (Lose n)) ≡ first_refusal_or ((not a, NoMessage) ∷ []) Done
unfolding refusals answer
lose_reply c h by n a e = rw e refl

abbrev pub lost_reply : Result (Unit {0}) NetFault → Reply
lost_reply (Ok u) = Done
lost_reply (Err fault) = No NoMessage

pub swap_eq : (k n : ℕ) → (n == k) ≡ (k == n)
swap_eq k n = grind (arith, nat_tests)

lost : (point : Point) (n : ℕ) (m : Machine) → Refines point.setup point.before m → in_flight point.before n ≡ true → StepsTo point (Lose n) Done (record m { net = without_message n m.net })
lost point n machine k f = record {
  right = sym (lose_reply c h point.by n true f);
  stands = only_traffic point (Lose n) Done machine (without_message n machine.net) machine.teams refl (λ p. refl) k
      (net_left c m h machine.net n f refl (λ k. swap_eq k n) refl refl refl k.net)
      (teams_idle point (Lose n) Done machine.teams refl refl refl refl refl k.teams);
}
  where
    c : Setup
    c = point.setup

    h : History
    h = point.before

    m : Step
    m = step_at point (Lose n) Done

pub lose_step : (point : Point) (n : ℕ) (m : Machine) (net : NetState) (result : Result (Unit {0}) NetFault) → Refines point.setup point.before m
    → ((fault : NetFault) → lose_refusal m.net n ≡ Some fault → (result ≡ Err fault) × (net ≡ m.net))
    → (lose_refusal m.net n ≡ None → (IsOk result) × (net ≡ without_message n m.net))
    → StepsTo point (Lose n) (lost_reply result) (record m { net = net })
lose_step point n m net result k past fits = at (body_of m.net.in_flight n) result refl past fits
  where
    there : (n : ℕ) → in_flight point.before n ≡ true → (b : Body) × (slice_get (sent point.before) n ≡ Some b)
    there n f = slice_get-some (sent point.before) n (let w = (and_parts (nat_lt n (length (sent point.before))) _ f).0 in grind (arith, nat_tests))

    at : (o : Option Body) (result : Result (Unit {0}) NetFault) → body_of m.net.in_flight n ≡ o
        → ((fault : NetFault) → lose_refusal m.net n ≡ Some fault → (result ≡ Err fault) × (net ≡ m.net))
        → (lose_refusal m.net n ≡ None → (IsOk result) × (net ≡ without_message n m.net))
        → StepsTo point (Lose n) (lost_reply result) (record m { net = net })
    at None result e past fits =
        let said = past NoneInFlight (ap missing_refusal e) in
        rw (said.0, said.1) (refuse point (Lose n) NoMessage m k (lose_reply point.setup point.before point.by n false (flies_not point.setup point.before m.net k.net there n e)))
    at (Some b) (Ok u) e past fits = let said = fits (ap missing_refusal e) in rw said.1 (lost point n m k (flies point.setup point.before m.net k.net n b e).0)
    at (Some b) (Err fault) e past fits = absurd (false≢true (fits (ap missing_refusal e)).0)
