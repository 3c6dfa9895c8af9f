-- a record is acknowledged only by an entry whose reply says so
use Rattle.std.proofs.Common.{◌≡◌, ◌≢◌, ◌∙◌, ◌==◌, ℕ, Bool, true, false, not, Option, Some, None, is_some, option_map, [], ◌∷◌, length, slice_get, refl, sym, ap, subst, if◌then◌else◌}
use Rattle.std.specs.Prelude.{option_and_then}
use Rattle.std.specs.Option.{option_map_or}
use Rattle.std.specs.List.{AllByRecursion}
use Rattle.std.proofs.lemmas.Bool.{false≢true, eqb-true, and_parts, or_parts, false_from_ne_true}
use Rattle.fy_locality.specs.declared.ProcId.{ProcId}
use Rattle.fy_net.specs.declared.message.Body.{Body}
use Rattle.fy_net.specs.declared.message.Body.TheVariants.{Store, Synced}
use Rattle.fy_net.specs.Net.{NetState, body_of}
use Rattle.fy_acts.specs.declared.act.Act.{Act}
use Rattle.fy_acts.specs.declared.act.Act.TheVariants.{Deliver}
use Rattle.fy_acts.specs.declared.reply.Reply.{Reply}
use Rattle.fy_acts.specs.declared.reply.Reply.TheVariants.{Marked, Done}
use Rattle.fy_acts.specs.declared.entry.Entry.{Entry}
use Rattle.fy_cluster.specs.Setup.{Setup}
use Rattle.fy_cluster.specs.History.{History, Step, step_of, some_is, is_accepted, delivers, message_of, ack_of, sent, in_flight, delivers_ack_of, acked, record_marked}
use Rattle.fy_cluster.specs.Replies.{IsNext, reply, reasons, refusals, answer, on_delivery, is_acked_with}
use Rattle.fy_cluster.specs.Execution.{Execution, history_of, next_entry, entered}
use Rattle.fy_cluster.specs.declared.machine.Machine.{Machine}
use Rattle.fy_cluster.specs.Standing.{RefinesNet, RefinesJournal}
use Rattle.fy_cluster.proofs.Flights.{body_flying}
use Rattle.fy_cluster.proofs.Journals.{after-append, length-history}
use Rattle.fy_cluster.proofs.Strikes.{accepted}
use Rattle.fy_cluster.proofs.Still.{acked_kept}

pub delivers_is : (act : Act) (r : Reply) → is_some (delivers act r) ≡ true → (n : ℕ) × (act ≡ Deliver n) × (is_accepted r ≡ true)
delivers_is (Deliver n) r s = (n, refl, at (is_accepted r) s)
  where
    at : (b : Bool) → is_some (if b then Some n else None) ≡ true → b ≡ true
    at true s = refl
    at false s = s
delivers_is _ r s = absurd (false≢true s)

pub ack_is : (r : ℕ) (o : Option Body) → some_is (λ w. w.0 == r) (option_and_then ack_of o) ≡ true → (from : ProcId) × (o ≡ Some (Synced r from))
ack_is r None s = absurd (false≢true s)
ack_is r (Some (Store q to)) s = absurd (false≢true s)
ack_is r (Some (Synced q from)) s = (from, ap (λ k. Some (Synced k from)) (eqb-true q r s))

pub answered : (c : Setup) (h : History) (by n r : ℕ) (from : ProcId) → slice_get (sent h) n ≡ Some (Synced r from) → answer c h by (Deliver n) ≡ Marked (is_acked_with h r from.0)
unfolding answer
answered c h by n r from s = ap (λ o. option_map_or (on_delivery h) o Done) s

-- an acknowledgement that is delivered acknowledges its record where the answer says so
pub acked_now : (c : Setup) (h : History) (at by n r : ℕ) (from : ProcId) (told : Bool) → slice_get (sent h) n ≡ Some (Synced r from)
    → acked (step_of c h (record { at = at; by = by; act = Deliver n; reply = Marked told }) ∷ h) r ≡ is_acked_with h r from.0
acked_now c h at by n r from told s =
    let m : Step = step_of c h (record { at = at; by = by; act = Deliver n; reply = Marked told }) in
    ap (λ o. acked (record m { message = o } ∷ h) r) s

-- behind an entry whose reply doesn't say so, a record is acknowledged as it was
pub acked_as_it_was : (c : Setup) (h : History) (e : Entry) → IsNext c h e → e.reply ≢ Marked true → (r : ℕ) → acked (step_of c h e ∷ h) r ≡ acked h r
acked_as_it_was c h e next quiet r = at (delivers_ack_of m r) refl
  where
    m : Step
    m = step_of c h e

    at : (b : Bool) → delivers_ack_of m r ≡ b → acked (m ∷ h) r ≡ acked h r
    at false s = acked_kept m h r s
    at true s =
        let parts = and_parts (is_some (delivers e.act e.reply)) _ s in
        let is = delivers_is e.act e.reply parts.0 in
        let word = ack_is r (message_of h e.act) parts.1 in
        let there : slice_get (sent h) is.0 ≡ Some (Synced r word.0) = sym (ap (message_of h) is.1) ∙ word.1 in
        let told : e.reply ≡ Marked (is_acked_with h r word.0.0) =
        (accepted c h e next is.2).1 ∙ ap (answer c h e.by) is.1 ∙ answered c h e.by is.0 r word.0 there in
        let not_with : is_acked_with h r word.0.0 ≡ false = false_from_ne_true (is_acked_with h r word.0.0) (λ with. quiet (told ∙ ap Marked with)) in
        let same : e ≡ record { at = e.at; by = e.by; act = Deliver is.0; reply = Marked (is_acked_with h r word.0.0) } =
        λ i. record { at = e.at; by = e.by; act = is.1 i; reply = told i } in
        let not_now : acked (m ∷ h) r ≡ false =
        ap (λ it. acked (step_of c h it ∷ h) r) same ∙ acked_now c h e.at e.by is.0 r word.0 (is_acked_with h r word.0.0) there ∙ not_with in
        not_now ∙ sym (or_parts (acked h r) _ not_now).0

-- the same, whatever place the entry has
pub acknowledged_by_reply : (c : Setup) (h : History) (e : Entry) → e.reply ≡ reply c h e.by e.act → e.reply ≢ Marked true → (r : ℕ) → acked (step_of c h e ∷ h) r ≡ acked h r
acknowledged_by_reply c h e right quiet r =
    let next : Entry = record { at = length h; by = e.by; act = e.act; reply = e.reply } in
    acked_as_it_was c h next (record { place = refl; right = right }) quiet r

-- ---- the record that an act marks

unrefused : (b : Bool) → not b ≡ false → b ≡ true
unrefused true e = refl
unrefused false e = absurd (false≢true (sym e))

-- what is delivered was in flight
delivered_flies : (c : Setup) (h : History) (e : Entry) → IsNext c h e → (n : ℕ) → e.act ≡ Deliver n → is_accepted e.reply ≡ true → in_flight h n ≡ true
unfolding reasons refusals
delivered_flies c h e next n is ok =
    unrefused (in_flight h n) (subst (λ a. AllByRecursion (λ t. t.0 ≡ false) (refusals c h a)) is (accepted c h e next ok).0.1.1).0

-- an act that delivers an acknowledgement of a record marks that one
marks_it : (h : History) (act : Act) (n r : ℕ) (from : ProcId) → act ≡ Deliver n → in_flight h n ≡ true → slice_get (sent h) n ≡ Some (Synced r from) → record_marked h act ≡ Some r
marks_it h act n r from is flies there =
    ap (record_marked h) is
    ∙ ap (λ b. if b then option_map (λ w. w.0) (option_and_then ack_of (slice_get (sent h) n)) else None) flies
    ∙ ap (λ o. option_map (λ w. w.0) (option_and_then ack_of o)) there

-- behind an entry, a record that its act doesn't mark is acknowledged as it was
pub unmarked_as_it_was : (c : Setup) (h : History) (e : Entry) → IsNext c h e → (r : ℕ) → record_marked h e.act ≢ Some r → acked (step_of c h e ∷ h) r ≡ acked h r
unmarked_as_it_was c h e next r other = at (delivers_ack_of (step_of c h e) r) refl
  where
    at : (b : Bool) → delivers_ack_of (step_of c h e) r ≡ b → acked (step_of c h e ∷ h) r ≡ acked h r
    at false silent = acked_kept (step_of c h e) h r silent
    at true heard =
        let parts = and_parts (is_some (delivers e.act e.reply)) _ heard in
        let is = delivers_is e.act e.reply parts.0 in
        let word = ack_is r (message_of h e.act) parts.1 in
        let there : slice_get (sent h) is.0 ≡ Some (Synced r word.0) = sym (ap (message_of h) is.1) ∙ word.1 in
        absurd (other (marks_it h e.act is.0 r word.0 is.1 (delivered_flies c h e next is.0 is.1 is.2) there))

-- the same, of a journal to which the act is entered
pub unmarked_entered : (x : Execution) (by : ℕ) (act : Act) (r : ℕ) → record_marked (history_of x) act ≢ Some r → acked (history_of (entered x by act)) r ≡ acked (history_of x) r
unmarked_entered x by act r other =
    let e : Entry = next_entry x by act in
    ap (λ h. acked h r) (after-append x.setup [] x.journal (e ∷ []))
    ∙ unmarked_as_it_was x.setup (history_of x) e (record { place = sym (length-history x.setup x.journal); right = refl }) r other

-- what the network has under a number is what was sent and is in flight
pub marked_by_body : (c : Setup) (h : History) (net : NetState) → RefinesNet c h net → (n : ℕ) → option_map (λ w. w.0) (option_and_then ack_of (body_of net.in_flight n)) ≡ record_marked h (Deliver n)
marked_by_body c h net k n =
    ap (λ o. option_map (λ w. w.0) (option_and_then ack_of o)) (ap (λ ms. body_of ms n) k.in_flight ∙ body_flying h n)
    ∙ at (in_flight h n)
  where
    at : (b : Bool) → option_map (λ w. w.0) (option_and_then ack_of (if b then slice_get (sent h) n else None)) ≡ (if b then option_map (λ w. w.0) (option_and_then ack_of (slice_get (sent h) n)) else None)
    at true = refl
    at false = refl

-- no other act delivers
pub marks_none : (h : History) (act : Act) → ((n : ℕ) → act ≡ Deliver n → ⊥) → None ≡ record_marked h act
marks_none h (Deliver n) other = absurd (other n refl)
marks_none h _ other = refl

-- what the network has under the number of an act that delivers is what the act marks
pub marked_now : (x : Execution) (m : Machine) → RefinesJournal x.setup x.journal m → (act : Act) (n : ℕ) → act ≡ Deliver n → option_map (λ w. w.0) (option_and_then ack_of (body_of m.net.in_flight n)) ≡ record_marked (history_of x) act
marked_now x m kept act n is = marked_by_body x.setup (history_of x) m.net kept.stands.net n ∙ ap (record_marked (history_of x)) (sym is)
