-- what is sent finds its room
use Rattle.std.proofs.Common.{◌≡◌, ℕ, ◌+◌, ◌^◌, ◌<◌, ◌≤◌, List, ◌∷◌, ◌++◌, Bool, true, false, ◌&&◌, Some, None, ◌⊎◌, inl, inr, refl, sym, ◌∙◌, ap, ap₂, nat_lt, nat_le, length, arith, if◌then◌else◌, length-append, slice_index}
use Rattle.std.proofs.lemmas.Bool.{or_from, and_parts}
use Rattle.std.proofs.lemmas.Bool.Decides.{nat_tests}
use Rattle.fy_net.specs.declared.message.Body.{Body}
use Rattle.fy_net.specs.declared.fault.NetFault.{NetFault}
use Rattle.fy_net.specs.declared.fault.NetFault.TheVariants.{NetFull as FullNet, NoMemory as NoMemoryLeft}
use Rattle.fy_net.specs.Net.{NetState, reserve_refusal}
use Rattle.fy_net.specs.declared.limits.TheConstants.{MOST_IN_FLIGHT}
use Rattle.fy_acts.specs.declared.act.Act.{Act}
use Rattle.fy_acts.specs.declared.reply.Refusal.TheVariants.{NetFull}
use Rattle.fy_acts.specs.declared.reply.Reply.TheVariants.{No}
use Rattle.fy_cluster.specs.declared.machine.Machine.{Machine}
use Rattle.fy_cluster.specs.Setup.{Setup, is_between}
use Rattle.fy_cluster.specs.History.{History, Step, sent, now, clogs, unclogs, ticks}
use Rattle.fy_cluster.specs.Replies.{is_full, first_refusal_or, refusals, answer}
use Rattle.fy_cluster.specs.Standing.{Refines, Point, StepsToOrOom, RefinesNet, IsReachable, numbered, messages_in_flight, reply_to_net_fault}
use Rattle.fy_cluster.proofs.Still.{ends_still}
use Rattle.fy_cluster.proofs.Flights.{flying_sent, count_flying}
use Rattle.fy_cluster.proofs.Journals.{length-history}
use Rattle.fy_cluster.proofs.Refusals.{refuse}

-- whether so many more would be too many is what the network says
pub full_is : (c : Setup) (h : History) (net : NetState) (n : ℕ) → RefinesNet c h net → nat_lt MOST_IN_FLIGHT (length net.in_flight + n) ≡ is_full h n
full_is c h net n k = ap (λ l. nat_lt 65536 (l + n)) (ap length k.in_flight ∙ count_flying h)

-- fewer messages were ever sent than there are numbers
pub few_sent : (c : Setup) (h : History) (net : NetState) → IsReachable c h → RefinesNet c h net → net.sent < 2 ^ 63
few_sent c h net l k =
    let range : (nat_le 1 c.limit && nat_le c.limit 1048576) ≡ true = (and_parts _ (is_between 1 1048576 c.limit) l.setup.in_range).1 in
    let most : nat_le c.limit 1048576 ≡ true = (and_parts (nat_le 1 c.limit) (nat_le c.limit 1048576) range).1 in
    let limit : c.limit ≤ 1048576 = grind (arith, nat_tests) in
    let count : length h ≡ length l.journal = sym (ap length l.same) ∙ length-history c l.journal in
    let few = k.few in
    let room = l.room in
    let sum = k.sent_so_far in
    omega arith

-- the network once a step sent its messages
pub net_sent : (c : Setup) (m : Step) (h : History) (net next : NetState) (bodies : List Body) → m.sends ≡ bodies → length bodies ≤ 65536 → ((n : ℕ) → m.removes n ≡ false) → clogs m.entry.act m.entry.reply ≡ None → unclogs m.entry.act m.entry.reply ≡ None → ticks m.entry.act m.entry.reply ≡ None
    → next.in_flight ≡ net.in_flight ++ numbered net.sent bodies → next.sent ≡ net.sent + length bodies → next.clock ≡ net.clock → next.until ≡ net.until → RefinesNet c h net → RefinesNet c (m ∷ h) next
net_sent c m h net next bodies sends few keeps no_clog no_end no_tick flight count clock until k = record {
  in_flight = flight ∙ ap₂ (λ xs n. xs ++ numbered n bodies) k.in_flight k.sent_so_far ∙ ap (λ bs. messages_in_flight h ++ numbered (length (sent h)) bs) (sym sends) ∙ sym (flying_sent m h keeps k.early);
  sent_so_far = count ∙ ap (λ n. n + length bodies) k.sent_so_far ∙ sym all_sent;
  clock = clock ∙ k.clock ∙ sym time;
  count = ap length until ∙ k.count;
  ends = λ p l. ap (λ us. slice_index us p) until ∙ k.ends p l ∙ sym (ends_still m h p no_clog no_end);
  early = λ n l. or_from _ _ (keeps n) (k.early n (let e = all_sent in omega arith));
  few = let e = all_sent in let few' = k.few in omega arith;
}
  where
    all_sent : length (sent (m ∷ h)) ≡ length (sent h) + length bodies
    all_sent = length-append (sent h) m.sends ∙ ap (λ bs. length (sent h) + length bs) sends

    time : now (m ∷ h) ≡ now h
    time = rw no_tick (omega arith)

-- what reserve's refusal tells
pub no_room_left : (point : Point) (act : Act) (n : ℕ) (m : Machine) (net : NetState) (fault : NetFault) → Refines point.setup point.before m
    → (is_full point.before n ≡ true → first_refusal_or (refusals point.setup point.before act) (answer point.setup point.before point.by act) ≡ No NetFull)
    → (reserve_refusal m.net n ≡ Some fault) ⊎ ((reserve_refusal m.net n ≡ None) × (fault ≡ NoMemoryLeft)) → net ≡ m.net
    → StepsToOrOom point act (reply_to_net_fault fault) (record m { net = net })
no_room_left point act n m net fault k full (inr out) is = rw (out.1, is) (refl, k)
no_room_left point act n m net fault k full (inl why) is = at (nat_lt MOST_IN_FLIGHT (length m.net.in_flight + n)) refl why
  where
    at : (b : Bool) → nat_lt MOST_IN_FLIGHT (length m.net.in_flight + n) ≡ b → (if b then Some FullNet else None) ≡ Some fault → StepsToOrOom point act (reply_to_net_fault fault) (record m { net = net })
    at true e why = let same : fault ≡ FullNet = cc in rw (same, is) (refuse point act NetFull m k (full (sym (full_is point.setup point.before m.net n k.net) ∙ e)))
    at false e why = absurd (cc)

-- and what its success tells
pub room_for : (c : Setup) (h : History) (net : NetState) (n : ℕ) → RefinesNet c h net → reserve_refusal net n ≡ None → (is_full h n ≡ false) × (n ≤ 65536)
room_for c h net n k clear = at (nat_lt MOST_IN_FLIGHT (length net.in_flight + n)) refl clear
  where
    at : (b : Bool) → nat_lt MOST_IN_FLIGHT (length net.in_flight + n) ≡ b → (if b then Some FullNet else None) ≡ None → (is_full h n ≡ false) × (n ≤ 65536)
    at true e clear = absurd (cc)
    at false e clear = (sym (full_is c h net n k) ∙ e, (let low : length net.in_flight + n ≤ 65536 = grind (arith, nat_tests) in omega arith))

-- only the room has changed
pub reserved_is : (old new : NetState) (room : ℕ) → new ≡ record old { room = room } → new ≡ record old { room = new.room }
reserved_is old new room e = e ∙ ap (λ (n : NetState). record old { room = n.room }) (sym e)
