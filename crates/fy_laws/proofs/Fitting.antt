-- the entries of a legal journal fit, where who acts and the acts do: a cluster's numbers are small
use Rattle.std.proofs.Common.{◌≡◌, ◌∙◌, ℕ, zero, suc, ◌+◌, ◌*◌, ◌^◌, ◌<◌, ◌≤◌, Bool, true, false, ◌&&◌, not, List, [], ◌∷◌, ◌++◌, length, find, cond, if◌then◌else◌, Option, Some, None, option_map, option_to_list, refl, sym, ap, subst, arith, nat_lt, nat_le, slice_get, slice_set, length-append}
use Rattle.std.specs.Prelude.{IfSome, unwrap_or}
use Rattle.std.specs.List.{AllByRecursion, range_with_len, position, position_or_len, list_any}
use Rattle.std.specs.Option.{option_map_or}
use Rattle.std.proofs.lemmas.Bool.{false≢true}
use Rattle.std.proofs.lemmas.Bool.Decides.{nat_tests}
use Rattle.std.proofs.lemmas.List.{length-map}
use Rattle.std.proofs.lemmas.Option.{IfSome_then}
use Rattle.fy_locality.specs.declared.ProcId.{ProcId}
use Rattle.fy_kinds.specs.Kinds.{Deed, Clogging, Striking, is_destroying, destroys_for_good, is_kill_which}
use Rattle.fy_kinds.specs.declared.verdict.Rule.{Rule}
use Rattle.fy_kinds.specs.declared.verdict.Rule.TheVariants.{NoTarget, NoGrant, Protected, TooManyDestroyed, TooFewLeft}
use Rattle.fy_policy.specs.Tree.{Tree}
use Rattle.fy_disk.specs.declared.item.Item.{Item}
use Rattle.fy_team.specs.Teams.{Team, is_among}
use Rattle.fy_decide.specs.Verdicts.{targets, numbers, is_granted_to, permission_rules, loss_rules, too_many_destroyed, too_few_left, first_rule, bar, verdict, order_targets}
use Rattle.fy_acts.specs.declared.act.Act.{Act}
use Rattle.fy_acts.specs.declared.act.Act.TheVariants.{Kill, Clog, Unclog, Form, Begin, Deliver, Lose, Resend, Sync, Up, Tick, Give, Take, Protect, Unprotect, CopyTo, Replace, Heal}
use Rattle.fy_acts.specs.declared.reply.Refusal.{Refusal}
use Rattle.fy_acts.specs.declared.reply.Reply.{Reply}
use Rattle.fy_acts.specs.declared.reply.Reply.TheVariants.{Marked, Stored, Done}
use Rattle.fy_acts.specs.declared.entry.Entry.{Entry}
use Rattle.fy_spelling.specs.Fits.{IsU32, FitsAct, FitsRule, FitsRefusal, FitsReply, FitsEntry}
use Rattle.fy_cluster.specs.Setup.{Setup}
use Rattle.fy_cluster.specs.History.{History, Swap, is_accepted, forms, begins, replaces, with_swap, after_swap, teams, records, sent, left, unsynced, now, members_of, members_for, ack_of, stores_of, acks_of, sends_of, in_flight_count, step_of}
use Rattle.fy_cluster.specs.Rules.{situation}
use Rattle.fy_cluster.specs.Replies.{first_refusal_or, refusals, reasons, answer, reply, on_delivery, is_acked_with, policy_of, is_of_team, needed_by, IsNext}

-- ---- lists

each_append : {X : Type 0} (P : X → Type 0) (xs ys : List X) → AllByRecursion P xs →
    AllByRecursion P ys → AllByRecursion P (xs ++ ys)
each_append P [] ys a b = b
each_append P (x ∷ xs) ys a b = (a.0, each_append P xs ys a.1 b)

each_set : {X : Type 0} (P : X → Type 0) (xs : List X) (i : ℕ) (y : X) → AllByRecursion P xs →
    P y → AllByRecursion P (slice_set xs i y)
each_set P [] i y a here = tt
each_set P (x ∷ xs) zero y a here = (here, a.1)
each_set P (x ∷ xs) (suc i) y a here = (a.0, each_set P xs i y a.1 here)

each_get : {X : Type 0} (P : X → Type 0) (xs : List X) (i : ℕ) → AllByRecursion P xs →
    IfSome (slice_get xs i) P
each_get P [] i a = tt
each_get P (x ∷ xs) zero a = a.0
each_get P (x ∷ xs) (suc i) a = each_get P xs i a.1

-- a number that is found in a range is below its end
found_below : (test : ℕ → Bool) (from count : ℕ) →
    IfSome (find test (range_with_len from count)) (λ n. n < from + count)
found_below test from zero = tt
found_below test from (suc count) = at (test from) (found_below test (from + 1) count)
  where
    at : (b : Bool) →
        IfSome (find test (range_with_len (from + 1) count)) (λ n. n < (from + 1) + count) →
        IfSome (cond b (Some from) (find test (range_with_len (from + 1) count)))
        (λ n. n < from + suc count)
    at true later = omega arith
    at false later =
        IfSome_then (find test (range_with_len (from + 1) count)) later (λ n l. omega (arith, l))

-- so is a place that is found in a list
place_below : {X : Type 0} (test : X → Bool) (xs : List X) →
    IfSome (position test xs) (λ i. i < length xs)
place_below test xs = at (nat_lt (position_or_len test xs) (length xs)) refl
  where
    at : (b : Bool) → nat_lt (position_or_len test xs) (length xs) ≡ b →
        IfSome (cond b (Some (position_or_len test xs)) None) (λ i. i < length xs)
    at true is = grind (arith, nat_tests)
    at false is = tt

-- a number below a bound of at most 32 bits is short
short_below : (count : ℕ) (found : Option ℕ) → count ≤ 2 ^ 32 →
    IfSome found (λ n. n < count) → IfSome found IsU32
short_below count found few below = IfSome_then found below (λ n l. omega (arith, l))

-- ---- what bars a deed

first_fits : (rules : List (Option Rule)) → AllByRecursion FitsRule rules →
    FitsRule (first_rule rules)
first_fits [] each = tt
first_fits (None ∷ rest) each = first_fits rest each.1
first_fits (Some rule ∷ rest) each = each.0

no_target_fits : (some : Bool) → FitsRule (if some then None else Some NoTarget)
no_target_fits true = tt
no_target_fits false = tt

no_grant_fits : (found : Option ℕ) → IfSome found IsU32 →
    FitsRule (option_map NoGrant (option_map (λ p. record { 0 = p }) found))
no_grant_fits None short = tt
no_grant_fits (Some p) short = short

protected_fits : (found : Option ℕ) → IfSome found IsU32 →
    FitsRule (option_map Protected (option_map (λ p. record { 0 = p }) found))
protected_fits None short = tt
protected_fits (Some p) short = short

destroyed_fits : (destroying : Bool) (found : Option ℕ) → IfSome found IsU32 →
    FitsRule (if destroying then option_map TooManyDestroyed found else None)
destroyed_fits false found short = tt
destroyed_fits true None short = tt
destroyed_fits true (Some policy) short = short

left_fits : (for_good : Bool) (found : Option ℕ) → IfSome found IsU32 →
    FitsRule (if for_good then option_map TooFewLeft found else None)
left_fits false found short = tt
left_fits true None short = tt
left_fits true (Some policy) short = short

-- a cluster's processes, policies and entries have numbers of 32 bits
pub record IsSmall (c : Setup) : Type 0 where
  pub processes : length c.processes ≤ 2 ^ 32
  pub policies : length c.policies ≤ 2 ^ 32
  pub limit : c.limit ≤ 1048576

bar_fits : (c : Setup) (h : History) (by : ℕ) (deed : Deed) (s : ℕ → Bool) → IsSmall c →
    FitsRule (bar (situation c h by) deed s)
unfolding bar
bar_fits c h by deed s small =
    let now = situation c h by in
    first_fits (permission_rules now deed s ++ loss_rules now deed s) (
      no_target_fits (list_any s (numbers now)),
      (
        no_grant_fits _ (first_process (λ p. s p && not (is_granted_to now deed p))),
        (
          protected_fits _ (first_process (λ p. s p && now.is_protected p deed)),
          (
            destroyed_fits (is_kill_which is_destroying deed) (too_many_destroyed now s) (first_policy _),
            (left_fits (is_kill_which destroys_for_good deed) (too_few_left now s) (first_policy _), tt),
          ),
        ),
      ),
    )
  where
    first_process : (test : ℕ → Bool) →
        IfSome (find test (range_with_len 0 (length c.processes))) IsU32
    first_process test =
        let few = small.processes in
        short_below (0 + length c.processes) _ (omega arith) (found_below test 0 (length c.processes))

    first_policy : (test : Tree → Bool) → IfSome (position test c.policies) IsU32
    first_policy test =
        short_below (length c.policies) _ small.policies (place_below test c.policies)

-- ---- what a history keeps

-- no more records than entries, no more messages for each than may be in flight, and teams whose
-- policies are numbers of 32 bits
pub record IsCounted (h : History) : Type 0 where
  pub few_records : length (records h) ≤ length h
  pub few_sent : length (sent h) ≤ 65536 * length h
  pub policies : AllByRecursion (λ team. IsU32 team.policy) (teams h)

-- none of the reasons holds
abbrev NoneHolds : List (Bool × Refusal) → Type 0
NoneHolds reasons = AllByRecursion (λ reason. reason.0 ≡ false) reasons

-- where a reply accepts, no reason held
accepted_by : (reasons : List (Bool × Refusal)) (answer given : Reply) →
    given ≡ first_refusal_or reasons answer → is_accepted given ≡ true → NoneHolds reasons
accepted_by [] answer given is accepted = tt
accepted_by ((true, refusal) ∷ rest) answer given is accepted =
    absurd (false≢true (sym (ap is_accepted is) ∙ accepted))
accepted_by ((false, refusal) ∷ rest) answer given is accepted =
    (refl, accepted_by rest answer given is accepted)

-- a store goes to each process, and a word is said of each write
stores_count : (rec : ℕ) (all : List ProcId) → length (stores_of rec all) ≡ length all
stores_count rec all = length-map all _

words_count : (process : ProcId) (items : List Item) → length (acks_of process items) ≡ length items
words_count process items = length-map items _

-- what an accepted act sends is no more than may be in flight
sends_few : (c : Setup) (h : History) (by : ℕ) (act : Act) (given : Reply) →
    given ≡ reply c h by act → is_accepted given ≡ true → length (sends_of h act) ≤ 65536
unfolding reply reasons refusals
sends_few c h by (Begin team payload) given is accepted =
    let none = accepted_by (reasons c h by (Begin team payload)) (answer c h by (Begin team payload)) given is accepted in
    let room : nat_lt 65536 (in_flight_count h + length (members_of h team)) ≡ false = none.1.1.1.1.1.0 in
    let each = stores_count (length (records h)) (members_of h team) in
    let few : in_flight_count h + length (members_of h team) ≤ 65536 = grind (arith, nat_tests) in
    omega arith
sends_few c h by (Sync process) given is accepted =
    let none = accepted_by (reasons c h by (Sync process)) (answer c h by (Sync process)) given is accepted in
    let room : nat_lt 65536 (in_flight_count h + length (unsynced h process.0)) ≡ false = none.1.1.1.1.0 in
    let each = words_count process (unsynced h process.0) in
    let few : in_flight_count h + length (unsynced h process.0) ≤ 65536 = grind (arith, nat_tests) in
    omega arith
sends_few c h by (Resend rec process) given is accepted = omega arith
sends_few c h by (CopyTo from rec to) given is accepted = omega arith
sends_few c h by _ given is accepted = omega arith

-- so is what the moment of an entry sends
moment_sends_few : (c : Setup) (h : History) (e : Entry) → IsNext c h e →
    length (step_of c h e).sends ≤ 65536
moment_sends_few c h e next = at (is_accepted e.reply) refl
  where
    at : (b : Bool) → is_accepted e.reply ≡ b → length (if b then sends_of h e.act else []) ≤ 65536
    at true accepted = sends_few c h e.by e.act e.reply next.right accepted
    at false refused = omega arith

at_most_one : {X : Type 0} (o : Option X) → length (option_to_list o) ≤ 1
at_most_one None = omega arith
at_most_one (Some x) = omega arith

-- a team that is formed names a policy of 32 bits
formed_short : (act : Act) (given : Reply) → FitsAct act →
    AllByRecursion (λ (team : Team). IsU32 team.policy) (option_to_list (forms act given))
formed_short (Form members policy) given fits = at (is_accepted given)
  where
    at : (b : Bool) → AllByRecursion (λ (team : Team). IsU32 team.policy)
        (option_to_list (if b then Some (record { members = members; policy = policy }) else None))
    at true = (fits.1, tt)
    at false = tt
formed_short _ given fits = tt

-- and keeps its policy while its members change
swapped_short : (swap : Option Swap) (all : List Team) →
    AllByRecursion (λ (team : Team). IsU32 team.policy) all →
    AllByRecursion (λ (team : Team). IsU32 team.policy) (after_swap swap all)
swapped_short None all each = each
swapped_short (Some s) all each = at (slice_get all s.team) (each_get _ all s.team each)
  where
    at : (o : Option Team) → IfSome o (λ (team : Team). IsU32 team.policy) →
        AllByRecursion (λ (team : Team). IsU32 team.policy)
        (option_map_or (λ team. slice_set all s.team (with_swap s team)) o all)
    at None short = each
    at (Some team) short = each_set _ all s.team (with_swap s team) each short

pub counted_more : (c : Setup) (h : History) (e : Entry) → IsNext c h e → FitsAct e.act →
    IsCounted h → IsCounted (step_of c h e ∷ h)
counted_more c h e next fits counted = record {
  few_records =
      let all = length-append (records h) (option_to_list (begins e.act e.reply)) in
      let one = at_most_one (begins e.act e.reply) in
      let few = counted.few_records in
      omega arith;
  few_sent =
      let all = length-append (sent h) (step_of c h e).sends in
      let more = moment_sends_few c h e next in
      let few = counted.few_sent in
      omega arith;
  policies =
      each_append _ (after_swap (replaces e.act e.reply) (teams h)) (option_to_list (forms e.act e.reply))
      (swapped_short (replaces e.act e.reply) (teams h) counted.policies)
      (formed_short e.act e.reply fits);
}

-- ---- what is replied

-- a reply is the answer, where no reason holds, or a refusal
refused_fits : (reasons : List (Bool × Refusal)) (answer : Reply) →
    AllByRecursion (λ reason. FitsRefusal reason.1) reasons →
    (NoneHolds reasons → FitsReply answer) → FitsReply (first_refusal_or reasons answer)
refused_fits [] answer each fits = fits tt
refused_fits ((true, refusal) ∷ rest) answer each fits = each.0
refused_fits ((false, refusal) ∷ rest) answer each fits =
    refused_fits rest answer each.1 (λ none. fits (refl, none))

policy_short : (found : Option Team) → IfSome found (λ team. IsU32 team.policy) →
    IsU32 (option_map_or (λ team. team.policy) found 0)
policy_short None short = omega arith
policy_short (Some team) short = short

need_short : (found : Option ℕ) → IfSome found IsU32 → IsU32 (unwrap_or found 0)
need_short None short = omega arith
need_short (Some rec) short = short

-- the policy of a team
team_policy : (h : History) (team : ℕ) → IsCounted h → IsU32 (policy_of h team)
team_policy h team counted =
    policy_short (slice_get (teams h) team) (each_get _ (teams h) team counted.policies)

-- the record that is still needed
needed : (h : History) (p : ℕ) (test : ℕ → Bool) → IsCounted h → length h ≤ 1048576 →
    IsU32 (unwrap_or (needed_by h p test) 0)
needed h p test counted room =
    let few = counted.few_records in
    need_short (needed_by h p test)
    (short_below (0 + length (records h)) (needed_by h p test) (omega arith)
    (found_below _ 0 (length (records h))))

refusals_fit : (c : Setup) (h : History) (act : Act) → IsCounted h → length h ≤ 1048576 →
    FitsAct act → AllByRecursion (λ reason. FitsRefusal reason.1) (refusals c h act)
unfolding refusals
refusals_fit c h (Kill order) counted room fits = tt
refusals_fit c h (Clog target n) counted room fits = tt
refusals_fit c h (Unclog target) counted room fits = tt
refusals_fit c h (Form members policy) counted room fits = (tt, (tt, (tt, (tt, (fits.1, tt)))))
refusals_fit c h (Begin team payload) counted room fits = (tt, (tt, (tt, (tt, tt))))
refusals_fit c h (Deliver n) counted room fits = (tt, (tt, (tt, tt)))
refusals_fit c h (Lose n) counted room fits = (tt, tt)
refusals_fit c h (Resend rec process) counted room fits = (tt, (tt, (tt, (tt, tt))))
refusals_fit c h (Sync process) counted room fits = (tt, (tt, (tt, tt)))
refusals_fit c h (Up process) counted room fits = (tt, (tt, (tt, tt)))
refusals_fit c h (Tick n) counted room fits = (tt, tt)
refusals_fit c h (Give grant) counted room fits = (tt, (tt, tt))
refusals_fit c h (Take actor index) counted room fits = (tt, (tt, tt))
refusals_fit c h (Protect process kinds) counted room fits = (tt, tt)
refusals_fit c h (Unprotect process kinds) counted room fits = (tt, tt)
refusals_fit c h (CopyTo from rec to) counted room fits = (tt, (tt, (tt, (tt, (tt, (tt, tt))))))
refusals_fit c h (Replace team out into) counted room fits =
    let need = needed h into.0 (is_of_team h team) counted room in
    (tt, (tt, (tt, (tt, (tt, (team_policy h team counted, (need, tt)))))))
refusals_fit c h (Heal process) counted room fits =
    let need = needed h process.0 (λ r. is_among (members_for h r) process.0) counted room in
    (tt, (tt, (tt, (tt, (need, tt)))))

-- what stands for a value that may be there fits, where either of its replies does
either_fits : {X : Type 0} (f : X → Reply) (o : Option X) (other : Reply) →
    ((x : X) → FitsReply (f x)) → FitsReply other → FitsReply (option_map_or f o other)
either_fits f None other some fits = fits
either_fits f (Some x) other some fits = some x

answer_fits : (c : Setup) (h : History) (by : ℕ) (act : Act) → IsSmall c → IsCounted h →
    length h ≤ 1048576 → NoneHolds (refusals c h act) → FitsReply (answer c h by act)
unfolding refusals answer verdict
answer_fits c h by (Kill order) small counted room none =
    bar_fits c h by (Striking order.kind) (order_targets (situation c h by) order) small
answer_fits c h by (Clog target n) small counted room none =
    bar_fits c h by Clogging (targets c.processes (left c h) target) small
answer_fits c h by (Unclog target) small counted room none =
    bar_fits c h by Clogging (targets c.processes (left c h) target) small
answer_fits c h by (Form members policy) small counted room none =
    let few : nat_le 4096 (length (teams h)) ≡ false = none.0 in
    let below : length (teams h) < 4096 = grind (arith, nat_tests) in
    omega arith
answer_fits c h by (Begin team payload) small counted room none =
    let few = counted.few_records in
    let sent_few = counted.few_sent in
    (omega arith, omega arith)
answer_fits c h by (Deliver n) small counted room none =
    either_fits (on_delivery h) (slice_get (sent h) n) Done
    (λ body. either_fits (λ w. Marked (is_acked_with h w.0 w.1)) (ack_of body) Stored (λ w. tt) tt)
    tt
answer_fits c h by (Resend rec process) small counted room none =
    let few = counted.few_sent in omega arith
answer_fits c h by (Sync process) small counted room none =
    let clear : nat_lt 65536 (in_flight_count h + length (unsynced h process.0)) ≡ false = none.1.1.0 in
    let few : in_flight_count h + length (unsynced h process.0) ≤ 65536 = grind (arith, nat_tests) in
    let sent_few = counted.few_sent in
    (omega arith, omega arith)
answer_fits c h by (Tick n) small counted room none =
    let end : nat_lt 1099511627776 (now h + n) ≡ false = none.0 in
    let within : now h + n ≤ 1099511627776 = grind (arith, nat_tests) in
    omega arith
answer_fits c h by (CopyTo from rec to) small counted room none =
    let few = counted.few_sent in omega arith
answer_fits c h by _ small counted room none = tt

reply_fits : (c : Setup) (h : History) (by : ℕ) (act : Act) → IsSmall c → IsCounted h →
    length h ≤ 1048576 → FitsAct act → FitsReply (reply c h by act)
unfolding reply reasons
reply_fits c h by act small counted room fits =
    refused_fits (reasons c h by act) (answer c h by act)
    (tt, (tt, refusals_fit c h act counted room fits))
    (λ none. answer_fits c h by act small counted room none.1.1)

-- ---- entries

-- an entry that may come next fits, where its act and who acts do
pub next_fits : (c : Setup) (h : History) (e : Entry) → IsSmall c → IsCounted h →
    length h ≤ 1048576 → IsU32 e.by → FitsAct e.act → IsNext c h e → FitsEntry e
next_fits c h e small counted room by fits next = record {
  act = fits;
  at = let place = next.place in omega arith;
  by = by;
  reply = subst FitsReply (sym next.right) (reply_fits c h e.by e.act small counted room fits);
}

-- what nothing has happened to keeps no numbers
pub counted_at_start : IsCounted []
counted_at_start = record { few_records = omega arith; few_sent = omega arith; policies = tt }
