-- the first message that the network lets through is the least that may be delivered
use Rattle.std.proofs.Common.{◌≡◌, ℕ, suc, ◌+◌, ◌<◌, ◌≤◌, Bool, true, false, ◌&&◌, ◌||◌, not, List, [], ◌∷◌, length, Option, Some, None, option_map, refl, sym, ◌∙◌, ap, ap₂, subst, arith, find, filter, cond, inl, inr, ◌==◌, nat_lt, slice_get}
use Rattle.std.proofs.lemmas.Bool.{cases_order}
use Rattle.std.proofs.lemmas.Bool.Decides.{nat_tests}
use Rattle.std.proofs.lemmas.List.Elements.{recursion_from_All}
use Rattle.std.proofs.lemmas.Option.{slice_get_within}
use Rattle.std.specs.List.{All, AllByRecursion}
use Rattle.std.specs.FinSet as sets
use Rattle.std.specs.Option.{MatchOption}
use Rattle.fy_net.specs.declared.message.Body.{Body}
use Rattle.fy_net.specs.declared.message.Body.TheVariants.{Store, Synced}
use Rattle.fy_net.specs.declared.message.Message.{Message}
use Rattle.fy_net.specs.Net.{NetState, process_of, body_of, is_clogged, receiver_is_up, is_free, first_free_of}
use Rattle.fy_cluster.specs.declared.machine.Machine.{Machine}
use Rattle.fy_cluster.specs.Setup.{Setup}
use Rattle.fy_cluster.specs.History.{History, sent, is_removed, in_flight, clogged}
use Rattle.fy_cluster.specs.Replies.{refusals, is_down_store}
use Rattle.fy_cluster.specs.Standing.{Refines, numbered}
use Rattle.fy_cluster.specs.Sights.{is_deliverable, LeastNumber}
use Rattle.fy_cluster.proofs.Delivered.{clog_is}
use Rattle.fy_cluster.proofs.Flights.{body_flying}
use Rattle.fy_cluster.proofs.Results.{some_is_same, some_not_none}

-- ---- the first of a numbered list

-- from a number on, found is the least that passes, or none where none does
abbrev LeastFrom : ℕ → (ℕ → Bool) → Option ℕ → Type 0
LeastFrom low test found = MatchOption found ((n : ℕ) → low ≤ n → test n ≡ false) (λ n. (test n ≡ true) × ((k : ℕ) → low ≤ k → k < n → test k ≡ false))

-- where a number fails, the least from it on is the least beyond it
least_beyond : (low : ℕ) (test : ℕ → Bool) → test low ≡ false → (o : Option ℕ) → LeastFrom (low + 1) test o → LeastFrom low test o
least_beyond low test e None none = λ n l.
    elim (cases_order low n) [
      | inl same ↦ subst (λ k. test k ≡ false) same e
      | inr (inl below) ↦ none n (omega arith)
      | inr (inr above) ↦ absurd (omega arith)
    ]
least_beyond low test e (Some m) least = (
  least.0,
  λ k l w. elim (cases_order low k) [
    | inl same ↦ subst (λ i. test i ≡ false) same e
    | inr (inl below) ↦ least.1 k (omega arith) w
    | inr (inr above) ↦ absurd (omega arith)
  ],
)

-- of numbered messages those kept that pass are those whose numbers do
first_of : (numbers keep : ℕ → Bool) (free : Message → Bool) (k : ℕ) (xs : List Body)
    → ((n i : ℕ) (b : Body) → k + i ≡ n → slice_get xs i ≡ Some b → numbers n ≡ (keep n && free (record { number = n; body = b })))
    → ((n : ℕ) → k + length xs ≤ n → numbers n ≡ false)
    → LeastFrom k numbers (option_map (λ (x : Message). x.number) (find free (filter (λ x. keep x.number) (numbered k xs))))
first_of numbers keep free k [] agree past = λ n l. past n (omega arith)
first_of numbers keep free k (x ∷ xs) agree past =
    at (keep k) (free (record { number = k; body = x })) refl refl (agree k 0 x (omega arith) refl) (first_of numbers keep free (k + 1) xs (λ n i b e s. agree n (suc i) b (omega arith) s) (λ n l. past n (omega arith)))
  where
    at : (a b : Bool) → keep k ≡ a → free (record { number = k; body = x }) ≡ b → numbers k ≡ (keep k && free (record { number = k; body = x }))
        → LeastFrom (k + 1) numbers (option_map (λ (x : Message). x.number) (find free (filter (λ x. keep x.number) (numbered (k + 1) xs))))
        → LeastFrom k numbers (option_map (λ (x : Message). x.number) (find free (cond a (record { number = k; body = x } ∷ filter (λ x. keep x.number) (numbered (k + 1) xs)) (filter (λ x. keep x.number) (numbered (k + 1) xs)))))
    at true true ea eb e rest = rw eb (e ∙ ap₂ (λ a b. a && b) ea eb, λ j l w. absurd (omega arith))
    at true false ea eb e rest = rw eb (least_beyond k numbers (e ∙ ap₂ (λ a b. a && b) ea eb) _ rest)
    at false b ea eb e rest = least_beyond k numbers (e ∙ ap₂ (λ a b. a && b) ea eb) _ rest

-- ---- one message

deliverable_by : (c : Setup) (h : History) (n : ℕ) (b : Body) (f x d : Bool) → in_flight h n ≡ f → slice_get (sent h) n ≡ Some b → clogged h (process_of b) ≡ x → is_down_store h b ≡ d
    → is_deliverable c h n ≡ not (not f || (x || (d || false)))
unfolding refusals
deliverable_by c h n b f x d ef es ex ed = rw (ef, es, ex, ed) refl

not_in_flight : (c : Setup) (h : History) (n : ℕ) → in_flight h n ≡ false → is_deliverable c h n ≡ false
unfolding refusals
not_in_flight c h n e = rw e refl

found_is_known : {X : Type 0} (P : X → Type 0) (f : X → Bool) (xs : List X) → AllByRecursion P xs → (x : X) → find f xs ≡ Some x → P x
found_is_known P f [] a x e = absurd (cc)
found_is_known P f (y ∷ ys) a x e = at (f y) (found_is_known P f ys a.1 x) e
  where
    at : (b : Bool) → (find f ys ≡ Some x → P x) → cond b (Some y) (find f ys) ≡ Some x → P x
    at true later e = subst P (some_is_same y x e) a.0
    at false later e = later e

-- a message that the network has is of a process that is there
body_known : (net : NetState) → All (λ message. process_of message.body < length net.until) net.in_flight → (n : ℕ) (b : Body) → body_of net.in_flight n ≡ Some b → process_of b < length net.until
body_known net known n b e = at (find (λ message. message.number == n) net.in_flight) refl e
  where
    at : (o : Option Message) → find (λ message. message.number == n) net.in_flight ≡ o → option_map (λ (x : Message). x.body) o ≡ Some b → process_of b < length net.until
    at None w e = absurd (some_not_none b (sym e))
    at (Some x) w e =
        let there = found_is_known (λ (x : Message). process_of x.body < length net.until) (λ message. message.number == n) net.in_flight (recursion_from_All _ net.in_flight known) x w in
        subst (λ b. process_of b < length net.until) (some_is_same x.body b e) there

down_is : (c : Setup) (h : History) (m : Machine) → Refines c h m → (b : Body) → process_of b < length c.processes → is_down_store h b ≡ not (receiver_is_up (sets.contains m.up) b)
down_is c h m k (Store rec to) l = ap not (sym (k.up.each to.0 l))
down_is c h m k (Synced rec from) l = refl

all_of : (x r : Bool) → not (false || (x || (not r || false))) ≡ (not x && r)
all_of true true = refl
all_of true false = refl
all_of false true = refl
all_of false false = refl

-- a message may be delivered just where the network has it and lets it through
free_is : (c : Setup) (h : History) (m : Machine) → Refines c h m → All (λ message. process_of message.body < length m.net.until) m.net.in_flight → (n : ℕ) (b : Body) → slice_get (sent h) n ≡ Some b
    → is_deliverable c h n ≡ (not (is_removed h n) && is_free m.net (sets.contains m.up) (record { number = n; body = b }))
free_is c h m k known n b s = at (not (is_removed h n)) refl
  where
    within : nat_lt n (length (sent h)) ≡ true
    within = let l = slice_get_within (sent h) n b s in grind (arith, nat_tests)

    at : (kept : Bool) → not (is_removed h n) ≡ kept → is_deliverable c h n ≡ (kept && is_free m.net (sets.contains m.up) (record { number = n; body = b }))
    at false e = not_in_flight c h n (ap₂ (λ a b. a && b) within e)
    at true e =
        let f : in_flight h n ≡ true = ap₂ (λ a b. a && b) within e in
        let there : process_of b < length m.net.until = body_known m.net known n b (ap (λ xs. body_of xs n) k.net.in_flight ∙ body_flying h n ∙ rw (f, s) refl) in
        deliverable_by c h n b true (is_clogged m.net (process_of b)) (not (receiver_is_up (sets.contains m.up) b)) f s (sym (clog_is c h m.net (process_of b) there k.net)) (down_is c h m k b (let n = k.net.count in omega arith))
        ∙ all_of (is_clogged m.net (process_of b)) (receiver_is_up (sets.contains m.up) b)

-- ---- the least

from_zero : (test : ℕ → Bool) (o : Option ℕ) → LeastFrom 0 test o → LeastNumber test o
from_zero test None none = λ n. none n (omega arith)
from_zero test (Some n) least = record { passes = least.0; none_below = λ k l. least.1 k (omega arith) l }

pub first_free_is : (c : Setup) (h : History) (m : Machine) → Refines c h m → All (λ message. process_of message.body < length m.net.until) m.net.in_flight → LeastNumber (is_deliverable c h) (first_free_of m.net (sets.contains m.up))
first_free_is c h m k known = rw k.net.in_flight (from_zero (is_deliverable c h) _ (first_of (is_deliverable c h) (λ n. not (is_removed h n)) (is_free m.net (sets.contains m.up)) 0 (sent h)
    (λ n i b e s. let same : i ≡ n = omega arith in free_is c h m k known n b (subst (λ j. slice_get (sent h) j ≡ Some b) same s))
    (λ n l. let out : nat_lt n (length (sent h)) ≡ false = grind (arith, nat_tests) in not_in_flight c h n (ap (λ b. b && not (is_removed h n)) out))))
