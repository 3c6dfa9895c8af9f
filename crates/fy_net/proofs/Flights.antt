-- messages whose numbers rise: where one stands, and what stays true as they come and go
use Rattle.std.proofs.Common.{◌≡◌, ◌≢◌, ℕ, zero, suc, ◌+◌, ◌<◌, ◌≤◌, Bool, true, false, cond, not, eqb, List, [], ◌∷◌, ◌++◌, length, get_or, find, filter, Some, option_map, IfSome, IsTrue, refl, sym, ap, ◌∙◌, arith}
use Rattle.std.proofs.lemmas.Bool.{false≢true}
use Rattle.std.proofs.lemmas.Option.{IfSome_then}
use Rattle.std.proofs.lemmas.List.{length_push}
use Rattle.std.proofs.lemmas.List.Elements.{All-cons, All-head, All-tail, All-weaker, All-push, All-filter}
use Rattle.std.proofs.lemmas.List.Sorted.{IsNonDecreasingBy-from_default}
use Rattle.std.proofs.lemmas.Bool.Decides.{nat_tests}
use Rattle.std.specs.List.{All}
use Rattle.std.specs.List.Sorted.{IsNonDecreasingBy}
use Rattle.std.specs.Ordering.{nat_cmp, ordering_index}
use Rattle.fy_net.specs.declared.message.Body.{Body}
use Rattle.fy_net.specs.declared.message.Body.TheVariants.{Store}
use Rattle.fy_net.specs.declared.message.Message.{Message}
use Rattle.fy_net.specs.Net.{NetState, Rises, IsNetState, body_of, without, process_of, without_message, with_sent, is_free, first_free_of}

some_message : Message
some_message = record { number = 0; body = Store 0 (record { 0 = 0 }) }

-- ---- rising numbers

pub rises_lower : (low lower : ℕ) (ms : List Message) → lower ≤ low → Rises low ms → Rises lower ms
rises_lower low lower [] le rising = tt
rises_lower low lower (m ∷ ms) le rising = (omega arith, rising.1)

pub rises_at : (low : ℕ) (ms : List Message) (k : ℕ) (d : Message) → Rises low ms → k < length ms → low ≤ (get_or ms k d).number
rises_at low [] k d rising within = absurd (omega arith)
rises_at low (m ∷ ms) zero d rising within = rising.0
rises_at low (m ∷ ms) (suc k) d rising within = omega (arith, rising.0, rises_at (m.number + 1) ms k d rising.1 (omega arith))

pub rises_between : (low : ℕ) (ms : List Message) (i j : ℕ) (d : Message) → Rises low ms → i < j → j < length ms → (get_or ms i d).number < (get_or ms j d).number
rises_between low [] i j d rising lt within = absurd (omega arith)
rises_between low (m ∷ ms) i zero d rising lt within = absurd (omega arith)
rises_between low (m ∷ ms) zero (suc j) d rising lt within = omega (arith, rises_at (m.number + 1) ms j d rising.1 (omega arith))
rises_between low (m ∷ ms) (suc i) (suc j) d rising lt within = rises_between (m.number + 1) ms i j d rising.1 (omega arith) (omega arith)

-- ---- where a message stands

pub eqb_same : (a b : ℕ) → a ≡ b → eqb a b ≡ true
eqb_same a b e = grind (arith, nat_tests)

pub eqb_other : (a b : ℕ) → a ≢ b → eqb a b ≡ false
eqb_other a b e = grind (arith, nat_tests)

pub without_lower : (number low : ℕ) (ms : List Message) → number < low → Rises low ms → without number ms ≡ ms
without_lower number low [] lt rising = refl
without_lower number low (m ∷ ms) lt rising =
    let other : eqb m.number number ≡ false = eqb_other m.number number (λ same. omega (arith, rising.0)) in
    rw other (ap (λ rest. m ∷ rest) (without_lower number (m.number + 1) ms (omega (arith, rising.0)) rising.1))

module _ (ms : List Message) (rising : Rises 0 ms) (number : ℕ) where
  comparisons_rise : IsNonDecreasingBy (λ m. ordering_index (nat_cmp m.number number)) ms
  comparisons_rise = IsNonDecreasingBy-from_default (λ m. ordering_index (nat_cmp m.number number)) ms some_message (λ i j le within.
      let numbers_rise : (get_or ms i some_message).number ≤ (get_or ms j some_message).number = grind (arith, rises_between 0 ms i j some_message rising, λ (same : i ≡ j). ap (λ k. (get_or ms k some_message).number) same) in
      grind (arith, nat_tests))

-- the first that passes has the least number of those that pass
first_is_least : (p : Message → Bool) (low : ℕ) (ms : List Message) → Rises low ms → IfSome (option_map (λ m. m.number) (find p ms)) (λ number. All (λ m. IsTrue (p m) → number ≤ m.number) ms)
first_is_least p low [] rising = tt
first_is_least p low (m ∷ ms) rising =
    elim (p m) as (λ b. p m ≡ b → IfSome (option_map (λ x. x.number) (cond b (Some m) (find p ms))) (λ number. All (λ x. IsTrue (p x) → number ≤ x.number) (m ∷ ms))) [
      | true ↦ λ e. All-cons (λ (x : Message). IsTrue (p x) → m.number ≤ x.number) m ms (λ passes. omega arith) (λ k d within passes. omega (arith, rises_at (m.number + 1) ms k d rising.1 within))
      | false ↦ λ e. IfSome_then (option_map (λ x. x.number) (find p ms)) (first_is_least p (m.number + 1) ms rising.1) (λ number rest. All-cons (λ (x : Message). IsTrue (p x) → number ≤ x.number) m ms (λ passes. absurd (false≢true (sym e ∙ passes))) rest)
    ] refl

pub first_free_is_least : (net : NetState) (up : ℕ → Bool) → IsNetState net → IfSome (first_free_of net up) (λ number. All (λ m. IsTrue (is_free net up m) → number ≤ m.number) net.in_flight)
first_free_is_least net up sound = first_is_least (is_free net up) 0 net.in_flight sound.rising

-- ---- messages that come and go

pub rises_filtered : (p : Message → Bool) (low : ℕ) (ms : List Message) → Rises low ms → Rises low (filter p ms)
rises_filtered p low [] rising = tt
rises_filtered p low (m ∷ ms) rising =
    elim (p m) as (λ b. Rises low (cond b (m ∷ filter p ms) (filter p ms))) [
      | true ↦ (rising.0, rises_filtered p (m.number + 1) ms rising.1)
      | false ↦ rises_lower (m.number + 1) low (filter p ms) (omega (arith, rising.0)) (rises_filtered p (m.number + 1) ms rising.1)
    ]

pub rises_with_next : (low next : ℕ) (ms : List Message) (body : Body) → low ≤ next → Rises low ms → All (λ m. m.number < next) ms → Rises low (ms ++ record { number = next; body = body } ∷ [])
rises_with_next low next [] body le rising past = (le, tt)
rises_with_next low next (m ∷ ms) body le rising past =
    let here : m.number < next = All-head (λ (x : Message). x.number < next) m ms past in
    (rising.0, rises_with_next (m.number + 1) next ms body (omega arith) rising.1 (All-tail (λ (x : Message). x.number < next) m ms past))

filtered_is_shorter : (p : Message → Bool) (ms : List Message) → length (filter p ms) ≤ length ms
filtered_is_shorter p [] = omega arith
filtered_is_shorter p (m ∷ ms) =
    let rest : length (filter p ms) ≤ length ms = filtered_is_shorter p ms in
    elim (p m) as (λ b. length (cond b (m ∷ filter p ms) (filter p ms)) ≤ suc (length ms)) [ true ↦ omega arith | false ↦ omega arith ]

-- a network once all messages but those of one kind have left it
pub sound_filtered : (stays : Message → Bool) (net : NetState) → IsNetState net → IsNetState (record net { in_flight = filter stays net.in_flight })
sound_filtered stays net sound = record {
  rising = rises_filtered stays 0 net.in_flight sound.rising;
  past = All-filter stays (λ (m : Message). m.number < net.sent) net.in_flight sound.past;
  known = All-filter stays (λ (m : Message). process_of m.body < length net.until) net.in_flight sound.known;
  few = omega (arith, sound.few, filtered_is_shorter stays net.in_flight);
  countable = sound.countable;
  on_time = sound.on_time;
}

pub sound_left : (net : NetState) (number : ℕ) → IsNetState net → IsNetState (without_message number net)
sound_left net number sound = sound_filtered (λ m. not (eqb m.number number)) net sound

pub sound_sent : (net : NetState) (body : Body) → 0 < net.room → process_of body < length net.until → IsNetState net → IsNetState (with_sent body net)
sound_sent net body room known sound =
    let next : Message = record { number = net.sent; body = body } in
    record {
      rising = rises_with_next 0 net.sent net.in_flight body (omega arith) sound.rising sound.past;
      past = All-push (λ (m : Message). m.number < net.sent + 1) net.in_flight next (All-weaker (λ (m : Message). m.number < net.sent) (λ (m : Message). m.number < net.sent + 1) (λ m lt. omega arith) net.in_flight sound.past) (omega arith);
      known = All-push (λ (m : Message). process_of m.body < length net.until) net.in_flight next sound.known known;
      few = omega (arith, sound.few, length_push net.in_flight next);
      countable = omega (arith, sound.countable);
      on_time = sound.on_time;
    }

-- who is asked for by number is a process that is there
pub known_by_number : (processes number : ℕ) (ms : List Message) → All (λ m. process_of m.body < processes) ms → IfSome (body_of ms number) (λ body. process_of body < processes)
known_by_number processes number [] known = tt
known_by_number processes number (m ∷ ms) known =
    elim (eqb m.number number) as (λ b. IfSome (option_map (λ (x : Message). x.body) (cond b (Some m) (find (λ x. eqb x.number number) ms))) (λ body. process_of body < processes)) [
      | true ↦ All-head (λ (x : Message). process_of x.body < processes) m ms known
      | false ↦ known_by_number processes number ms (All-tail (λ (x : Message). process_of x.body < processes) m ms known)
    ]
