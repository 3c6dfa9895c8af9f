-- slots in order of number: which messages are there, and how marks change that
use Rattle.std.proofs.Common.{◌≡◌, ◌≢◌, ℕ, zero, suc, ◌+◌, ◌<◌, ◌≤◌, Bool, true, false, cond, eqb, List, [], ◌∷◌, ◌++◌, length, get_or, set, map, find, filter, Some, None, option_map, refl, sym, ap, ◌∙◌, arith}
use Rattle.std.specs.Prelude.{Ok, Err, IfSome, IfNone}
use Rattle.std.proofs.lemmas.Bool.{false≢true}
use Rattle.std.specs.Bool.{then_some}
use Rattle.std.proofs.lemmas.List.{get_or_default, map-append}
use Rattle.std.proofs.lemmas.List.Elements.{All-set, All-map, All-push, All-weaker}
use Rattle.std.specs.List.{All}
use Rattle.std.proofs.Math.Seq.{map-set_same}
use Rattle.std.proofs.lemmas.List.Sorted.{IsNonDecreasingBy-from_default}
use Rattle.std.proofs.lemmas.Bool.Decides.{nat_tests}
use Rattle.std.proofs.lemmas.Cmp.{ranked}
use Rattle.std.specs.List.Sorted.{IsBinarySearchResult, IsNonDecreasingBy}
use Rattle.std.specs.Ordering.{nat_cmp, ordering_index}
use Rattle.fy_net.specs.declared.message.Body.{Body}
use Rattle.fy_net.specs.declared.message.Body.TheVariants.{Store}
use Rattle.fy_net.specs.declared.message.Message.{Message}
use Rattle.fy_net.specs.declared.slot.Slot.{Slot}
use Rattle.fy_net.specs.Net.{Rises, body_of, without}
use Rattle.fy_net.specs.Slots.{messages_of, there_of, vacated, IsThereAt}
use Rattle.fy_net.proofs.Flights.{rises_lower, rises_with_next, eqb_same, eqb_other, without_lower}

-- what is there of a slot and those behind it
abbrev first_there : Bool → Slot → List Message → List Message
first_there b s ms = cond b (s.message ∷ ms) ms

-- the list by its first slot
pub there_first : (s : Slot) (ss : List Slot) → there_of (s ∷ ss) ≡ first_there s.there s (there_of ss)
there_first s ss = elim s.there as (λ b. map (λ (x : Slot). x.message) (cond b (s ∷ filter (λ x. x.there) ss) (filter (λ x. x.there) ss)) ≡ first_there b s (there_of ss)) [ true ↦ refl | false ↦ refl ]

-- ---- numbers

number_at_least : (low : ℕ) (ss : List Slot) (k : ℕ) (d : Slot) → Rises low (messages_of ss) → k < length ss → low ≤ (get_or ss k d).message.number
number_at_least low [] k d rising within = absurd (omega arith)
number_at_least low (s ∷ ss) zero d rising within = rising.0
number_at_least low (s ∷ ss) (suc k) d rising within = omega (arith, rising.0, number_at_least (s.message.number + 1) ss k d rising.1 (omega arith))

pub numbers_rise : (low : ℕ) (ss : List Slot) (i j : ℕ) (d : Slot) → Rises low (messages_of ss) → i < j → j < length ss → (get_or ss i d).message.number < (get_or ss j d).message.number
numbers_rise low [] i j d rising lt within = absurd (omega arith)
numbers_rise low (s ∷ ss) i zero d rising lt within = absurd (omega arith)
numbers_rise low (s ∷ ss) zero (suc j) d rising lt within = omega (arith, number_at_least (s.message.number + 1) ss j d rising.1 (omega arith))
numbers_rise low (s ∷ ss) (suc i) (suc j) d rising lt within = numbers_rise (s.message.number + 1) ss i j d rising.1 (omega arith) (omega arith)

-- ---- what is there

rises_there : (low : ℕ) (ss : List Slot) → Rises low (messages_of ss) → Rises low (there_of ss)
rises_there low [] rising = tt
rises_there low (s ∷ ss) rising =
    rw there_first (elim s.there as (λ b. Rises low (first_there b s (there_of ss))) [
      | true ↦ (rising.0, rises_there (s.message.number + 1) ss rising.1)
      | false ↦ rises_lower (s.message.number + 1) low (there_of ss) (omega (arith, rising.0)) (rises_there (s.message.number + 1) ss rising.1)
    ])

pub there_pushed : (ss : List Slot) (m : Message) → there_of (ss ++ record { message = m; there = true } ∷ []) ≡ there_of ss ++ m ∷ []
there_pushed [] m = refl
there_pushed (s ∷ ss) m =
    rw (there_first s (ss ++ record { message = m; there = true } ∷ []), there_first s ss, there_pushed ss m) (elim s.there as (λ b. first_there b s (there_of ss ++ m ∷ []) ≡ first_there b s (there_of ss) ++ m ∷ []) [ true ↦ refl | false ↦ refl ])

-- none of those that are there passes a test
pub found_none : (p : Message → Bool) (ss : List Slot) → ((k : ℕ) (d : Slot) → k < length ss → (get_or ss k d).there ≡ true → p (get_or ss k d).message ≡ false) → find p (there_of ss) ≡ None
found_none p [] fails = refl
found_none p (s ∷ ss) fails =
    let rest : find p (there_of ss) ≡ None = found_none p ss (λ k d within. fails (suc k) d (omega arith)) in
    rw there_first (elim s.there as (λ b. s.there ≡ b → find p (first_there b s (there_of ss)) ≡ None) [
      | true ↦ λ e. rw (fails 0 s (omega arith) e) rest
      | false ↦ λ e. rest
    ] refl)

-- the first that is there and passes
pub found_first : (p : Message → Bool) (ss : List Slot) (i : ℕ) (d : Slot) → i < length ss → (get_or ss i d).there ≡ true → p (get_or ss i d).message ≡ true → ((k : ℕ) → k < i → (get_or ss k d).there ≡ true → p (get_or ss k d).message ≡ false) → find p (there_of ss) ≡ Some (get_or ss i d).message
found_first p [] i d within there passes fails = absurd (omega arith)
found_first p (s ∷ ss) zero d within there passes fails = rw (there_first s ss, there, passes) refl
found_first p (s ∷ ss) (suc i) d within there passes fails =
    let rest : find p (there_of ss) ≡ Some (get_or ss i d).message = found_first p ss i d (omega arith) there passes (λ k lt. fails (suc k) (omega arith)) in
    rw there_first (elim s.there as (λ b. s.there ≡ b → find p (first_there b s (there_of ss)) ≡ Some (get_or ss i d).message) [
      | true ↦ λ e. rw (fails 0 (omega arith) e) rest
      | false ↦ λ e. rest
    ] refl)

-- ---- marks

-- once the message with a number leaves its place, the others are there
left_at : (low number : ℕ) (ss : List Slot) (i : ℕ) (d : Slot) → Rises low (messages_of ss) → i < length ss → (get_or ss i d).there ≡ true → (get_or ss i d).message.number ≡ number → there_of (set ss i (vacated (get_or ss i d))) ≡ without number (there_of ss)
left_at low number [] i d rising within there here = absurd (omega arith)
left_at low number (s ∷ ss) zero d rising within there here =
    let same : eqb s.message.number number ≡ true = eqb_same s.message.number number here in
    let others : without number (there_of ss) ≡ there_of ss = without_lower number (s.message.number + 1) (there_of ss) (omega arith) (rises_there (s.message.number + 1) ss rising.1) in
    rw (there_first s ss, there, same) (sym others)
left_at low number (s ∷ ss) (suc i) d rising within there here =
    let before : s.message.number + 1 ≤ (get_or ss i d).message.number = number_at_least (s.message.number + 1) ss i d rising.1 (omega arith) in
    let other : eqb s.message.number number ≡ false = eqb_other s.message.number number (λ same. omega arith) in
    let later : there_of (set ss i (vacated (get_or ss i d))) ≡ without number (there_of ss) = left_at (s.message.number + 1) number ss i d rising.1 (omega arith) there here in
    rw (there_first s (set ss i (vacated (get_or ss i d))), there_first s ss, later) (elim s.there as (λ b. first_there b s (without number (there_of ss)) ≡ without number (first_there b s (there_of ss))) [ true ↦ rw other refl | false ↦ refl ])

pub one_fewer : (ss : List Slot) (i : ℕ) (d : Slot) → i < length ss → (get_or ss i d).there ≡ true → length (there_of ss) ≡ length (there_of (set ss i (vacated (get_or ss i d)))) + 1
one_fewer [] i d within there = absurd (omega arith)
one_fewer (s ∷ ss) zero d within there = rw (there_first s ss, there) (omega arith)
one_fewer (s ∷ ss) (suc i) d within there =
    let rest : length (there_of ss) ≡ length (there_of (set ss i (vacated (get_or ss i d)))) + 1 = one_fewer ss i d (omega arith) there in
    rw (there_first s (set ss i (vacated (get_or ss i d))), there_first s ss) (elim s.there as (λ b. length (first_there b s (there_of ss)) ≡ length (first_there b s (there_of (set ss i (vacated (get_or ss i d))))) + 1) [ true ↦ omega arith | false ↦ rest ])

-- what holds once slot i, which is s, is vacated
pub same_vacated : (ss : List Slot) (i : ℕ) (s : Slot) → s ≡ get_or ss i s → messages_of (set ss i (vacated s)) ≡ messages_of ss
same_vacated ss i s is = map-set_same (λ (x : Slot). x.message) ss i (vacated s) s (ap (λ (x : Slot). x.message) is)

pub past_vacated : (ss : List Slot) (i sent : ℕ) (s : Slot) → i < length ss → s ≡ get_or ss i s → All (λ x. x.message.number < sent) ss → All (λ x. x.message.number < sent) (set ss i (vacated s))
past_vacated ss i sent s within is past =
    let here : (get_or ss i s).message.number < sent = past i s within in
    All-set (λ (x : Slot). x.message.number < sent) ss i (vacated s) (omega (arith, ap (λ (x : Slot). x.message.number) is)) past

-- ---- what comes

pub rises_pushed : (next : ℕ) (ss : List Slot) (body : Body) → Rises 0 (messages_of ss) → All (λ s. s.message.number < next) ss → Rises 0 (messages_of (ss ++ record { message = record { number = next; body = body }; there = true } ∷ []))
rises_pushed next ss body rising past =
    rw map-append (rises_with_next 0 next (messages_of ss) body (omega arith) rising (All-map (λ (m : Message). m.number < next) (λ (s : Slot). s.message) ss past))

pub past_pushed : (next : ℕ) (ss : List Slot) (body : Body) → All (λ s. s.message.number < next) ss → All (λ s. s.message.number < next + 1) (ss ++ record { message = record { number = next; body = body }; there = true } ∷ [])
past_pushed next ss body past = All-push (λ (s : Slot). s.message.number < next + 1) ss (record { message = record { number = next; body = body }; there = true }) (All-weaker (λ (s : Slot). s.message.number < next) (λ (s : Slot). s.message.number < next + 1) (λ s lt. omega arith) ss past) (omega arith)

-- ---- what stays

-- slots of which only some stay
pub rises_kept : (stays : Slot → Bool) (low : ℕ) (ss : List Slot) → Rises low (messages_of ss) → Rises low (messages_of (filter stays ss))
rises_kept stays low [] rising = tt
rises_kept stays low (s ∷ ss) rising =
    elim (stays s) as (λ b. Rises low (messages_of (cond b (s ∷ filter stays ss) (filter stays ss)))) [
      | true ↦ (rising.0, rises_kept stays (s.message.number + 1) ss rising.1)
      | false ↦ rises_lower (s.message.number + 1) low (messages_of (filter stays ss)) (omega (arith, rising.0)) (rises_kept stays (s.message.number + 1) ss rising.1)
    ]

-- where all that are there stay
pub there_kept : (ss : List Slot) → there_of (filter (λ s. s.there) ss) ≡ there_of ss
there_kept [] = refl
there_kept (s ∷ ss) =
    rw (there_first s ss) (elim s.there as (λ b. s.there ≡ b → there_of (cond b (s ∷ filter (λ x. x.there) ss) (filter (λ x. x.there) ss)) ≡ first_there b s (there_of ss)) [
      | true ↦ λ e. rw (there_first s (filter (λ x. x.there) ss), e) (ap (λ ms. s.message ∷ ms) (there_kept ss))
      | false ↦ λ e. there_kept ss
    ] refl)

-- ---- where a message is there

pub is_there_at : (ss : List Slot) (number i : ℕ) → Rises 0 (messages_of ss) → i < length ss → ((d : Slot) → (get_or ss i d).message.number ≡ number) → ((d : Slot) → (get_or ss i d).there ≡ true) → IsThereAt ss number i
is_there_at ss number i rising within here there = record {
  within = within;
  there = there;
  says = λ d. ap (λ o. option_map (λ (m : Message). m.body) o) (found_first (λ m. eqb m.number number) ss i d within (there d) (eqb_same _ _ (here d)) (λ k lt _. eqb_other _ _ (λ same. omega (arith, here d, numbers_rise 0 ss k i d rising lt within))));
  others = λ d. left_at 0 number ss i d rising within (there d) (here d);
}

pub is_not_there : (ss : List Slot) (number : ℕ) → ((k : ℕ) (d : Slot) → k < length ss → (get_or ss k d).there ≡ true → (get_or ss k d).message.number ≢ number) → body_of (there_of ss) number ≡ None
is_not_there ss number other = ap (λ o. option_map (λ (m : Message). m.body) o) (found_none (λ m. eqb m.number number) ss (λ k d within there. eqb_other _ _ (other k d within there)))

pub some_slot : Slot
some_slot = record { message = record { number = 0; body = Store 0 (record { 0 = 0 }) }; there = false }

module _ (ss : List Slot) (rising : Rises 0 (messages_of ss)) (number : ℕ) where
  comparisons_rise : IsNonDecreasingBy (λ s. ordering_index (nat_cmp s.message.number number)) ss
  comparisons_rise = IsNonDecreasingBy-from_default (λ s. ordering_index (nat_cmp s.message.number number)) ss some_slot (λ i j le within.
      let rise : (get_or ss i some_slot).message.number ≤ (get_or ss j some_slot).message.number = grind (arith, numbers_rise 0 ss i j some_slot rising, λ (same : i ≡ j). ap (λ k. (get_or ss k some_slot).message.number) same) in
      grind (arith, nat_tests))

  -- what a binary search by number finds
  pub number_found : (at : ℕ) → IsBinarySearchResult (λ s. nat_cmp s.message.number number) ss (Ok at) → (d : Slot) → (get_or ss at d).message.number ≡ number
  number_found at equal d = ranked _ number _ (sym (equal d))

  pub number_missing : (at : ℕ) → at ≤ length ss → IsBinarySearchResult (λ s. nat_cmp s.message.number number) ss (Err at) → body_of (there_of ss) number ≡ None
  number_missing at bound parted =
      let before : (k : ℕ) (d : Slot) → k < at → (get_or ss k d).message.number < number = λ k d lt. ranked _ number _ (sym ((parted comparisons_rise).0 k d (omega arith) lt)) in
      let behind : (k : ℕ) (d : Slot) → at ≤ k → k < length ss → number < (get_or ss k d).message.number = λ k d le lt. ranked _ number _ (sym ((parted comparisons_rise).1 k d le lt)) in
      is_not_there ss number (λ k d lt _ same. grind (arith, before k d, behind k d))

  -- the message at the place that was found has left
  pub number_left : (at : ℕ) → at < length ss → ((d : Slot) → (get_or ss at d).message.number ≡ number) → ((d : Slot) → (get_or ss at d).there ≡ false) → body_of (there_of ss) number ≡ None
  number_left at within here left = is_not_there ss number (λ k d lt there same. grind (arith, λ (below : k < at). numbers_rise 0 ss k at d rising below within, λ (above : at < k). numbers_rise 0 ss at k d rising above lt, here d, λ (e : k ≡ at). false≢true (sym (left d) ∙ sym (ap (λ j. (get_or ss j d).there) e) ∙ there)))

  -- the place that was found, where the message is still there
  pub chosen : (at : ℕ) → at < length ss → ((d : Slot) → (get_or ss at d).message.number ≡ number) → (d : Slot) → IfSome (then_some (get_or ss at d).there at) (IsThereAt ss number)
  chosen at within here d =
      elim (get_or ss at d).there as (λ b. (get_or ss at d).there ≡ b → IfSome (then_some b at) (IsThereAt ss number)) [
        | true ↦ λ e. is_there_at ss number at rising within here (λ other. ap (λ (s : Slot). s.there) (get_or_default ss at other d within) ∙ e)
        | false ↦ λ e. tt
      ] refl

  pub chosen_none : (at : ℕ) → at < length ss → ((d : Slot) → (get_or ss at d).message.number ≡ number) → (d : Slot) → IfNone (then_some (get_or ss at d).there at) (body_of (there_of ss) number ≡ None)
  chosen_none at within here d =
      elim (get_or ss at d).there as (λ b. (get_or ss at d).there ≡ b → IfNone (then_some b at) (body_of (there_of ss) number ≡ None)) [
        | true ↦ λ e. tt
        | false ↦ λ e. number_left at within here (λ other. ap (λ (s : Slot). s.there) (get_or_default ss at other d within) ∙ e)
      ] refl
