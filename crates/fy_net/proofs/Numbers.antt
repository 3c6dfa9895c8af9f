-- who has a number in flight, as messages come and go
use Rattle.std.proofs.Common.{◌≡◌, ℕ, ◌<◌, Bool, true, false, cond, not, eqb, List, [], ◌∷◌, ◌++◌, find, Some, None, option_map, refl, sym, ap, ◌∙◌, arith}
use Rattle.std.specs.Prelude.{Option}
use Rattle.std.specs.List.{All}
use Rattle.std.proofs.lemmas.List.Elements.{All-head, All-tail}
use Rattle.std.proofs.lemmas.Bool.Decides.{nat_tests}
use Rattle.fy_net.specs.declared.message.Body.{Body}
use Rattle.fy_net.specs.declared.message.Message.{Message}
use Rattle.fy_net.specs.Net.{NetState, IsNetState, body_of, without, without_message, with_sent}

eqb_less : (a b : ℕ) → a < b → eqb a b ≡ false
eqb_less a b lt = grind (arith, nat_tests)

eqb_more : (a b : ℕ) → a < b → eqb b a ≡ false
eqb_more a b lt = grind (arith, nat_tests)

eqb_self : (a : ℕ) → eqb a a ≡ true
eqb_self a = grind (arith, nat_tests)

eqb_turned : (a b : ℕ) → eqb a b ≡ eqb b a
eqb_turned a b = grind (arith, nat_tests)

same_of : (a b : ℕ) → eqb a b ≡ true → a ≡ b
same_of a b e = grind (arith, nat_tests)

-- what the first message says where it has the number, and else what the others say
abbrev first_or : Bool → Message → List Message → ℕ → Option Body
first_or here m ms number = option_map (λ (x : Message). x.body) (cond here (Some m) (find (λ x. eqb x.number number) ms))

either : (b : Bool) (m : Message) (xs ys : List Message) (number : ℕ) → body_of xs number ≡ body_of ys number → first_or b m xs number ≡ first_or b m ys number
either true m xs ys number same = refl
either false m xs ys number same = same

none_has : (ms : List Message) (number : ℕ) → All (λ m. m.number < number) ms → body_of ms number ≡ None
none_has [] number past = refl
none_has (m ∷ ms) number past =
    let here : m.number < number = All-head (λ (x : Message). x.number < number) m ms past in
    ap (λ b. first_or b m ms number) (eqb_less m.number number here) ∙ none_has ms number (All-tail (λ (x : Message). x.number < number) m ms past)

pub next-unused : (net : NetState) → IsNetState net → body_of net.in_flight net.sent ≡ None
next-unused net sound = none_has net.in_flight net.sent sound.past

found_last : (ms : List Message) (number : ℕ) (body : Body) → All (λ m. m.number < number) ms → body_of (ms ++ record { number = number; body = body } ∷ []) number ≡ Some body
found_last [] number body past = ap (λ b. first_or b (record { number = number; body = body }) [] number) (eqb_self number)
found_last (m ∷ ms) number body past =
    let here : m.number < number = All-head (λ (x : Message). x.number < number) m ms past in
    ap (λ b. first_or b m (ms ++ record { number = number; body = body } ∷ []) number) (eqb_less m.number number here) ∙ found_last ms number body (All-tail (λ (x : Message). x.number < number) m ms past)

pub next-sent : (net : NetState) (body : Body) → IsNetState net → body_of (with_sent body net).in_flight net.sent ≡ Some body
next-sent net body sound = found_last net.in_flight net.sent body sound.past

found_before : (ms : List Message) (last : Message) (number : ℕ) → number < last.number → body_of (ms ++ last ∷ []) number ≡ body_of ms number
found_before [] last number lt = ap (λ b. first_or b last [] number) (eqb_more number last.number lt)
found_before (m ∷ ms) last number lt = either (eqb m.number number) m (ms ++ last ∷ []) ms number (found_before ms last number lt)

pub earlier-kept : (net : NetState) (body : Body) (number : ℕ) → number < net.sent → body_of (with_sent body net).in_flight number ≡ body_of net.in_flight number
earlier-kept net body number lt = found_before net.in_flight (record { number = net.sent; body = body }) number lt

-- what is left of a message and those behind it once those with a number have left
one_without : (m : Message) (ms : List Message) (number other : ℕ) → body_of (without number ms) other ≡ cond (eqb other number) None (body_of ms other)
    → (b : Bool) → eqb m.number number ≡ b → body_of (cond (not b) (m ∷ without number ms) (without number ms)) other ≡ cond (eqb other number) None (body_of (m ∷ ms) other)
one_without m ms number other later true is = later ∙ go (eqb other number) refl
  where
    go : (c : Bool) → eqb other number ≡ c → cond c None (body_of ms other) ≡ cond c None (body_of (m ∷ ms) other)
    go true e = refl
    go false e = sym (ap (λ b. first_or b m ms other) (ap (λ n. eqb n other) (same_of m.number number is) ∙ eqb_turned number other ∙ e))
one_without m ms number other later false is = go (eqb m.number other) refl
  where
    go : (c : Bool) → eqb m.number other ≡ c → first_or (eqb m.number other) m (without number ms) other ≡ cond (eqb other number) None (first_or (eqb m.number other) m ms other)
    go true e = ap (λ b. first_or b m (without number ms) other) e ∙ sym (ap (λ c. cond c None (first_or (eqb m.number other) m ms other)) (ap (λ n. eqb n number) (sym (same_of m.number other e)) ∙ is) ∙ ap (λ b. first_or b m ms other) e)
    go false e = ap (λ b. first_or b m (without number ms) other) e ∙ later ∙ ap (λ found. cond (eqb other number) None found) (sym (ap (λ b. first_or b m ms other) e))

found_without : (ms : List Message) (number other : ℕ) → body_of (without number ms) other ≡ cond (eqb other number) None (body_of ms other)
found_without [] number other = go (eqb other number)
  where
    go : (c : Bool) → let none : Option Body = None in none ≡ cond c none none
    go true = refl
    go false = refl
found_without (m ∷ ms) number other = one_without m ms number other (found_without ms number other) (eqb m.number number) refl

pub removed-gone : (net : NetState) (number other : ℕ) → body_of (without_message number net).in_flight other ≡ cond (eqb other number) None (body_of net.in_flight other)
removed-gone net number other = found_without net.in_flight number other
