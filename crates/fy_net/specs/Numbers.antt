-- what holds of the numbers of messages
use Rattle.std.specs.Prelude.{◌≡◌, ◌<◌, ◌==◌, ℕ, Some, None, if◌then◌else◌}
use Rattle.fy_net.specs.declared.message.Body.{Body}
use Rattle.fy_net.specs.Net.{NetState, body_of, without_message, with_sent, IsNetState}

-- no message in flight has the next number
abbrev pub NextIsUnused : Type 0
NextIsUnused = (net : NetState) → IsNetState net → body_of net.in_flight net.sent ≡ None

-- the next number goes to what is sent next
abbrev pub NextIsSent : Type 0
NextIsSent = (net : NetState) (body : Body) →
    IsNetState net → body_of (with_sent body net).in_flight net.sent ≡ Some body

-- a number given out before belongs to the same message as ever
abbrev pub EarlierStay : Type 0
EarlierStay = (net : NetState) (body : Body) (number : ℕ) →
    number < net.sent → body_of (with_sent body net).in_flight number ≡ body_of net.in_flight number

-- the message with a number that has left isn't in flight, and every other is as it was
abbrev pub RemovedIsGone : Type 0
RemovedIsGone = (net : NetState) (number other : ℕ) →
    body_of (without_message number net).in_flight other
    ≡ (if other == number then None else body_of net.in_flight other)
