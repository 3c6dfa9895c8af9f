-- messages in flight, clogs and the clock
use Rattle.std.specs.Prelude.{ℕ, ◌+◌, ◌-◌, ◌^◌, ◌<◌, ◌≤◌, min, max, Bool, true, false, not, ◌&&◌, ◌==◌, nat_lt, List, [], ◌∷◌, ◌++◌, length, replicate, find, filter, slice_index, slice_set, Option, Some, None, option_map, if◌then◌else◌, IsTrue, ⊤}
use Rattle.std.specs.List.{All}
use Rattle.fy_net.specs.declared.fault.NetFault.{NetFault}
use Rattle.fy_net.specs.declared.fault.NetFault.TheVariants.{NetFull, NoMessage, Clogged, ClockEnd}
use Rattle.fy_net.specs.declared.message.Body.{Body}
use Rattle.fy_net.specs.declared.message.Body.TheVariants.{Store, Synced}
use Rattle.fy_net.specs.declared.message.Message.{Message}
use Rattle.fy_net.specs.declared.limits.TheConstants.{LAST_TICK, MOST_IN_FLIGHT}

-- a network: the messages in flight in order of number, how many were sent so far, the time, the
-- time until which each process is clogged, and how many sends are sure to find room
pub record NetState : Type 0 where
  pub in_flight : List Message
  pub sent : ℕ
  pub clock : ℕ
  pub until : List ℕ
  pub room : ℕ

-- a network before anything happened
abbrev pub quiet : ℕ → NetState
quiet processes = record {
  in_flight = [];
  sent = 0;
  clock = 0;
  until = replicate processes 0;
  room = 0;
}

-- ---- messages

-- the process at one end of a message
abbrev pub process_of : Body → ℕ
process_of (Store rec to) = to.0
process_of (Synced rec from) = from.0

-- what the message in flight with a number says
abbrev pub body_of : List Message → ℕ → Option Body
body_of messages number =
    option_map (λ message. message.body) (find (λ message. message.number == number) messages)

-- all messages but the one with a number
abbrev pub without : ℕ → List Message → List Message
without number messages = filter (λ message. not (message.number == number)) messages

-- the network once the message with a number is taken out
abbrev pub without_message : ℕ → NetState → NetState
without_message number net = record net { in_flight = without number net.in_flight }

-- the network once one more message is sent: it gets the next number and uses up one place of room
abbrev pub with_sent : Body → NetState → NetState
with_sent body net = record net {
  in_flight = net.in_flight ++ record { number = net.sent; body = body } ∷ [];
  sent = net.sent + 1;
  room = net.room - 1;
}

-- whether this is an acknowledgement by process p
abbrev pub is_ack_from : ℕ → Body → Bool
is_ack_from p (Store rec to) = false
is_ack_from p (Synced rec from) = from.0 == p

-- the network once every acknowledgement by process p is taken out
abbrev pub without_acks_of : ℕ → NetState → NetState
without_acks_of p net =
    record net { in_flight = filter (λ message. not (is_ack_from p message.body)) net.in_flight }

-- ---- clogs

-- whether process p is clogged
abbrev pub is_clogged : NetState → ℕ → Bool
is_clogged net p = nat_lt net.clock (slice_index net.until p)

-- the network once process p is clogged for some ticks: no clog outlasts the clock or gets shorter
abbrev pub clogged_for : ℕ → ℕ → NetState → NetState
clogged_for p ticks net =
    let end = min (net.clock + ticks) LAST_TICK in
    record net { until = slice_set net.until p (max (slice_index net.until p) end) }

-- the network once process p's clog has ended
abbrev pub unclogged : ℕ → NetState → NetState
unclogged p net =
    record net { until = slice_set net.until p (min (slice_index net.until p) net.clock) }

-- whether a message's receiver is up: the client always is, and `up` says which processes are
abbrev pub receiver_is_up : (ℕ → Bool) → Body → Bool
receiver_is_up up (Store rec to) = up to.0
receiver_is_up up (Synced rec from) = true

-- whether a message may be taken: it isn't clogged, and a store goes to a process that is up
abbrev pub is_free : NetState → (ℕ → Bool) → Message → Bool
is_free net up message =
    not (is_clogged net (process_of message.body)) && receiver_is_up up message.body

-- the number of the first message that may be taken
abbrev pub first_free_of : NetState → (ℕ → Bool) → Option ℕ
first_free_of net up = option_map (λ message. message.number) (find (is_free net up) net.in_flight)

-- no message that may be taken has a number below this one
abbrev pub NoneFreeBelow : NetState → (ℕ → Bool) → ℕ → Type 0
NoneFreeBelow net up number =
    All (λ message. IsTrue (is_free net up message) → number ≤ message.number) net.in_flight

-- ---- why a call is refused, in order

-- why no room is made: more messages would be in flight than may be
abbrev pub reserve_refusal : NetState → ℕ → Option NetFault
reserve_refusal net count =
    if nat_lt MOST_IN_FLIGHT (length net.in_flight + count) then Some NetFull else None

-- there is no such message; its process is clogged
abbrev pub clog_refusal : NetState → Option Body → Option NetFault
clog_refusal net None = Some NoMessage
clog_refusal net (Some body) = if is_clogged net (process_of body) then Some Clogged else None

-- why a message isn't taken
abbrev pub take_refusal : NetState → ℕ → Option NetFault
take_refusal net number = clog_refusal net (body_of net.in_flight number)

-- there is no such message
abbrev pub missing_refusal : Option Body → Option NetFault
missing_refusal None = Some NoMessage
missing_refusal (Some body) = None

-- why a message isn't dropped
abbrev pub lose_refusal : NetState → ℕ → Option NetFault
lose_refusal net number = missing_refusal (body_of net.in_flight number)

-- why the clock doesn't advance: it would go past its last tick
abbrev pub advance_refusal : NetState → ℕ → Option NetFault
advance_refusal net ticks = if nat_lt LAST_TICK (net.clock + ticks) then Some ClockEnd else None

-- ---- what holds of every network

-- the numbers rise, the first being no less than low
abbrev pub Rises : ℕ → List Message → Type 0
Rises low [] = ⊤
Rises low (message ∷ messages) = (low ≤ message.number) × Rises (message.number + 1) messages

-- numbers rise below the next one, messages are of existing processes, and nothing is beyond its
-- limit
pub record IsNetState (net : NetState) : Type 0 where
  pub rising : Rises 0 net.in_flight
  pub past : All (λ message. message.number < net.sent) net.in_flight
  pub known : All (λ message. process_of message.body < length net.until) net.in_flight
  pub few : length net.in_flight + net.room ≤ MOST_IN_FLIGHT
  pub countable : net.sent + net.room < 2 ^ 64
  pub on_time : net.clock ≤ LAST_TICK
