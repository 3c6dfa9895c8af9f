-- what holds of a network's fields as messages come and go
use Rattle.std.proofs.Common.{◌≡◌, ℕ, ◌+◌, ◌-◌, ◌^◌, ◌<◌, ◌≤◌, true, false, not, List, [], ◌∷◌, ◌++◌, length, filter, sym, ◌∙◌, subst}
use Rattle.std.proofs.lemmas.List.{get_or-map}
use Rattle.fy_locality.specs.declared.TheConstants.{MOST_PROCESSES}
use Rattle.fy_net.specs.declared.limits.TheConstants.{MOST_IN_FLIGHT}
use Rattle.fy_net.specs.declared.message.Body.{Body}
use Rattle.fy_net.specs.declared.net.Net.TheInside.{Inside}
use Rattle.fy_net.specs.declared.pool.Pool.{Pool}
use Rattle.fy_net.specs.declared.slot.Slot.{Slot}
use Rattle.fy_net.specs.Kept.{net_state, NetInvariant}
use Rattle.fy_net.specs.Net.{process_of, is_ack_from, without}
use Rattle.fy_net.specs.Pool.{is_there, IsPool, KeepsRoom, HasRoom}
use Rattle.fy_net.specs.Slots.{there_of, IsThereAt}
use Rattle.fy_net.proofs.Flights.{sound_left, sound_filtered, sound_sent}
use Rattle.fy_net.proofs.Slots.{some_slot}

-- a slot that was found by number holds a message that is there
pub found_there : (slots : List Slot) (number place : ℕ) → IsThereAt slots number place → is_there slots place ≡ true
found_there slots number place found = get_or-map (λ (x : Slot). x.there) slots place some_slot false found.within ∙ found.there some_slot

module _ (net : Inside) (kept : NetInvariant net) (new : Pool) (pool : IsPool new) where
  pub kept_left : (number : ℕ) → KeepsRoom net.pool new → there_of new.slots.items ≡ without number (there_of net.pool.slots.items) → NetInvariant (record net { pool = new })
  kept_left number like there = record {
    sound = rw (there, like.sent) (sound_left (net_state net) number kept.sound);
    pool = pool;
    processes = kept.processes ∙ sym like.processes;
    few = subst (λ n. n ≤ MOST_PROCESSES) (sym like.processes) kept.few;
    spare = like.room net.room kept.spare;
    clogs = kept.clogs;
  }

  pub kept_voided : (p : ℕ) → KeepsRoom net.pool new → there_of new.slots.items ≡ filter (λ m. not (is_ack_from p m.body)) (there_of net.pool.slots.items) → NetInvariant (record net { pool = new })
  kept_voided p like there = record {
    sound = rw (there, like.sent) (sound_filtered (λ m. not (is_ack_from p m.body)) (net_state net) kept.sound);
    pool = pool;
    processes = kept.processes ∙ sym like.processes;
    few = subst (λ n. n ≤ MOST_PROCESSES) (sym like.processes) kept.few;
    spare = like.room net.room kept.spare;
    clogs = kept.clogs;
  }

  pub kept_sent : (body : Body) → 0 < net.room → process_of body < length net.until.items → new.sent ≡ net.pool.sent + 1 → new.processes ≡ net.pool.processes
      → there_of new.slots.items ≡ there_of net.pool.slots.items ++ record { number = net.pool.sent; body = body } ∷ [] → HasRoom (net.room - 1) new → NetInvariant (record net { pool = new; room = net.room - 1 })
  kept_sent body room known sent processes there spare = record {
    sound = rw (there, sent) (sound_sent (net_state net) body room known kept.sound);
    pool = pool;
    processes = kept.processes ∙ sym processes;
    few = subst (λ n. n ≤ MOST_PROCESSES) (sym processes) kept.few;
    spare = spare;
    clogs = kept.clogs;
  }

  pub kept_reserved : (room : ℕ) → KeepsRoom net.pool new → there_of new.slots.items ≡ there_of net.pool.slots.items → length (there_of net.pool.slots.items) + room ≤ MOST_IN_FLIGHT → net.pool.sent + room < 2 ^ 64 → HasRoom room new → NetInvariant (record net { pool = new; room = room })
  kept_reserved room like there few countable spare = record {
    sound = rw (there, like.sent) (record {
      rising = kept.sound.rising;
      past = kept.sound.past;
      known = kept.sound.known;
      few = few;
      countable = countable;
      on_time = kept.sound.on_time;
    });
    pool = pool;
    processes = kept.processes ∙ sym like.processes;
    few = subst (λ n. n ≤ MOST_PROCESSES) (sym like.processes) kept.few;
    spare = spare;
    clogs = kept.clogs;
  }
