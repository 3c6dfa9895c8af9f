-- a pool and a network whose parts are copied
use Rattle.std.proofs.Common.{◌≡◌, ℕ, ◌≤◌, Vec, Global, length, vec_len, sym, ap, subst, ◌∙◌}
use Rattle.fy_locality.specs.declared.TheConstants.{MOST_PROCESSES}
use Rattle.fy_net.specs.declared.net.Net.TheInside.{Inside}
use Rattle.fy_net.specs.declared.pool.Pool.{Pool}
use Rattle.fy_net.specs.Kept.{NetInvariant}
use Rattle.fy_net.specs.Net.{Rises}
use Rattle.fy_net.specs.Pool.{IsPool, KeepsRoom}
use Rattle.fy_net.specs.Slots.{messages_of, there_of}

module _ (old new : Pool) (slots : new.slots.items ≡ old.slots.items) (links : new.links.items ≡ old.links.items) (ends : new.ends.items ≡ old.ends.items)
    (there : new.there ≡ old.there) (sent : new.sent ≡ old.sent) (processes : new.processes ≡ old.processes) (busy : new.busy ≡ old.busy) where
  pub copied : IsPool old → IsPool new
  copied pool = record {
    rising = subst (λ xs. Rises 0 (messages_of xs)) (sym slots) pool.rising;
    past = rw (slots, sent) pool.past;
    known = rw (slots, processes) pool.known;
    counted = there ∙ pool.counted ∙ ap (λ xs. length (there_of xs)) (sym slots);
    chained = rw (slots, links, ends, processes) pool.chained;
    noted = λ p. rw (busy, ends, processes) (pool.noted p);
  }

module _ (net : Inside) (kept : NetInvariant net) (pool : Pool) (until : Vec ℕ Global) where
  pub kept_copied : IsPool pool → KeepsRoom net.pool pool → there_of pool.slots.items ≡ there_of net.pool.slots.items → until.items ≡ net.until.items → vec_len until ≡ vec_len net.until → NetInvariant (record net { pool = pool; until = until })
  kept_copied is like there same count = record {
    sound = rw (there, like.sent, same) kept.sound;
    pool = is;
    processes = count ∙ kept.processes ∙ sym like.processes;
    few = subst (λ n. n ≤ MOST_PROCESSES) (sym like.processes) kept.few;
    spare = like.room net.room kept.spare;
    clogs = λ p. rw same (kept.clogs p);
  }
