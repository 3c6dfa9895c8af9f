-- time passes
use Rattle.std.proofs.Common.{◌≡◌, ℕ, ◌+◌, ◌∷◌, Bool, true, false, Some, None, Result, Ok, Err, refl, sym, ap, subst, nat_lt}
use Rattle.fy_net.specs.declared.fault.NetFault.{NetFault}
use Rattle.fy_net.specs.declared.fault.NetFault.TheVariants.{ClockEnd as AtEnd}
use Rattle.fy_net.specs.Net.{NetState, advance_refusal}
use Rattle.fy_net.specs.declared.limits.TheConstants.{LAST_TICK}
use Rattle.fy_acts.specs.declared.act.Act.TheVariants.{Tick}
use Rattle.fy_acts.specs.declared.reply.Reply.{Reply}
use Rattle.fy_acts.specs.declared.reply.Reply.TheVariants.{Time, No}
use Rattle.fy_acts.specs.declared.reply.Refusal.TheVariants.{ClockEnd}
use Rattle.fy_cluster.specs.declared.machine.Machine.{Machine}
use Rattle.fy_cluster.specs.Setup.{Setup}
use Rattle.fy_cluster.specs.History.{History, Step, now}
use Rattle.fy_cluster.specs.Replies.{first_refusal_or, refusals, answer}
use Rattle.fy_cluster.specs.Standing.{Refines, Point, StepsTo, step_at, RefinesNet}
use Rattle.fy_cluster.proofs.Still.{net_ticked, teams_idle, only_traffic}
use Rattle.fy_cluster.proofs.Refusals.{refuse}

abbrev reply_of : Result ℕ NetFault → Reply
reply_of (Ok time) = Time time
reply_of (Err fault) = No ClockEnd

at_end : (c : Setup) (h : History) (by n clock : ℕ) → clock ≡ now h → nat_lt LAST_TICK (clock + n) ≡ true → first_refusal_or (refusals c h (Tick n)) (answer c h by (Tick n)) ≡ No ClockEnd
unfolding refusals answer
at_end c h by n clock e t = let past : nat_lt LAST_TICK (now h + n) ≡ true = rw e at t in rw past refl

in_time : (c : Setup) (h : History) (by n clock : ℕ) → clock ≡ now h → nat_lt LAST_TICK (clock + n) ≡ false → Time (clock + n) ≡ first_refusal_or (refusals c h (Tick n)) (answer c h by (Tick n))
unfolding refusals answer
in_time c h by n clock e t = let past : nat_lt LAST_TICK (now h + n) ≡ false = rw e at t in rw (past, e) refl

passed : (point : Point) (n : ℕ) (m : Machine) → Refines point.setup point.before m → nat_lt LAST_TICK (m.net.clock + n) ≡ false → StepsTo point (Tick n) (Time (m.net.clock + n)) (record m { net = record m.net { clock = m.net.clock + n } })
passed point n machine k t = record {
  right = in_time c h point.by n machine.net.clock k.net.clock t;
  stands = only_traffic point (Tick n) (Time (machine.net.clock + n)) machine (record machine.net { clock = machine.net.clock + n }) machine.teams refl (λ p. refl) k
      (subst (λ clock. RefinesNet c (m ∷ h) (record machine.net { clock = clock })) (ap (λ clock. clock + n) (sym k.net.clock)) (net_ticked c m h machine.net refl (λ k. refl) refl refl k.net))
      (teams_idle point (Tick n) (Time (machine.net.clock + n)) machine.teams refl refl refl refl refl k.teams);
}
  where
    c : Setup
    c = point.setup

    h : History
    h = point.before

    m : Step
    m = step_at point (Tick n) (Time (machine.net.clock + n))

pub tick_step : (point : Point) (n : ℕ) (m : Machine) (net : NetState) (result : Result ℕ NetFault) → Refines point.setup point.before m
    → ((fault : NetFault) → advance_refusal m.net n ≡ Some fault → (result ≡ Err fault) × (net ≡ m.net))
    → (advance_refusal m.net n ≡ None → (result ≡ Ok (m.net.clock + n)) × (net ≡ record m.net { clock = m.net.clock + n }))
    → StepsTo point (Tick n) (reply_of result) (record m { net = net })
tick_step point n m net result k past fits = at (nat_lt LAST_TICK (m.net.clock + n)) refl
  where
    at : (b : Bool) → nat_lt LAST_TICK (m.net.clock + n) ≡ b → StepsTo point (Tick n) (reply_of result) (record m { net = net })
    at true t = let said = past AtEnd (rw t refl) in rw (said.0, said.1) (refuse point (Tick n) ClockEnd m k (at_end point.setup point.before point.by n m.net.clock k.net.clock t))
    at false t = let said = fits (rw t refl) in rw (said.0, said.1) (passed point n m k t)
