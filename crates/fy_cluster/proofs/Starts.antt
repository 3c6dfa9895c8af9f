-- a process starts
use Rattle.std.proofs.Common.{List, ◌==◌, ◌≡◌, ℕ, ◌<◌, ◌≤◌, ◌∷◌, [], Bool, true, false, ◌&&◌, ◌||◌, not, refl, sym, ◌∙◌, ap, ap₂, nat_lt, length, arith}
use Rattle.std.proofs.lemmas.Bool.Decides.{nat_tests}
use Rattle.std.specs.FinSet as sets
use Rattle.std.specs.Ordering.{nat_cmp}
use Rattle.std.specs.Cmp.{nat_cmp_total, unsigned_tied}
use Rattle.fy_locality.specs.declared.ProcId.{ProcId}
use Rattle.fy_locality.specs.declared.locality.Locality.{Locality}
use Rattle.fy_acts.specs.declared.act.Act.TheVariants.{Up}
use Rattle.fy_acts.specs.declared.reply.Reply.TheVariants.{Done, No}
use Rattle.fy_acts.specs.declared.reply.Refusal.TheVariants.{NoProcess, Gone, IsUp}
use Rattle.fy_cluster.specs.declared.machine.Machine.{Machine}
use Rattle.fy_cluster.specs.Setup.{Setup}
use Rattle.fy_cluster.specs.History.{History, Step, gone, left, up}
use Rattle.fy_cluster.specs.Replies.{first_refusal_or, refusals, answer, no_process}
use Rattle.fy_cluster.specs.Standing.{Refines, Point, StepsTo, step_at, RefinesUp}
use Rattle.fy_cluster.proofs.Still.{dead_still, disks_still, net_still, teams_idle, rights_still}
use Rattle.fy_cluster.proofs.Refusals.{refuse}

up_reply : (c : Setup) (h : History) (by : ℕ) (p : ProcId) (a b d : Bool) → no_process c p.0 ≡ a → gone h p.0 ≡ b → up h p.0 ≡ d
    → first_refusal_or (refusals c h (Up p)) (answer c h by (Up p)) ≡ first_refusal_or ((a, NoProcess) ∷ (b, Gone) ∷ (d, IsUp) ∷ []) Done
unfolding refusals answer
up_reply c h by p a b d e f g = rw (e, f, g) refl

pub past_processes : (c : Setup) (processes : List Locality) (p : ℕ) → processes ≡ c.processes → length processes ≤ p → no_process c p ≡ true
past_processes c processes p e l = let same : length processes ≡ length c.processes = ap length e in grind (arith, nat_tests)

pub within_processes : (c : Setup) (processes : List Locality) (p : ℕ) → processes ≡ c.processes → p < length processes → (no_process c p ≡ false) × (p < length c.processes)
within_processes c processes p e l = let same : length processes ≡ length c.processes = ap length e in (grind (arith, nat_tests), omega arith)

-- whether a process that is there is gone, by who is left
pub gone_is : (c : Setup) (h : History) (p : ℕ) (b : Bool) → p < length c.processes → b ≡ left c h p → gone h p ≡ not b
gone_is c h p b l e = let there : nat_lt p (length c.processes) ≡ true = grind (arith, nat_tests) in at (gone h p) (e ∙ ap (λ t. t && not (gone h p)) there)
  where
    at : (g : Bool) → b ≡ not g → g ≡ not b
    at true e = ap not (sym e)
    at false e = ap not (sym e)

-- what who is left tells of a process that is there
pub left_tells : (point : Point) (m : Machine) → Refines point.setup point.before m → (p : ℕ) → p < length point.setup.processes → (set : sets.FinSet nat_cmp) → set ≡ m.dead.left → (b found : Bool) → found ≡ sets.contains set p → found ≡ b → gone point.before p ≡ not b
left_tells point m k p l set is b found told e = gone_is point.setup point.before p b l (sym e ∙ told ∙ ap (λ s. sets.contains s p) is ∙ k.dead.left p)

-- and who is up
pub up_tells : (point : Point) (m : Machine) → Refines point.setup point.before m → (p : ℕ) → p < length point.setup.processes → (b found : Bool) → found ≡ sets.contains m.up p → found ≡ b → up point.before p ≡ b
up_tells point m k p l b found told e = sym (k.up.each p l) ∙ sym told ∙ e

pub nobody : (point : Point) (p : ProcId) (m : Machine) → Refines point.setup point.before m → no_process point.setup p.0 ≡ true → StepsTo point (Up p) (No NoProcess) m
nobody point p m k e = refuse point (Up p) NoProcess m k (up_reply point.setup point.before point.by p true _ _ e refl refl)

pub is_gone : (point : Point) (p : ProcId) (m : Machine) → Refines point.setup point.before m → no_process point.setup p.0 ≡ false → gone point.before p.0 ≡ true → StepsTo point (Up p) (No Gone) m
is_gone point p m k e f = refuse point (Up p) Gone m k (up_reply point.setup point.before point.by p false true _ e f refl)

pub is_up : (point : Point) (p : ProcId) (m : Machine) → Refines point.setup point.before m → no_process point.setup p.0 ≡ false → gone point.before p.0 ≡ false → up point.before p.0 ≡ true → StepsTo point (Up p) (No IsUp) m
is_up point p m k e f g = refuse point (Up p) IsUp m k (up_reply point.setup point.before point.by p false false true e f g)

up_more : (c : Setup) (m : Step) (h : History) (p : ℕ) (set : sets.FinSet nat_cmp) → ((q : ℕ) → up (m ∷ h) q ≡ ((p == q) || up h q)) → RefinesUp c h set → RefinesUp c (m ∷ h) (sets.insert set p)
up_more c m h p set is k = record { each = λ q l. sets.contains-insert nat_cmp_total set p q ∙ ap₂ (λ a b. a || b) (unsigned_tied q p ∙ same p q) (k.each q l) ∙ sym (is q) }
  where
    same : (p q : ℕ) → (q == p) ≡ (p == q)
    same p q = grind (arith, nat_tests)

pub starts : (point : Point) (p : ProcId) (m : Machine) → Refines point.setup point.before m → no_process point.setup p.0 ≡ false → gone point.before p.0 ≡ false → up point.before p.0 ≡ false
    → StepsTo point (Up p) Done (record m { up = sets.insert m.up p.0 })
starts point p machine k e f g = record {
  right = sym (up_reply c h point.by p false false false e f g);
  stands = record {
    dead = dead_still c m h machine.dead (λ p. refl) refl k.dead;
    rights = rights_still c m h machine.book refl refl refl refl k.rights;
    disks = disks_still c m h machine.disks (λ p. refl) refl (λ p. refl) k.disks;
    up = up_more c m h p.0 machine.up (λ q. refl) k.up;
    net = net_still c m h machine.net refl (λ k. refl) refl refl refl k.net;
    teams = teams_idle point (Up p) Done machine.teams refl refl refl refl refl k.teams;
  };
}
  where
    c : Setup
    c = point.setup

    h : History
    h = point.before

    m : Step
    m = step_at point (Up p) Done
