-- orders and clogs are answered from the books, and what they do
use Rattle.std.proofs.Common.{◌==◌, ◌≡◌, ℕ, zero, suc, ◌<◌, List, [], ◌∷◌, ◌++◌, Bool, true, false, ◌&&◌, ◌||◌, not, Option, Some, None, is_none, refl, sym, ◌∙◌, ap, ap₂, nat_lt, length, arith, get_or, slice_get, slice_index, append-nil, if◌then◌else◌}
use Rattle.std.proofs.lemmas.Bool.{or_from, and_parts}
use Rattle.std.proofs.lemmas.Bool.Decides.{nat_tests}
use Rattle.std.proofs.lemmas.Option.{slice_get-get_or}
use Rattle.std.specs.FinSet as sets
use Rattle.std.specs.Ordering.{nat_cmp}
use Rattle.std.specs.Cmp.{nat_cmp_total}
use Rattle.fy_locality.specs.declared.locality.Locality.{Locality}
use Rattle.fy_locality.specs.declared.key.Key.TheVariants.{Process}
use Rattle.fy_locality.specs.Locality.{value_of}
use Rattle.fy_kinds.specs.declared.kind.Kind.{Kind}
use Rattle.fy_kinds.specs.declared.kind.Kind.TheVariants.{RebootProcess, Reboot, RebootAndDelete, KillInstantly}
use Rattle.fy_kinds.specs.declared.order.Target.{Target}
use Rattle.fy_kinds.specs.declared.verdict.Rule.{Rule}
use Rattle.fy_kinds.specs.declared.verdict.Verdict.{Verdict as VerdictOf}
use Rattle.fy_kinds.specs.Kinds.{Clogging, is_destroying, destroys_for_good}
use Rattle.fy_kinds.specs.Orders.{Order}
use Rattle.fy_decide.specs.DeadBook.{Losses}
use Rattle.fy_decide.specs.Verdicts.{situation_of, targets, bar, verdict}
use Rattle.fy_disk.specs.declared.item.Item.{Item}
use Rattle.fy_disk.specs.Disk.{Stored, outlives, filter_by_place}
use Rattle.fy_net.specs.Net.{NetState}
use Rattle.fy_acts.specs.declared.act.Act.{Act}
use Rattle.fy_acts.specs.declared.act.Act.TheVariants.{Kill, Clog, Unclog}
use Rattle.fy_acts.specs.declared.reply.Reply.TheVariants.{Ruled, Verdict}
use Rattle.fy_cluster.specs.declared.machine.Machine.{Machine}
use Rattle.fy_cluster.specs.Setup.{Setup}
use Rattle.fy_cluster.specs.History.{History, Step, some_is, strikes, destroys, closes, syncs, writes, tear_of, heals, destroyed, gone, left, up, synced, unsynced, sent, now, sends_of, clog_end, unclog_end, clog_ends}
use Rattle.fy_cluster.specs.Rules.{situation}
use Rattle.fy_cluster.specs.Replies.{first_refusal_or, refusals, answer}
use Rattle.fy_disk.specs.Disk.{empty_disk}
use Rattle.fy_cluster.specs.Standing.{Refines, Point, StepsTo, step_at, following, RefinesDead, RefinesDisks, RefinesUp, ChangesAt, ClogsChange, targets_by, clog_bar, with_losses, stored, disk_after_strike}
use Rattle.fy_cluster.proofs.Still.{Doings, doings, nothing, clogs_alone, unmoved, only_clogs, untaken, net_still, teams_idle, rights_still, stored_still, disk_closes}
use Rattle.fy_cluster.proofs.DiskSteps.{synced_at_close, unsynced_at_close, synced_at_strike}
use Rattle.fy_cluster.proofs.Flights.{flying_still}
use Rattle.fy_cluster.proofs.Results.{some_is_same}

-- what an answer to an actor rests on is what the books say
pub situation_same : (c : Setup) (h : History) (m : Machine) → Refines c h m → (by : ℕ) → situation_of m.dead m.book by ≡ situation c h by
situation_same c h m k by = λ i. record {
  processes = k.dead.processes i;
  policies = k.dead.policies i;
  grants = k.rights.grants by i;
  is_protected = λ p deed. k.rights.protections p deed i;
  destroyed = λ p. k.dead.destroyed p i;
  left = λ p. k.dead.left p i;
}

targets_same : (c : Setup) (h : History) (m : Machine) → Refines c h m → (target : Target) → targets_by m target ≡ targets c.processes (left c h) target
targets_same c h m k target = λ i. targets (k.dead.processes i) (λ p. k.dead.left p i) target

-- targets are processes
pub targets_below : {c : Setup} {h : History} {m : Machine} → Refines c h m → (target : Target) (set : sets.FinSet nat_cmp) → ((p : ℕ) → sets.contains set p ≡ targets_by m target p)
    → (p : ℕ) → sets.contains set p ≡ true → p < length c.processes
targets_below {c} {h} {m} k target set who p member =
    let is_left : left c h p ≡ true = sym (k.dead.left p) ∙ (and_parts (sets.contains m.dead.left p) _ (sym (who p) ∙ member)).0 in
    let below : nat_lt p (length c.processes) ≡ true = (and_parts _ (not (gone h p)) is_left).0 in
    grind (arith, nat_tests)

bar_same : (c : Setup) (h : History) (m : Machine) → Refines c h m → (by actor : ℕ) → by ≡ actor → (target : Target)
    → clog_bar m by target ≡ bar (situation c h actor) Clogging (targets c.processes (left c h) target)
bar_same c h m k by actor e target = ap₂ (λ s t. bar s Clogging t) (situation_same c h m k by ∙ ap (situation c h) e) (targets_same c h m k target)

-- what has a name is a process
pub named_within : (processes : List Locality) (p : ℕ) (name : List ℕ) → value_of processes Process p ≡ Some name → p < length processes
named_within [] p name e = absurd (cc)
named_within (x ∷ xs) zero name e = omega arith
named_within (x ∷ xs) (suc p) name e = let l = named_within xs p name e in omega arith

-- ---- clogs

-- an act on a target's clogs: a rule bars it, or it changes, by the time, until when the target's
-- processes are clogged
pub record ActsOnClogs (point : Point) (act : Act) (target : Target) (change : ℕ → ℕ → ℕ) : Type 0 where
  pub ruled : Ruled (bar (situation point.setup point.before point.by) Clogging (targets point.setup.processes (left point.setup point.before) target)) ≡ first_refusal_or (refusals point.setup point.before act) (answer point.setup point.before point.by act)
  pub idle : (rule : Rule) → doings act (Ruled (Some rule)) ≡ nothing
  pub alone : doings act (Ruled None) ≡ clogs_alone act (Ruled None)
  pub silent : sends_of point.before act ≡ []
  pub ends : (p : ℕ) → clog_ends (following point act (Ruled None)) p ≡ (if targets point.setup.processes (left point.setup point.before) target p then change (now point.before) (clog_ends point.before p) else clog_ends point.before p)

pub clogging : (point : Point) (target : Target) (n : ℕ) → ActsOnClogs point (Clog target n) target (clog_end n)
unfolding refusals answer
clogging point target n = record {
  ruled = refl;
  idle = λ rule. refl;
  alone = refl;
  silent = refl;
  ends = λ p. refl;
}

pub unclogging : (point : Point) (target : Target) → ActsOnClogs point (Unclog target) target unclog_end
unfolding refusals answer
unclogging point target = record {
  ruled = refl;
  idle = λ rule. refl;
  alone = refl;
  silent = refl;
  ends = λ p. refl;
}

-- a rule bars it
pub clogs_barred : {point : Point} {act : Act} {target : Target} {change : ℕ → ℕ → ℕ} {rule : Rule} {machine : Machine} {by : ℕ} → ActsOnClogs point act target change → Refines point.setup point.before machine → by ≡ point.by
    → Some rule ≡ clog_bar machine by target → StepsTo point act (Ruled (Some rule)) machine
clogs_barred {point} {act} {target} {rule} {machine} {by} acts k actor is = record {
  right = ap Ruled (is ∙ bar_same point.setup point.before machine k by point.by actor target) ∙ acts.ruled;
  stands = unmoved point act (Ruled (Some rule)) machine (acts.idle rule) refl k;
}

-- none does
pub clogs_changed : {point : Point} {act : Act} {target : Target} {change : ℕ → ℕ → ℕ} {machine : Machine} {by : ℕ} (set : sets.FinSet nat_cmp) {net : NetState} → ActsOnClogs point act target change → Refines point.setup point.before machine → by ≡ point.by
    → None ≡ clog_bar machine by target → ((p : ℕ) → sets.contains set p ≡ targets_by machine target p) → ClogsChange (sets.contains set) change machine.net net → StepsTo point act (Ruled None) (record machine { net = net })
clogs_changed {point} {act} {target} {change} {machine} {by} set {net} acts k actor is who changed = record {
  right = ap Ruled (is ∙ bar_same c h machine k by point.by actor target) ∙ acts.ruled;
  stands = only_clogs point act (Ruled None) machine net acts.alone k record {
    in_flight = ap (λ (n : NetState). n.in_flight) changed.rest ∙ k.net.in_flight ∙ sym (flying_still m h acts.silent keeps);
    sent_so_far = ap (λ (n : NetState). n.sent) changed.rest ∙ k.net.sent_so_far ∙ sym all_sent;
    clock = ap (λ (n : NetState). n.clock) changed.rest ∙ k.net.clock ∙ sym time;
    count = changed.ends.count ∙ k.net.count;
    ends = ends;
    early = λ n l. or_from _ _ (keeps n) (k.net.early n (let e = all_sent in omega arith));
    few = let e = all_sent in let few = k.net.few in omega arith;
  };
}
  where
    c : Setup
    c = point.setup

    h : History
    h = point.before

    m : Step
    m = step_at point act (Ruled None)

    keeps : (n : ℕ) → m.removes n ≡ false
    keeps = untaken point act (Ruled None) (ap (λ (d : Doings). d.delivered) acts.alone) (ap (λ (d : Doings). d.lost) acts.alone) (ap (λ (d : Doings). d.healed) acts.alone)

    all_sent : length (sent (m ∷ h)) ≡ length (sent h)
    all_sent = ap (λ xs. length (sent h ++ xs)) acts.silent ∙ ap length (append-nil (sent h))

    time : now (m ∷ h) ≡ now h
    time = rw (ap (λ (d : Doings). d.passed) acts.alone) (omega arith)

    ends : (p : ℕ) → p < length c.processes → slice_index net.until p ≡ clog_ends (m ∷ h) p
    ends p l =
        let was = slice_index machine.net.until p in
        changed.ends.each p (let w = k.net.count in omega arith)
        ∙ ap (λ clock. if sets.contains set p then change clock was else was) k.net.clock
        ∙ ap (λ until. if sets.contains set p then change (now h) until else until) (k.net.ends p l)
        ∙ ap (λ b. if b then change (now h) (clog_ends h p) else clog_ends h p) (who p ∙ ap (λ f. f p) (targets_same c h machine k target))
        ∙ sym (acts.ends p)

-- ---- kills

kill_reply : (c : Setup) (h : History) (by : ℕ) (order : Order) (v : VerdictOf) → v ≡ verdict (situation c h by) order → Verdict v ≡ first_refusal_or (refusals c h (Kill order)) (answer c h by (Kill order))
unfolding refusals answer
kill_reply c h by order v e = ap Verdict e

verdict_same : (c : Setup) (h : History) (m : Machine) → Refines c h m → (by actor : ℕ) → by ≡ actor → (order : Order) → verdict (situation_of m.dead m.book by) order ≡ verdict (situation c h actor) order
verdict_same c h m k by actor e order = ap (λ s. verdict s order) (situation_same c h m k by ∙ ap (situation c h) e)

-- the verdict of the books is the reply
pub judged : (c : Setup) (h : History) (m : Machine) → Refines c h m → (by : ℕ) (order : Order) (v : VerdictOf) → v ≡ verdict (situation_of m.dead m.book by) order → Verdict v ≡ first_refusal_or (refusals c h (Kill order)) (answer c h by (Kill order))
judged c h m k by order v is = kill_reply c h by order v (is ∙ verdict_same c h m k by by refl order)

-- what a verdict struck, the verdict's word for it struck
pub chosen : {v w : VerdictOf} {kind : Kind} → v ≡ w → v.struck ≡ Some kind → w.struck ≡ Some kind
chosen e s = ap (λ (v : VerdictOf). v.struck) (sym e) ∙ s

-- an order that struck nobody
pub spares : {point : Point} (order : Order) {v : VerdictOf} {machine : Machine} {by : ℕ} → Refines point.setup point.before machine → by ≡ point.by
    → v ≡ verdict (situation_of machine.dead machine.book by) order → v.struck ≡ None → StepsTo point (Kill order) (Verdict v) machine
spares {point} order {v} {machine} {by} k actor is none = record {
  right = kill_reply point.setup point.before point.by order v (is ∙ verdict_same point.setup point.before machine k by point.by actor order);
  stands = unmoved point (Kill order) (Verdict v) machine (ap (λ kind. record nothing { struck = kind }) none) refl k;
}

-- the kind that struck a target
abbrev at_target : Bool → Kind → Option Kind
at_target b kind = if b then Some kind else None

-- what is destroyed once a kind struck the targets
destroyed_more : (b d : Bool) (kind : Kind) → is_destroying kind ≡ true → (d || b) ≡ (some_is is_destroying (at_target b kind) || d)
destroyed_more true true kind e = rw e refl
destroyed_more true false kind e = rw e refl
destroyed_more false true kind e = refl
destroyed_more false false kind e = refl

spared : (test : Kind → Bool) (b d : Bool) (kind : Kind) → test kind ≡ false → d ≡ (some_is test (at_target b kind) || d)
spared test true d kind e = rw e refl
spared test false d kind e = refl

left_less : (n b g : Bool) (kind : Kind) → destroys_for_good kind ≡ true → (n && not g && not b) ≡ (n && not (some_is destroys_for_good (at_target b kind) || g))
left_less true true true kind e = rw e refl
left_less true true false kind e = rw e refl
left_less true false true kind e = refl
left_less true false false kind e = refl
left_less false b g kind e = refl

dead_struck : (c : Setup) (m : Step) (h : History) (book : Losses) (set : sets.FinSet nat_cmp) (kind : Kind) → ((p : ℕ) → strikes m p ≡ at_target (sets.contains set p) kind)
    → heals m.entry.act m.entry.reply ≡ None → RefinesDead c h book → RefinesDead c (m ∷ h) (with_losses book set kind)
dead_struck c m h book set RebootProcess struck_is unhealed k = record {
  processes = k.processes;
  policies = k.policies;
  few = k.few;
  destroyed = λ p. k.destroyed p ∙ spared is_destroying (sets.contains set p) (destroyed h p) RebootProcess refl ∙ ap₂ (λ o q. some_is is_destroying o || not (some_is (λ q. q == p) q) && destroyed h p) (sym (struck_is p)) (sym unhealed);
  left = λ p. k.left p ∙ ap (λ g. nat_lt p (length c.processes) && not g) (spared destroys_for_good (sets.contains set p) (gone h p) RebootProcess refl ∙ ap (λ o. some_is destroys_for_good o || gone h p) (sym (struck_is p)));
}
dead_struck c m h book set Reboot struck_is unhealed k = record {
  processes = k.processes;
  policies = k.policies;
  few = k.few;
  destroyed = λ p. k.destroyed p ∙ spared is_destroying (sets.contains set p) (destroyed h p) Reboot refl ∙ ap₂ (λ o q. some_is is_destroying o || not (some_is (λ q. q == p) q) && destroyed h p) (sym (struck_is p)) (sym unhealed);
  left = λ p. k.left p ∙ ap (λ g. nat_lt p (length c.processes) && not g) (spared destroys_for_good (sets.contains set p) (gone h p) Reboot refl ∙ ap (λ o. some_is destroys_for_good o || gone h p) (sym (struck_is p)));
}
dead_struck c m h book set RebootAndDelete struck_is unhealed k = record {
  processes = k.processes;
  policies = k.policies;
  few = k.few;
  destroyed = λ p. sets.contains-union nat_cmp_total book.destroyed set p ∙ ap (λ d. d || sets.contains set p) (k.destroyed p) ∙ destroyed_more (sets.contains set p) (destroyed h p) RebootAndDelete refl ∙ ap₂ (λ o q. some_is is_destroying o || not (some_is (λ q. q == p) q) && destroyed h p) (sym (struck_is p)) (sym unhealed);
  left = λ p. k.left p ∙ ap (λ g. nat_lt p (length c.processes) && not g) (spared destroys_for_good (sets.contains set p) (gone h p) RebootAndDelete refl ∙ ap (λ o. some_is destroys_for_good o || gone h p) (sym (struck_is p)));
}
dead_struck c m h book set KillInstantly struck_is unhealed k = record {
  processes = k.processes;
  policies = k.policies;
  few = k.few;
  destroyed = λ p. sets.contains-union nat_cmp_total book.destroyed set p ∙ ap (λ d. d || sets.contains set p) (k.destroyed p) ∙ destroyed_more (sets.contains set p) (destroyed h p) KillInstantly refl ∙ ap₂ (λ o q. some_is is_destroying o || not (some_is (λ q. q == p) q) && destroyed h p) (sym (struck_is p)) (sym unhealed);
  left = λ p. sets.contains-difference nat_cmp_total book.left set p ∙ ap (λ l. l && not (sets.contains set p)) (k.left p)
      ∙ left_less (nat_lt p (length c.processes)) (sets.contains set p) (gone h p) KillInstantly refl ∙ ap (λ o. nat_lt p (length c.processes) && not (some_is destroys_for_good o || gone h p)) (sym (struck_is p));
}

up_less : (b u : Bool) (kind : Kind) → (u && not b) ≡ (is_none (at_target b kind) && u)
up_less true true kind = refl
up_less true false kind = refl
up_less false true kind = refl
up_less false false kind = refl

up_struck : (c : Setup) (m : Step) (h : History) (up_now set : sets.FinSet nat_cmp) (kind : Kind) → ((q : ℕ) → up (m ∷ h) q ≡ (is_none (strikes m q) && up h q)) → ((p : ℕ) → strikes m p ≡ at_target (sets.contains set p) kind)
    → RefinesUp c h up_now → RefinesUp c (m ∷ h) (sets.difference up_now set)
up_struck c m h up_now set kind is struck_is k = record {
  each = λ p l. sets.contains-difference nat_cmp_total up_now set p ∙ ap (λ u. u && not (sets.contains set p)) (k.each p l) ∙ up_less (sets.contains set p) (up h p) kind ∙ ap (λ o. is_none o && up h p) (sym (struck_is p)) ∙ sym (is p);
}

-- ---- disks

-- a disk after a strike at its process
stored_struck : (m : Step) (h : History) (p : ℕ) (kind : Kind) → syncs m.entry.act m.entry.reply ≡ None → writes m p ≡ None → strikes m p ≡ Some kind → stored (m ∷ h) p ≡ disk_after_strike kind (tear_of m.entry.act) (stored h p)
stored_struck m h p RebootProcess idle w s = stored_still m h p (ap₂ (λ a b. disk_closes a b p) idle s) w
stored_struck m h p Reboot idle w s =
    let closing : closes p m ≡ true = ap₂ (λ a b. disk_closes a b p) idle s in
    let spares_all : destroys m p ≡ false = ap (some_is is_destroying) s in
    ap₂ (λ (xs ys : List Item). record { synced = xs; unsynced = ys })
    (synced_at_close m h p closing spares_all
    ∙ ap₂ (λ (a : Option ℕ) (b : Option Kind). synced h p ++ filter_by_place (λ i. some_is (λ q. q == p) a || not (some_is is_destroying b) && outlives (tear_of m.entry.act) i) 0 (unsynced h p)) idle s)
    (unsynced_at_close m h p closing)
stored_struck m h p RebootAndDelete idle w s =
    ap₂ (λ (xs ys : List Item). record { synced = xs; unsynced = ys }) (synced_at_strike m h p (ap (some_is is_destroying) s)) (unsynced_at_close m h p (ap₂ (λ a b. disk_closes a b p) idle s))
stored_struck m h p KillInstantly idle w s =
    ap₂ (λ (xs ys : List Item). record { synced = xs; unsynced = ys }) (synced_at_strike m h p (ap (some_is is_destroying) s)) (unsynced_at_close m h p (ap₂ (λ a b. disk_closes a b p) idle s))

-- the element that is there, whatever stands for one that isn't
element : {X : Type 0} (xs : List X) (i : ℕ) (other x : X) → i < length xs → slice_get xs i ≡ Some x → get_or xs i other ≡ x
element xs i other x l e = some_is_same (get_or xs i other) x (sym (slice_get-get_or xs i other l) ∙ e)

disks_struck : (c : Setup) (m : Step) (h : History) (old new : List Stored) (set : sets.FinSet nat_cmp) (kind : Kind) (tear : ℕ) → ((p : ℕ) → strikes m p ≡ at_target (sets.contains set p) kind)
    → syncs m.entry.act m.entry.reply ≡ None → ((p : ℕ) → writes m p ≡ None) → tear_of m.entry.act ≡ tear → ChangesAt (sets.contains set) (disk_after_strike kind tear) empty_disk old new
    → RefinesDisks c h old → RefinesDisks c (m ∷ h) new
disks_struck c m h old new set kind tear struck_is idle w torn changed k = record {
  count = changed.count ∙ k.count;
  each = λ p l. slice_get-get_or new p empty_disk (let a = changed.count in let b = k.count in omega arith) ∙ ap Some (changed.each p (let b = k.count in omega arith) ∙ ap (λ d. if sets.contains set p then disk_after_strike kind tear d else d) (element old p empty_disk (stored h p) (let b = k.count in omega arith) (k.each p l)) ∙ at p (sets.contains set p) (struck_is p));
}
  where
    at : (p : ℕ) (b : Bool) → strikes m p ≡ at_target b kind → (if b then disk_after_strike kind tear (stored h p) else stored h p) ≡ stored (m ∷ h) p
    at p true s = ap (λ t. disk_after_strike kind t (stored h p)) (sym torn) ∙ sym (stored_struck m h p kind idle (w p) s)
    at p false s = sym (stored_still m h p (ap₂ (λ a b. disk_closes a b p) idle s) (w p))

-- an order that struck its targets
pub strikes_now : {point : Point} (order : Order) {v : VerdictOf} {kind : Kind} {machine : Machine} (set : sets.FinSet nat_cmp) {by : ℕ} (after : Machine) → Refines point.setup point.before machine
    → by ≡ point.by → v ≡ verdict (situation_of machine.dead machine.book by) order → v.struck ≡ Some kind
    → ((p : ℕ) → sets.contains set p ≡ targets_by machine order.target p)
    → ChangesAt (sets.contains set) (disk_after_strike kind order.tear) empty_disk machine.disks after.disks
    → after.up ≡ sets.difference machine.up set → after.dead ≡ with_losses machine.dead set kind
    → after.book ≡ machine.book → after.net ≡ machine.net → after.teams ≡ machine.teams → StepsTo point (Kill order) (Verdict v) after
strikes_now {point} order {v} {kind} {machine} set {by} after k actor is hit who changed ups dead book net teams = record {
  right = kill_reply c h point.by order v (is ∙ verdict_same c h machine k by point.by actor order);
  stands = record {
    dead = rw dead (dead_struck c m h machine.dead set kind struck_is refl k.dead);
    rights = rw book (rights_still c m h machine.book refl refl refl refl k.rights);
    disks = disks_struck c m h machine.disks after.disks set kind order.tear struck_is refl (λ p. refl) refl changed k.disks;
    up = rw ups (up_struck c m h machine.up set kind (λ q. refl) struck_is k.up);
    net = rw net (net_still c m h machine.net refl (λ k. refl) refl refl refl k.net);
    teams = rw teams (teams_idle point (Kill order) (Verdict v) machine.teams refl refl refl refl refl k.teams);
  };
}
  where
    c : Setup
    c = point.setup

    h : History
    h = point.before

    m : Step
    m = step_at point (Kill order) (Verdict v)

    struck_is : (p : ℕ) → strikes m p ≡ at_target (sets.contains set p) kind
    struck_is p = ap₂ (λ (b : Bool) (o : Option Kind). if b then o else None) (sym (who p ∙ ap (λ f. f p) (targets_same c h machine k order.target))) hit
