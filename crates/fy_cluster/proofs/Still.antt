-- what an entry leaves as it was, part by part
use Rattle.std.proofs.Common.{◌==◌, ◌≡◌, ℕ, Bool, true, false, ◌&&◌, ◌||◌, not, [], ◌∷◌, Option, Some, None, is_none, refl, sym, ◌∙◌, ap, ap₂, arith, nat_lt, length, append-nil, List, ◌++◌, option_to_list, is_some, if◌then◌else◌}
use Rattle.std.specs.Prelude.{option_and_then}
use Rattle.std.specs.Option.{option_map_or}
use Rattle.std.specs.List.{list_all}
use Rattle.std.proofs.lemmas.Bool.{or_from}
use Rattle.fy_kinds.specs.declared.kind.Kind.{Kind}
use Rattle.fy_kinds.specs.Kinds.{is_destroying, destroys_for_good}
use Rattle.fy_kinds.specs.declared.kind_set.KindSet.{KindSet}
use Rattle.fy_kinds.specs.declared.order.Target.{Target}
use Rattle.fy_grants.specs.declared.grant.Grant.{Grant}
use Rattle.fy_grants.specs.Rights.{Rights}
use Rattle.fy_decide.specs.DeadBook.{Losses}
use Rattle.fy_disk.specs.declared.item.Item.{Item}
use Rattle.fy_disk.specs.Disk.{Stored}
use Rattle.fy_net.specs.Net.{NetState}
use Rattle.fy_team.specs.Teams.{Roster, Team}
use Rattle.fy_acts.specs.declared.act.Act.{Act}
use Rattle.fy_acts.specs.declared.act.Act.TheVariants.{Deliver, Lose, Heal}
use Rattle.fy_acts.specs.declared.reply.Reply.{Reply}
use Rattle.fy_cluster.specs.declared.machine.Machine.{Machine}
use Rattle.std.specs.Ordering.{nat_cmp}
use Rattle.std.specs.FinSet as sets
use Rattle.fy_cluster.specs.Setup.{Setup}
use Rattle.fy_cluster.specs.History.{History, Step, BegunRecord, some_is, is_accepted, struck_by, delivers, loses, store_to, ack_of, is_stored, clogs, unclogs, forms, begins, syncs, ups, ticks, gives, takes_grant, protects, unprotects, Swap, replaces, heals, strikes, is_closing, closes, writes, destroyed, gone, up, unsynced, sent, removes_of, now, marks, delivers_ack_of, marked, marked_after, acked, members_for, after_swap, teams, records, clog_end, unclog_end, clog_ends}
use Rattle.fy_cluster.specs.Rules.{grants, is_protected, with_given, without_taken, changes}
use Rattle.fy_cluster.specs.Standing.{Refines, Point, step_at, following, RefinesDead, RefinesRights, RefinesDisks, RefinesUp, RefinesNet, RefinesTeams, stored}
use Rattle.fy_cluster.proofs.DiskSteps.{synced_else, unsynced_else, own}
use Rattle.fy_cluster.proofs.Flights.{flying_still}

-- ---- who is destroyed and who is up

pub dead_still : (c : Setup) (m : Step) (h : History) (book : Losses) → ((p : ℕ) → strikes m p ≡ None) → heals m.entry.act m.entry.reply ≡ None → RefinesDead c h book → RefinesDead c (m ∷ h) book
dead_still c m h book none unhealed k = record {
  processes = k.processes;
  policies = k.policies;
  few = k.few;
  destroyed = λ p. k.destroyed p ∙ sym (ap₂ (λ o q. some_is is_destroying o || not (some_is (λ q. q == p) q) && destroyed h p) (none p) unhealed);
  left = λ p. k.left p ∙ sym (ap (λ o. nat_lt p (length c.processes) && not (some_is destroys_for_good o || gone h p)) (none p));
}

pub up_still : (c : Setup) (m : Step) (h : History) (set : sets.FinSet nat_cmp) → ((p : ℕ) → strikes m p ≡ None) → ups m.entry.act m.entry.reply ≡ None → RefinesUp c h set → RefinesUp c (m ∷ h) set
up_still c m h set none idle k = record { each = λ p l. k.each p l ∙ sym (ap₂ (λ (o : Option ℕ) (s : Option Kind). some_is (λ q. q == p) o || (is_none s && up h p)) idle (none p)) }

-- ---- disks

abbrev pub disk_closes : Option ℕ → Option Kind → ℕ → Bool
disk_closes s k p = some_is (λ q. q == p) s || some_is is_closing k

no_own : (m : Step) (h : History) (p : ℕ) → writes m p ≡ None → own m h p ≡ []
no_own m h p e = rw e refl

-- an entry that neither closes nor writes leaves a disk
pub stored_still : (m : Step) (h : History) (p : ℕ) → closes p m ≡ false → writes m p ≡ None → stored (m ∷ h) p ≡ stored h p
stored_still m h p c w =
    ap₂ (λ (xs ys : List Item). record { synced = xs; unsynced = ys }) (synced_else m h p c) (unsynced_else m h p c ∙ ap (λ xs. unsynced h p ++ xs) (no_own m h p w) ∙ append-nil (unsynced h p))

pub disks_still : (c : Setup) (m : Step) (h : History) (disks : List Stored) → ((p : ℕ) → strikes m p ≡ None) → syncs m.entry.act m.entry.reply ≡ None → ((p : ℕ) → writes m p ≡ None) → RefinesDisks c h disks → RefinesDisks c (m ∷ h) disks
disks_still c m h disks none idle w k = record {
  count = k.count;
  each = λ p l. k.each p l ∙ ap Some (sym (stored_still m h p (ap₂ (λ s k. disk_closes s k p) idle (none p)) (w p)));
}

-- ---- the network

-- an entry that neither clogs nor unclogs leaves the ends of clogs
pub ends_still : (m : Step) (h : History) (p : ℕ) → clogs m.entry.act m.entry.reply ≡ None → unclogs m.entry.act m.entry.reply ≡ None → clog_ends (m ∷ h) p ≡ clog_ends h p
ends_still m h p no_clog no_end =
    ap₂ (λ (o : Option ℕ) (u : Option Target). if m.targets p then option_map_or (λ n. clog_end n (now h) (clog_ends h p)) o (if is_some u then unclog_end (now h) (clog_ends h p) else clog_ends h p) else clog_ends h p) no_clog no_end
    ∙ same (m.targets p)
  where
    same : (b : Bool) → (if b then clog_ends h p else clog_ends h p) ≡ clog_ends h p
    same true = refl
    same false = refl

-- an entry that neither sends nor takes out, clogs or unclogs leaves the messages; some ticks may
-- have passed
pub net_ticked : (c : Setup) (m : Step) (h : History) (net : NetState) → m.sends ≡ [] → ((n : ℕ) → m.removes n ≡ false) → clogs m.entry.act m.entry.reply ≡ None → unclogs m.entry.act m.entry.reply ≡ None
    → RefinesNet c h net → RefinesNet c (m ∷ h) (record net { clock = now (m ∷ h) })
net_ticked c m h net none keeps no_clog no_end k = record {
  in_flight = k.in_flight ∙ sym (flying_still m h none keeps);
  sent_so_far = k.sent_so_far ∙ sym same;
  clock = refl;
  count = k.count;
  ends = λ p l. k.ends p l ∙ sym (ends_still m h p no_clog no_end);
  early = λ n l. or_from _ _ (keeps n) (k.early n (let e = same in omega arith));
  few = let e = same in let few = k.few in omega arith;
}
  where
    same : length (sent (m ∷ h)) ≡ length (sent h)
    same = ap (λ xs. length (sent h ++ xs)) none ∙ ap length (append-nil (sent h))

pub net_still : (c : Setup) (m : Step) (h : History) (net : NetState) → m.sends ≡ [] → ((n : ℕ) → m.removes n ≡ false) → clogs m.entry.act m.entry.reply ≡ None → unclogs m.entry.act m.entry.reply ≡ None → ticks m.entry.act m.entry.reply ≡ None
    → RefinesNet c h net → RefinesNet c (m ∷ h) net
net_still c m h net none keeps no_clog no_end no_tick k = record {
  in_flight = same.in_flight;
  sent_so_far = same.sent_so_far;
  clock = k.clock ∙ sym (rw no_tick (omega arith));
  count = same.count;
  ends = same.ends;
  early = same.early;
  few = same.few;
}
  where
    same : RefinesNet c (m ∷ h) (record net { clock = now (m ∷ h) })
    same = net_ticked c m h net none keeps no_clog no_end k

-- ---- teams, and rights

pub or_nothing : (b : Bool) → (b || false) ≡ b
or_nothing true = refl
or_nothing false = refl

-- no process's mark is taken off
pub marks_kept : (m : Step) (h : History) (r p : ℕ) → heals m.entry.act m.entry.reply ≡ None → marks m r p ≡ false → marked (m ∷ h) r p ≡ marked h r p
marks_kept m h r p unhealed none = ap₂ (λ b q. b || not (some_is (λ q. q == p) q && not (acked h r)) && marked h r p) none unhealed

-- where nobody tells of a record, it is acknowledged as it was
pub acked_kept : (m : Step) (h : History) (r : ℕ) → delivers_ack_of m r ≡ false → acked (m ∷ h) r ≡ acked h r
acked_kept m h r silent = ap (λ b. acked h r || b && list_all (λ p. marked_after m r p.0 (acked h r) (marked h r p.0)) (members_for h r)) silent ∙ or_nothing (acked h r)

pub teams_still : (m : Step) (h : History) (roster : Roster) → forms m.entry.act m.entry.reply ≡ None → replaces m.entry.act m.entry.reply ≡ None → begins m.entry.act m.entry.reply ≡ None → heals m.entry.act m.entry.reply ≡ None
    → ((r p : ℕ) → marks m r p ≡ false) → ((r : ℕ) → delivers_ack_of m r ≡ false) → RefinesTeams h roster → RefinesTeams (m ∷ h) roster
teams_still m h roster no_team no_swap no_record unhealed no_mark silent k = record {
  teams = k.teams ∙ sym (ap₂ (λ s o. after_swap s (teams h) ++ option_to_list o) no_swap no_team ∙ append-nil (teams h));
  records = k.records ∙ sym (ap (λ o. records h ++ option_to_list o) no_record ∙ append-nil (records h));
  marks = λ r p. k.marks r p ∙ sym (marks_kept m h r p unhealed (no_mark r p));
  acked = λ r. k.acked r ∙ sym (acked_kept m h r (silent r));
}

pub rights_still : (c : Setup) (m : Step) (h : History) (rights : Rights) → gives m.entry.act m.entry.reply ≡ None → takes_grant m.entry.act m.entry.reply ≡ None → protects m.entry.act m.entry.reply ≡ None → unprotects m.entry.act m.entry.reply ≡ None
    → RefinesRights c h rights → RefinesRights c (m ∷ h) rights
rights_still c m h rights no_give no_take no_more no_less k = record {
  map = k.map;
  actors = k.actors;
  processes = k.processes;
  grants = λ a. k.grants a ∙ sym (ap₂ (λ t g. without_taken a t (with_given a g (grants c h a))) no_take no_give);
  protections = λ p deed. k.protections p deed ∙ sym (ap₂ (λ m l. changes p deed m || not (changes p deed l) && is_protected c h p deed) no_more no_less);
}

-- ---- the whole

-- all that an act does by its reply
pub record Doings : Type 0 where
  pub struck : Option Kind
  pub clogged_for : Option ℕ
  pub unclogged : Option Target
  pub formed : Option Team
  pub replaced : Option Swap
  pub begun : Option BegunRecord
  pub delivered : Option ℕ
  pub lost : Option ℕ
  pub synced_at : Option ℕ
  pub started : Option ℕ
  pub passed : Option ℕ
  pub given : Option Grant
  pub taken : Option (ℕ × ℕ)
  pub shielded : Option (ℕ × KindSet)
  pub unshielded : Option (ℕ × KindSet)
  pub healed : Option ℕ

abbrev pub doings : Act → Reply → Doings
doings act r = record {
  struck = struck_by act r;
  clogged_for = clogs act r;
  unclogged = unclogs act r;
  formed = forms act r;
  replaced = replaces act r;
  begun = begins act r;
  delivered = delivers act r;
  lost = loses act r;
  synced_at = syncs act r;
  started = ups act r;
  passed = ticks act r;
  given = gives act r;
  taken = takes_grant act r;
  shielded = protects act r;
  unshielded = unprotects act r;
  healed = heals act r;
}

-- nothing at all
abbrev pub nothing : Doings
nothing = record {
  struck = None;
  clogged_for = None;
  unclogged = None;
  formed = None;
  replaced = None;
  begun = None;
  delivered = None;
  lost = None;
  synced_at = None;
  started = None;
  passed = None;
  given = None;
  taken = None;
  shielded = None;
  unshielded = None;
  healed = None;
}

-- what it does to the network and the teams, and nothing else
abbrev pub traffic_alone : Act → Reply → Doings
traffic_alone act r = record nothing {
  clogged_for = clogs act r;
  unclogged = unclogs act r;
  formed = forms act r;
  replaced = replaces act r;
  begun = begins act r;
  delivered = delivers act r;
  lost = loses act r;
  passed = ticks act r;
}

-- what it does to clogs, and nothing else
abbrev pub clogs_alone : Act → Reply → Doings
clogs_alone act r = record nothing { clogged_for = clogs act r; unclogged = unclogs act r }

-- what it does to grants and protections, and nothing else
abbrev pub rights_alone : Act → Reply → Doings
rights_alone act r = record nothing { given = gives act r; taken = takes_grant act r; shielded = protects act r; unshielded = unprotects act r }

none_struck : (b : Bool) (o : Option Kind) → o ≡ None → (if b then o else None) ≡ None
none_struck true o e = e
none_struck false o e = refl

-- it strikes nobody
unstruck : (point : Point) (act : Act) (r : Reply) → struck_by act r ≡ None → (p : ℕ) → strikes (step_at point act r) p ≡ None
unstruck point act r e p = none_struck ((step_at point act r).targets p) (struck_by act r) e

-- it writes nothing
unwritten : (point : Point) (act : Act) (r : Reply) → delivers act r ≡ None → (p : ℕ) → writes (step_at point act r) p ≡ None
unwritten point act r e p = ap (λ o. if is_some o && is_stored r then option_and_then (store_to p) (step_at point act r).message else None) e

-- it marks nothing
unmarked : (point : Point) (act : Act) (r : Reply) → delivers act r ≡ None → (rec p : ℕ) → marks (step_at point act r) rec p ≡ false
unmarked point act r e rec p = ap (λ o. is_some o && some_is (λ w. w.0 == rec && w.1 == p) (option_and_then ack_of (step_at point act r).message)) e

-- it tells of nothing
untold : (point : Point) (act : Act) (r : Reply) → delivers act r ≡ None → (rec : ℕ) → delivers_ack_of (step_at point act r) rec ≡ false
untold point act r e rec = ap (λ o. is_some o && some_is (λ w. w.0 == rec) (option_and_then ack_of (step_at point act r).message)) e

nothing_taken : (b : Bool) → (if b then false else false) ≡ false
nothing_taken true = refl
nothing_taken false = refl

-- it takes no message out
pub untaken : (point : Point) (act : Act) (r : Reply) → delivers act r ≡ None → loses act r ≡ None → heals act r ≡ None → (n : ℕ) → (step_at point act r).removes n ≡ false
untaken point (Deliver message) r d l q n = at (is_accepted r) d
  where
    at : (b : Bool) → (if b then Some message else None) ≡ None → (if b then message == n else false) ≡ false
    at true e = absurd (cc)
    at false e = refl
untaken point (Lose message) r d l q n = at (is_accepted r) l
  where
    at : (b : Bool) → (if b then Some message else None) ≡ None → (if b then message == n else false) ≡ false
    at true e = absurd (cc)
    at false e = refl
untaken point (Heal process) r d l q n = at (is_accepted r) q
  where
    at : (b : Bool) → (if b then Some process.0 else None) ≡ None → (if b then removes_of point.before (Heal process) n else false) ≡ false
    at true e = absurd (cc)
    at false e = refl
untaken point _ r d l q n = nothing_taken (is_accepted r)

-- what neither delivers nor heals, and forms, replaces and begins nothing, leaves the teams
pub teams_idle : (point : Point) (act : Act) (r : Reply) (roster : Roster) → forms act r ≡ None → replaces act r ≡ None → begins act r ≡ None → delivers act r ≡ None → heals act r ≡ None
    → RefinesTeams point.before roster → RefinesTeams (following point act r) roster
teams_idle point act r roster no_team no_swap no_record undelivered unhealed k =
    teams_still (step_at point act r) point.before roster no_team no_swap no_record unhealed (unmarked point act r undelivered) (untold point act r undelivered) k

-- what writes nothing, and concerns no more than the network and the teams, leaves all else
pub only_traffic : (point : Point) (act : Act) (r : Reply) (machine : Machine) (net : NetState) (roster : Roster) → doings act r ≡ traffic_alone act r → ((p : ℕ) → writes (step_at point act r) p ≡ None)
    → Refines point.setup point.before machine → RefinesNet point.setup (following point act r) net → RefinesTeams (following point act r) roster
    → Refines point.setup (following point act r) (record machine { net = net; teams = roster })
only_traffic point act r machine net roster is unwritten k flows formed = record {
  dead = dead_still c m h machine.dead struck (ap (λ (d : Doings). d.healed) is) k.dead;
  rights = rights_still c m h machine.book (ap (λ (d : Doings). d.given) is) (ap (λ (d : Doings). d.taken) is) (ap (λ (d : Doings). d.shielded) is) (ap (λ (d : Doings). d.unshielded) is) k.rights;
  disks = disks_still c m h machine.disks struck (ap (λ (d : Doings). d.synced_at) is) unwritten k.disks;
  up = up_still c m h machine.up struck (ap (λ (d : Doings). d.started) is) k.up;
  net = flows;
  teams = formed;
}
  where
    c : Setup
    c = point.setup

    h : History
    h = point.before

    m : Step
    m = step_at point act r

    struck : (p : ℕ) → strikes m p ≡ None
    struck = unstruck point act r (ap (λ (d : Doings). d.struck) is)

-- what concerns no more than clogs leaves all but the network
pub only_clogs : (point : Point) (act : Act) (r : Reply) (machine : Machine) (net : NetState) → doings act r ≡ clogs_alone act r
    → Refines point.setup point.before machine → RefinesNet point.setup (following point act r) net → Refines point.setup (following point act r) (record machine { net = net })
only_clogs point act r machine net is k flows =
    only_traffic point act r machine net machine.teams
    (is ∙ sym (ap (λ (d : Doings). record nothing { clogged_for = d.clogged_for; unclogged = d.unclogged; formed = d.formed; replaced = d.replaced; begun = d.begun; delivered = d.delivered; lost = d.lost; passed = d.passed }) is))
    (unwritten point act r (ap (λ (d : Doings). d.delivered) is)) k flows
    (teams_idle point act r machine.teams (ap (λ (d : Doings). d.formed) is) (ap (λ (d : Doings). d.replaced) is) (ap (λ (d : Doings). d.begun) is) (ap (λ (d : Doings). d.delivered) is) (ap (λ (d : Doings). d.healed) is) k.teams)

-- what concerns no more than grants and protections leaves all else
pub only_rights : (point : Point) (act : Act) (r : Reply) (machine : Machine) (book : Rights) → doings act r ≡ rights_alone act r → (step_at point act r).sends ≡ []
    → Refines point.setup point.before machine → RefinesRights point.setup (following point act r) book
    → Refines point.setup (following point act r) (record machine { book = book })
only_rights point act r machine book is silent k held = record {
  dead = dead_still c m h machine.dead struck (ap (λ (d : Doings). d.healed) is) k.dead;
  rights = held;
  disks = disks_still c m h machine.disks struck (ap (λ (d : Doings). d.synced_at) is) (unwritten point act r (ap (λ (d : Doings). d.delivered) is)) k.disks;
  up = up_still c m h machine.up struck (ap (λ (d : Doings). d.started) is) k.up;
  net = net_still c m h machine.net silent (untaken point act r (ap (λ (d : Doings). d.delivered) is) (ap (λ (d : Doings). d.lost) is) (ap (λ (d : Doings). d.healed) is)) (ap (λ (d : Doings). d.clogged_for) is) (ap (λ (d : Doings). d.unclogged) is) (ap (λ (d : Doings). d.passed) is) k.net;
  teams = teams_idle point act r machine.teams (ap (λ (d : Doings). d.formed) is) (ap (λ (d : Doings). d.replaced) is) (ap (λ (d : Doings). d.begun) is) (ap (λ (d : Doings). d.delivered) is) (ap (λ (d : Doings). d.healed) is) k.teams;
}
  where
    c : Setup
    c = point.setup

    h : History
    h = point.before

    m : Step
    m = step_at point act r

    struck : (p : ℕ) → strikes m p ≡ None
    struck = unstruck point act r (ap (λ (d : Doings). d.struck) is)

-- what does nothing, and sends nothing, leaves all
pub unmoved : (point : Point) (act : Act) (r : Reply) (machine : Machine) → doings act r ≡ nothing → (step_at point act r).sends ≡ [] → Refines point.setup point.before machine → Refines point.setup (following point act r) machine
unmoved point act r machine is silent k =
    only_rights point act r machine machine.book (is ∙ sym rights_none) silent k
    (rights_still point.setup (step_at point act r) point.before machine.book (ap (λ (d : Doings). d.given) is) (ap (λ (d : Doings). d.taken) is) (ap (λ (d : Doings). d.shielded) is) (ap (λ (d : Doings). d.unshielded) is) k.rights)
  where
    rights_none : rights_alone act r ≡ nothing
    rights_none = ap (λ (d : Doings). record nothing { given = d.given; taken = d.taken; shielded = d.shielded; unshielded = d.unshielded }) is
