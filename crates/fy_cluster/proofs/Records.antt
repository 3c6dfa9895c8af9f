-- every acknowledged record is kept
use Rattle.std.proofs.Common.{◌≡◌, ◌↔◌, ℕ, zero, suc, ◌≤◌, ◌<◌, Bool, true, false, ◌&&◌, ◌||◌, not, List, [], ◌∷◌, ◌++◌, length, map, filter, find, Contains, Option, Some, None, is_some, refl, sym, ◌∙◌, ap, ap₂, subst, arith, inl, inr, ◌⊎◌, slice_get, slice_set, option_to_list, option_map, option_and_then, if◌then◌else◌, cond, zero-add, nat_lt, ◌==◌, lt-ltb, leb-false, eqb-true, eq-eqb}
use Rattle.std.proofs.lemmas.Bool.{false≢true, or_cases, or_left, or_right, or_parts, and_parts, not-false, not-true, not_from_false, cases_lt, and_from, both_ways, true_from_ne_false, false_from_ne_true}
use Rattle.std.proofs.lemmas.Option.{slice_get_within}
use Rattle.std.proofs.lemmas.List.Elements.{Contains-append_cases, Contains-append_right, Contains-push_cases, All-contains, All-from_recursion}
use Rattle.std.proofs.lemmas.List.Sums.{AllPass-from_list_all}
use Rattle.std.proofs.lemmas.List.Folds.{Any-from_list_any}
use Rattle.std.proofs.lemmas.List.FromFn.{length-range_with_len, get_or-range_with_len}
use Rattle.std.specs.List.{list_any, list_all, AllByRecursion, Any, range_with_len}
use Rattle.std.specs.Option.{option_map_or}
use Rattle.fy_locality.specs.declared.ProcId.{ProcId}
use Rattle.fy_disk.specs.declared.item.Item.{Item}
use Rattle.fy_net.specs.declared.message.Body.{Body}
use Rattle.fy_net.specs.declared.message.Body.TheVariants.{Store, Synced}
use Rattle.fy_policy.specs.Tree.{Tree}
use Rattle.fy_policy.specs.Sat.{Sat, satisfies}
use Rattle.fy_locality.specs.declared.locality.Locality.{Locality}
use Rattle.fy_net.specs.Net.{is_ack_from}
use Rattle.fy_kinds.specs.Kinds.{is_destroying}
use Rattle.fy_team.specs.Teams.{Team, is_among, swapped, IsFormed, AreFormed}
use Rattle.fy_acts.specs.declared.act.Act.{Act}
use Rattle.fy_acts.specs.declared.act.Act.TheVariants.{Form, Begin, Deliver, Lose, Resend, Sync, CopyTo, Replace, Heal}
use Rattle.fy_acts.specs.declared.reply.Reply.{Reply}
use Rattle.fy_acts.specs.declared.entry.Entry.{Entry}
use Rattle.fy_cluster.specs.Setup.{Setup}
use Rattle.fy_cluster.specs.History.{History, Step, BegunRecord, step_of, message_of, sends_of, is_accepted, if_accepted, some_is, forms, begins, delivers, destroys, destroyed, is_stored, store_to, writes, teams, records, members_of, members_for, payload_of, synced, unsynced, sent, in_flight, is_removed, removes_of, ack_of, marks, marked, marked_after, delivers_ack_of, acked, has_synced, struck_by, heals, heals_at, Swap, replaces, with_swap, after_swap, written_item, Fate, is_pending, is_durable, Write, write_after, items_with, new_write, writes_to}
use Rattle.fy_cluster.specs.Replies.{meets, no_process, policy_of, is_of_team, needed_by, refusals, reasons, IsNext}
use Rattle.fy_cluster.proofs.Strikes.{accepted}
use Rattle.fy_cluster.proofs.DiskSteps.{synced_still, synced_by}

-- ---- lists

pub slice_get-append : {X : Type 0} (xs ys : List X) (i : ℕ) (x : X) → slice_get xs i ≡ Some x → slice_get (xs ++ ys) i ≡ Some x
slice_get-append [] ys i x e = absurd (cc)
slice_get-append (y ∷ xs) ys zero x e = e
slice_get-append (y ∷ xs) ys (suc i) x e = slice_get-append xs ys i x e

pub slice_get-last : {X : Type 0} (xs : List X) (x : X) → slice_get (xs ++ x ∷ []) (length xs) ≡ Some x
slice_get-last [] x = refl
slice_get-last (y ∷ xs) x = slice_get-last xs x

pub slice_get-left : {X : Type 0} (xs ys : List X) (i : ℕ) → i < length xs → slice_get (xs ++ ys) i ≡ slice_get xs i
slice_get-left [] ys i l = absurd (omega (arith, l))
slice_get-left (x ∷ xs) ys zero l = refl
slice_get-left (x ∷ xs) ys (suc i) l = slice_get-left xs ys i (omega (arith, l))

pub slice_get-some : {X : Type 0} (xs : List X) (i : ℕ) → i < length xs → (x : X) × (slice_get xs i ≡ Some x)
slice_get-some [] i l = absurd (omega (arith, l))
slice_get-some (y ∷ xs) zero l = (y, refl)
slice_get-some (y ∷ xs) (suc i) l = slice_get-some xs i (omega (arith, l))

pub slice_get-each : {X : Type 0} (P : X → Type 0) (xs : List X) (i : ℕ) (x : X) → AllByRecursion P xs → slice_get xs i ≡ Some x → P x
slice_get-each P [] i x a e = absurd (cc)
slice_get-each P (y ∷ xs) zero x a e = let same : y ≡ x = cc in subst P same a.0
slice_get-each P (y ∷ xs) (suc i) x a e = slice_get-each P xs i x a.1 e

each-append : {X : Type 0} (P : X → Type 0) (xs ys : List X) → AllByRecursion P xs → AllByRecursion P ys → AllByRecursion P (xs ++ ys)
each-append P [] ys a b = b
each-append P (x ∷ xs) ys a b = (a.0, each-append P xs ys a.1 b)

each-weaker : {X : Type 0} (P Q : X → Type 0) → ((x : X) → P x → Q x) → (xs : List X) → AllByRecursion P xs → AllByRecursion Q xs
each-weaker P Q w [] a = tt
each-weaker P Q w (x ∷ xs) a = (w x a.0, each-weaker P Q w xs a.1)

each-map : {X Y : Type 0} (P : Y → Type 0) (f : X → Y) (xs : List X) → ((x : X) → Contains xs x → P (f x)) → AllByRecursion P (map f xs)
each-map P f [] w = tt
each-map P f (x ∷ xs) w = (w x (0, omega arith, refl), each-map P f xs (λ y i. w y (Contains-append_right (x ∷ []) xs y i)))

-- what lies behind the first list is in the second
each-right : {X : Type 0} (P : X → Type 0) (xs ys : List X) (i : ℕ) (x : X) → length xs ≤ i → AllByRecursion P ys → slice_get (xs ++ ys) i ≡ Some x → P x
each-right P [] ys i x l a e = slice_get-each P ys i x a e
each-right P (y ∷ xs) ys zero x l a e = absurd (omega (arith, l))
each-right P (y ∷ xs) ys (suc i) x l a e = each-right P xs ys i x (omega (arith, l)) a e

each_option : {X : Type 0} (P : X → Type 0) (o : Option X) → ((x : X) → o ≡ Some x → P x) → AllByRecursion P (option_to_list o)
each_option P None w = tt
each_option P (Some x) w = (w x refl, tt)

-- ---- what is kept about messages, writes and marks

-- the record was begun
abbrev pub Known : History → ℕ → Type 0
Known h r = (b : BegunRecord) × (slice_get (records h) r ≡ Some b)

abbrev pub record_of : Body → ℕ
record_of (Store r p) = r
record_of (Synced r p) = r

-- an item is of a record that was begun, with its payload
abbrev ItemGood : History → Item → Type 0
ItemGood h x = (b : BegunRecord) × (slice_get (records h) x.rec ≡ Some b) × (x.payload ≡ b.payload)

abbrev WritesKnown : History → Type 0
WritesKnown [] = Unit {0}
WritesKnown (m ∷ h) = ((p r : ℕ) → writes m p ≡ Some r → Known h r) × WritesKnown h

-- the process has the record synced, with the payload with which it was begun
abbrev pub Held : History → ℕ → ℕ → Type 0
Held h r p = (b : BegunRecord) × (slice_get (records h) r ≡ Some b) × Contains (synced h p) (record { rec = r; payload = b.payload })

-- it does, or it is destroyed
abbrev pub HasCopy : History → ℕ → ℕ → Type 0
HasCopy h r p = (destroyed h p ≡ true) ⊎ Held h r p

-- What every legal journal keeps. A heal takes words out of flight and marks away, so nothing is
-- said of words that were sent before, and of marks only while their record isn't acknowledged; of
-- an acknowledged record each member of the team has its copy, or is destroyed.
pub record Sound (c : Setup) (h : History) : Type 0 where
  pub sent_known : AllByRecursion (λ b. Known h (record_of b)) (sent h)
  pub known : WritesKnown h
  pub messages_in_flight : (n r : ℕ) (p : ProcId) → in_flight h n ≡ true → slice_get (sent h) n ≡ Some (Synced r p) → HasCopy h r p.0
  pub by_mark : (r p : ℕ) → acked h r ≡ false → marked h r p ≡ true → HasCopy h r p
  pub by_ack : (r : ℕ) (p : ProcId) → acked h r ≡ true → Contains (members_for h r) p → HasCopy h r p.0
  pub ack_known : (r : ℕ) → acked h r ≡ true → Known h r
  pub formed : AreFormed c.processes c.policies (teams h)
  pub joined : AllByRecursion (λ b. (t : Team) × (slice_get (teams h) b.team ≡ Some t)) (records h)

-- ---- one entry more

pub records_still : (m : Step) (h : History) (r : ℕ) (b : BegunRecord) → slice_get (records h) r ≡ Some b → slice_get (records (m ∷ h)) r ≡ Some b
records_still m h r b e = slice_get-append (records h) (option_to_list (begins m.entry.act m.entry.reply)) r b e

pub known_still : (m : Step) (h : History) (r : ℕ) → Known h r → Known (m ∷ h) r
known_still m h r k = (k.0, records_still m h r k.0 k.1)

held_still : (m : Step) (h : History) (r p : ℕ) → destroys m p ≡ false → Held h r p → Held (m ∷ h) r p
held_still m h r p d g = (g.0, records_still m h r g.0 g.1, synced_still m h p d (record { rec = r; payload = g.0.payload }) g.2)

destroyed_still : (m : Step) (h : History) (p : ℕ) → heals_at m p ≡ false → destroyed h p ≡ true → destroyed (m ∷ h) p ≡ true
destroyed_still m h p n d = or_right (destroys m p) _ (and_from _ _ (not_from_false _ n) d)

-- a copy stays, or its process is destroyed, unless it is healed
copy_still : (m : Step) (h : History) (r p : ℕ) → heals_at m p ≡ false → HasCopy h r p → HasCopy (m ∷ h) r p
copy_still m h r p n g = at (destroys m p) refl g
  where
    at : (d : Bool) → destroys m p ≡ d → HasCopy h r p → HasCopy (m ∷ h) r p
    at true d o = inl (or_left (destroys m p) _ d)
    at false d (inl e) = inl (destroyed_still m h p n e)
    at false d (inr i) = inr (held_still m h r p d i)

item_still : (m : Step) (h : History) (x : Item) → ItemGood h x → ItemGood (m ∷ h) x
item_still m h x g = (g.0, records_still m h x.rec g.0 g.1, g.2)

-- ---- what an accepted reply tells

accepted_value : {X : Type 0} (r : Reply) (x y : X) → if_accepted r x ≡ Some y → (is_accepted r ≡ true) × (x ≡ y)
accepted_value r x y e = at (is_accepted r) e
  where
    at : (b : Bool) → (if b then Some x else None) ≡ Some y → (b ≡ true) × (x ≡ y)
    at true e = (refl, cc)
    at false e = absurd (cc)

forms_is : (act : Act) (r : Reply) (t : Team) → forms act r ≡ Some t → (act ≡ Form t.members t.policy) × (is_accepted r ≡ true)
forms_is (Form members policy) r t e = let v = accepted_value r (record { members = members; policy = policy }) t e in (ap (λ (x : Team). Form x.members x.policy) v.1, v.0)
forms_is _ r t e = absurd (cc)

begins_is : (act : Act) (r : Reply) (b : BegunRecord) → begins act r ≡ Some b → (act ≡ Begin b.team b.payload) × (is_accepted r ≡ true)
begins_is (Begin team payload) r b e = let v = accepted_value r (record { team = team; payload = payload }) b e in (ap (λ (x : BegunRecord). Begin x.team x.payload) v.1, v.0)
begins_is _ r b e = absurd (cc)

delivers_is : (act : Act) (r : Reply) → is_some (delivers act r) ≡ true → (n : ℕ) × (act ≡ Deliver n) × (is_accepted r ≡ true)
delivers_is (Deliver n) r s = (n, refl, at (is_accepted r) s)
  where
    at : (b : Bool) → is_some (if b then Some n else None) ≡ true → b ≡ true
    at true s = refl
    at false s = s
delivers_is _ r s = absurd (false≢true s)

replaces_is : (act : Act) (r : Reply) (s : Swap) → replaces act r ≡ Some s → (act ≡ Replace s.team s.out s.into) × (is_accepted r ≡ true)
replaces_is (Replace team out into) r s e = let v = accepted_value r (record { team = team; out = out; into = into }) s e in (ap (λ (x : Swap). Replace x.team x.out x.into) v.1, v.0)
replaces_is _ r s e = absurd (cc)

heals_is : (act : Act) (r : Reply) (p : ℕ) → some_is (λ q. q == p) (heals act r) ≡ true → (q : ProcId) × (act ≡ Heal q) × (q.0 ≡ p) × (is_accepted r ≡ true)
heals_is (Heal q) r p e = at (is_accepted r) refl e
  where
    at : (b : Bool) → is_accepted r ≡ b → some_is (λ k. k == p) (if b then Some q.0 else None) ≡ true → (k : ProcId) × (Heal q ≡ Heal k) × (k.0 ≡ p) × (is_accepted r ≡ true)
    at true ok e = (q, refl, eqb-true q.0 p e, ok)
    at false ok e = absurd (false≢true e)
heals_is _ r p e = absurd (false≢true e)

heals_not_deliver : (act : Act) (r : Reply) (p : ℕ) → is_some (delivers act r) ≡ true → some_is (λ q. q == p) (heals act r) ≡ false
heals_not_deliver (Deliver n) r p s = refl
heals_not_deliver _ r p s = absurd (false≢true s)

deliver_no_swap : (act : Act) (r : Reply) (s : Swap) → is_some (delivers act r) ≡ true → replaces act r ≡ Some s → ⊥
deliver_no_swap (Deliver n) r s d e = absurd (cc)
deliver_no_swap _ r s d e = absurd (false≢true d)

-- no reason stood against the act of an accepted entry
clear : (c : Setup) (h : History) (e : Entry) → IsNext c h e → is_accepted e.reply ≡ true → (act : Act) → e.act ≡ act → AllByRecursion (λ t. t.0 ≡ false) (refusals c h act)
unfolding reasons
clear c h e next ok act is = subst (λ a. AllByRecursion (λ t. t.0 ≡ false) (refusals c h a)) is (accepted c h e next ok).0.1.1

abbrev pub Tested : Type 0
Tested = (processes : List Locality) (policy : Tree) (s : ℕ → Bool) → (satisfies processes policy s ≡ true) ↔ Sat processes policy s

all_there : (c : Setup) (members : List ProcId) → list_any (λ p. no_process c p.0) members ≡ false → AllByRecursion (λ p. p.0 < length c.processes) members
all_there c [] n = tt
all_there c (p ∷ members) n = let both = or_parts (no_process c p.0) _ n in (leb-false (length c.processes) p.0 both.0, all_there c members both.1)

formed_by : Tested → (c : Setup) (t : Team) → AllByRecursion (λ p. p.0 < length c.processes) t.members → meets c t.policy (is_among t.members) ≡ true → IsFormed c.processes c.policies t
formed_by tested c t there m = at (slice_get c.policies t.policy) refl m
  where
    at : (o : Option Tree) → slice_get c.policies t.policy ≡ o → option_map_or (λ P. satisfies c.processes P (is_among t.members)) o false ≡ true → IsFormed c.processes c.policies t
    at None e m = absurd (false≢true m)
    at (Some P) e m = record { need = P; named = e; known = All-from_recursion _ t.members there; satisfied = (tested c.processes P (is_among t.members)).0 m }

-- a team is formed only of processes that are there and meet its policy
form_met : Tested → (c : Setup) (h : History) (e : Entry) → IsNext c h e → (t : Team) → forms e.act e.reply ≡ Some t → IsFormed c.processes c.policies t
unfolding refusals
form_met tested c h e next t f =
    let is = forms_is e.act e.reply t f in
    let at_form = clear c h e next is.1 (Form t.members t.policy) is.0 in
    formed_by tested c t (all_there c t.members at_form.1.1.0) (not-false _ at_form.1.1.1.1.0)

-- a record is begun only of a team that is there
begin_joined : (c : Setup) (h : History) (e : Entry) → IsNext c h e → (b : BegunRecord) → begins e.act e.reply ≡ Some b → (t : Team) × (slice_get (teams h) b.team ≡ Some t)
unfolding refusals
begin_joined c h e next b f =
    let is = begins_is e.act e.reply b f in
    let at_begin = clear c h e next is.1 (Begin b.team b.payload) is.0 in
    slice_get-some (teams h) b.team (leb-false (length (teams h)) b.team at_begin.0)

-- what is delivered was in flight
delivered : (c : Setup) (h : History) (e : Entry) → IsNext c h e → is_some (delivers e.act e.reply) ≡ true → (b : Body) → message_of h e.act ≡ Some b → (n : ℕ) × (in_flight h n ≡ true) × (slice_get (sent h) n ≡ Some b)
unfolding refusals
delivered c h e next s b w =
    let is = delivers_is e.act e.reply s in
    let at_deliver = clear c h e next is.2 (Deliver is.0) is.1 in
    (is.0, not-false _ at_deliver.0, sym (ap (message_of h) is.1) ∙ w)

-- a record is sent once more only where it was begun
resend_known : (c : Setup) (h : History) (e : Entry) → IsNext c h e → is_accepted e.reply ≡ true → (rec : ℕ) (process : ProcId) → e.act ≡ Resend rec process → Known h rec
unfolding refusals
resend_known c h e next ok rec process is =
    slice_get-some (records h) rec (leb-false (length (records h)) rec (clear c h e next ok (Resend rec process) is).0)

-- so is a copy of it made
copy_known : (c : Setup) (h : History) (e : Entry) → IsNext c h e → is_accepted e.reply ≡ true → (from : ProcId) (rec : ℕ) (to : ProcId) → e.act ≡ CopyTo from rec to → Known h rec
unfolding refusals
copy_known c h e next ok from rec to is =
    slice_get-some (records h) rec (leb-false (length (records h)) rec (clear c h e next ok (CopyTo from rec to) is).0)

-- ---- what was written is of records that were begun

-- the message that an act names was sent
message_good : (Q : Body → Type 0) (h : History) (act : Act) (b : Body) → AllByRecursion Q (sent h) → message_of h act ≡ Some b → Q b
message_good Q h (Deliver n) b a e = slice_get-each Q (sent h) n b a e
message_good Q h (Lose n) b a e = slice_get-each Q (sent h) n b a e
message_good Q h _ b a e = absurd (cc)

and_then_some : {X Y : Type 0} (f : X → Option Y) (o : Option X) (y : Y) → option_and_then f o ≡ Some y → (x : X) × (o ≡ Some x) × (f x ≡ Some y)
and_then_some f None y e = absurd (cc)
and_then_some f (Some x) y e = (x, refl, e)

store_known : (h : History) (p r : ℕ) (b : Body) → Known h (record_of b) → store_to p b ≡ Some r → Known h r
store_known h p r (Store q to) g s = into (to.0 == p) s
  where
    into : (t : Bool) → (if t then Some q else None) ≡ Some r → Known h r
    into true s = let same : q ≡ r = cc in subst (Known h) same g
    into false s = absurd (cc)
store_known h p r (Synced q from) g s = absurd (cc)

write_known : (c : Setup) (h : History) (e : Entry) → AllByRecursion (λ b. Known h (record_of b)) (sent h) → (p r : ℕ) → writes (step_of c h e) p ≡ Some r → Known h r
write_known c h e a p r w = at (is_some (delivers e.act e.reply) && is_stored e.reply) w
  where
    at : (b : Bool) → (if b then option_and_then (store_to p) (message_of h e.act) else None) ≡ Some r → Known h r
    at true s = let found = and_then_some (store_to p) (message_of h e.act) r s in store_known h p r found.0 (message_good (λ b. Known h (record_of b)) h e.act found.0 a found.1) found.2
    at false s = absurd (cc)

pub payload_known : (h : History) (r : ℕ) (b : BegunRecord) → slice_get (records h) r ≡ Some b → payload_of h r ≡ b.payload
payload_known h r b e = rw e refl

cons_cases : {X : Type 0} (y : X) (ys : List X) (x : X) → Contains (y ∷ ys) x → (y ≡ x) ⊎ Contains ys x
cons_cases y ys x i = elim (Contains-append_cases (y ∷ []) ys x i) [
  | inl a ↦ elim (Contains-push_cases [] y x a) [ inl n ↦ absurd (omega (arith, n.1)) | inr e ↦ inl e ]
  | inr a ↦ inr a
]

-- each item written by one of the writes is good
items_in : (Q : Item → Type 0) (f : Fate → Bool) (ws : List Write) → AllByRecursion (λ w. Q w.item) ws → (x : Item) → Contains (items_with f ws) x → Q x
items_in Q f [] a x i = absurd (omega (arith, i.1))
items_in Q f (w ∷ ws) a x i = at (items_in Q f ws a.1 x) (f w.fate) i
  where
    rest : List Write
    rest = filter (λ w. f w.fate) ws

    at : (Contains (items_with f ws) x → Q x) → (b : Bool) → Contains (map (λ (w : Write). w.item) (cond b (w ∷ rest) rest)) x → Q x
    at more true i = elim (cons_cases w.item (items_with f ws) x i) [ inl same ↦ subst Q same a.0 | inr k ↦ more k ]
    at more false i = more i

aged_good : (Q R : Item → Type 0) → ((x : Item) → Q x → R x) → (p : ℕ) (m : Step) (ws : List Write) → AllByRecursion (λ w. Q w.item) ws → AllByRecursion (λ w. R w.item) (map (write_after p m) ws)
aged_good Q R more p m [] a = tt
aged_good Q R more p m (w ∷ ws) a = (more w.item a.0, aged_good Q R more p m ws a.1)

own_good : (h : History) (count : ℕ) (o : Option ℕ) → ((r : ℕ) → o ≡ Some r → Known h r) → AllByRecursion (λ (w : Write). ItemGood h w.item) (option_to_list (option_map (new_write count) (written_item h o)))
own_good h count None w = tt
own_good h count (Some r) w = let k = w r refl in ((k.0, k.1, payload_known h r k.0 k.1), tt)

writes_good : (h : History) (p : ℕ) → WritesKnown h → AllByRecursion (λ (w : Write). ItemGood h w.item) (writes_to h p)
writes_good [] p k = tt
writes_good (m ∷ h) p k =
    each-append (λ (w : Write). ItemGood (m ∷ h) w.item) _ _
    (aged_good (ItemGood h) (ItemGood (m ∷ h)) (item_still m h) p m (writes_to h p) (writes_good h p k.1))
    (each-weaker (λ (w : Write). ItemGood h w.item) (λ (w : Write). ItemGood (m ∷ h) w.item) (λ w. item_still m h w.item) _ (own_good h (length (items_with is_pending (writes_to h p))) (writes m p) (k.0 p)))

-- so each item on a disk is good
items_good : (f : Fate → Bool) (h : History) (p : ℕ) (x : Item) → WritesKnown h → Contains (items_with f (writes_to h p)) x → ItemGood h x
items_good f h p x k i = items_in (ItemGood h) f (writes_to h p) (writes_good h p k) x i

-- ---- what one entry sends

-- each message that is sent is of a record that was begun
sends_known : (c : Setup) (h : History) (at by : ℕ) (act : Act) (r : Reply) → IsNext c h (record { at = at; by = by; act = act; reply = r }) → Sound c h → is_accepted r ≡ true
    → AllByRecursion (λ b. Known (step_of c h (record { at = at; by = by; act = act; reply = r }) ∷ h) (record_of b)) (sends_of h act)
sends_known c h at by (Begin team payload) r next sound ok =
    each-map _ (λ p. Store (length (records h)) p) (members_of h team) (λ p i. (record { team = team; payload = payload }, rw ok (slice_get-last (records h) (record { team = team; payload = payload }))))
sends_known c h at by (Resend rec process) r next sound ok =
    let e : Entry = record { at = at; by = by; act = Resend rec process; reply = r } in
    (known_still (step_of c h e) h rec (resend_known c h e next ok rec process refl), tt)
sends_known c h at by (CopyTo from rec to) r next sound ok =
    let e : Entry = record { at = at; by = by; act = CopyTo from rec to; reply = r } in
    (known_still (step_of c h e) h rec (copy_known c h e next ok from rec to refl), tt)
sends_known c h at by (Sync process) r next sound ok =
    let e : Entry = record { at = at; by = by; act = Sync process; reply = r } in
    each-map _ (λ item. Synced item.rec process) (unsynced h process.0) (λ x i.
    let g = items_good is_pending h process.0 x sound.known i in
    known_still (step_of c h e) h x.rec (g.0, g.1))
sends_known c h at by _ r next sound ok = tt

abbrev WordHeld : History → Body → Type 0
WordHeld h (Store r p) = Unit {0}
WordHeld h (Synced r p) = Held h r p.0

-- and each word is of what its sender now has synced
sends_held : (c : Setup) (h : History) (at by : ℕ) (act : Act) (r : Reply) → Sound c h → is_accepted r ≡ true
    → AllByRecursion (WordHeld (step_of c h (record { at = at; by = by; act = act; reply = r }) ∷ h)) (sends_of h act)
sends_held c h at by (Begin team payload) r sound ok = each-map _ (λ p. Store (length (records h)) p) (members_of h team) (λ p i. tt)
sends_held c h at by (Resend rec process) r sound ok = (tt, tt)
sends_held c h at by (CopyTo from rec to) r sound ok = (tt, tt)
sends_held c h at by (Sync process) r sound ok =
    let e : Entry = record { at = at; by = by; act = Sync process; reply = r } in
    each-map _ (λ item. Synced item.rec process) (unsynced h process.0) (λ x i.
    let g = items_good is_pending h process.0 x sound.known i in (
      g.0,
      records_still (step_of c h e) h x.rec g.0 g.1,
      (let kept = synced_by (step_of c h e) h process.0 (rw ok (eq-eqb process.0 process.0 refl)) x i in rw g.2 at kept),
    ))
sends_held c h at by _ r sound ok = tt

sent_all : (P : Body → Type 0) (e : Entry) (bodies : List Body) → (is_accepted e.reply ≡ true → AllByRecursion P bodies) → AllByRecursion P (if is_accepted e.reply then bodies else [])
sent_all P e bodies w = at (is_accepted e.reply) refl
  where
    at : (b : Bool) → is_accepted e.reply ≡ b → AllByRecursion P (if b then bodies else [])
    at true ok = w ok
    at false refused = tt

-- ---- words in flight

-- a word that stays in flight is of no process that is healed
other_ack : (p : ProcId) (q r : ℕ) (o : Option Body) → o ≡ Some (Synced r p) → some_is (is_ack_from q) o ≡ false → (q == p.0) ≡ false
other_ack p q r o e f = false_from_ne_true _ (λ same. both_ways _ (sym (ap (some_is (is_ack_from q)) e) ∙ f) (eq-eqb p.0 q (sym (eqb-true q p.0 same))))

not_healed : (h : History) (act : Act) (reply : Reply) (n r : ℕ) (p : ProcId) → (if is_accepted reply then removes_of h act n else false) ≡ false → slice_get (sent h) n ≡ Some (Synced r p) → some_is (λ q. q == p.0) (heals act reply) ≡ false
not_healed h (Heal q) reply n r p f w = at (is_accepted reply) f
  where
    at : (b : Bool) → (if b then some_is (is_ack_from q.0) (slice_get (sent h) n) else false) ≡ false → some_is (λ k. k == p.0) (if b then Some q.0 else None) ≡ false
    at true f = other_ack p q.0 r (slice_get (sent h) n) w f
    at false f = refl
not_healed h _ reply n r p f w = refl

flying_next : (c : Setup) (h : History) (e : Entry) → IsNext c h e → Sound c h → (n r : ℕ) (p : ProcId) → in_flight (step_of c h e ∷ h) n ≡ true → slice_get (sent (step_of c h e ∷ h)) n ≡ Some (Synced r p) → HasCopy (step_of c h e ∷ h) r p.0
flying_next c h e next sound n r p f w = at (cases_lt n (length (sent h)))
  where
    at : (n < length (sent h)) ⊎ (length (sent h) ≤ n) → HasCopy (step_of c h e ∷ h) r p.0
    at (inl l) =
        let m : Step = step_of c h e in
        let was : slice_get (sent h) n ≡ Some (Synced r p) = sym (slice_get-left (sent h) m.sends n l) ∙ w in
        let inside : not (m.removes n || is_removed h n) ≡ true = (and_parts (nat_lt n (length (sent (m ∷ h)))) _ f).1 in
        let stays = or_parts (m.removes n) (is_removed h n) (not-true _ inside) in
        let before : in_flight h n ≡ true = and_from _ _ (lt-ltb n (length (sent h)) l) (not_from_false _ stays.1) in
        copy_still m h r p.0 (not_healed h e.act e.reply n r p stays.0 was) (sound.messages_in_flight n r p before was)
    at (inr l) = inr (each-right (WordHeld (step_of c h e ∷ h)) (sent h) _ n (Synced r p) l
        (sent_all (WordHeld (step_of c h e ∷ h)) e (sends_of h e.act) (λ ok. sends_held c h e.at e.by e.act e.reply sound ok)) w)

-- ---- marks

same_proc : (p q : ProcId) → p.0 ≡ q.0 → p ≡ q
same_proc p q e = ap (λ n. record { 0 = n }) e

-- who says that it has a record synced
ack_is : (r p : ℕ) (b : Body) → some_is (λ w. w.0 == r && w.1 == p) (ack_of b) ≡ true → b ≡ Synced r (record { 0 = p })
ack_is r p (Store q to) w = absurd (false≢true w)
ack_is r p (Synced q from) w =
    let both = and_parts (q == r) (from.0 == p) w in
    ap₂ Synced (eqb-true q r both.0) (same_proc from (record { 0 = p }) (eqb-true from.0 p both.1))

ack_found : (r p : ℕ) (o : Option Body) → some_is (λ w. w.0 == r && w.1 == p) (option_and_then ack_of o) ≡ true → (b : Body) × (o ≡ Some b) × (b ≡ Synced r (record { 0 = p }))
ack_found r p None s = absurd (false≢true s)
ack_found r p (Some b) s = (b, refl, ack_is r p b s)

-- the sender of a word that is delivered has a copy
mark_copy : (c : Setup) (h : History) (e : Entry) → IsNext c h e → Sound c h → (r p : ℕ) → marks (step_of c h e) r p ≡ true → HasCopy h r p
mark_copy c h e next sound r p s =
    let parts = and_parts (is_some (delivers e.act e.reply)) _ s in
    let found = ack_found r p (message_of h e.act) parts.1 in
    let there = delivered c h e next parts.0 found.0 found.1 in
    sound.messages_in_flight there.0 r (record { 0 = p }) there.1 (there.2 ∙ ap (λ x. Some x) found.2)

-- so has whoever has a mark for a record that isn't acknowledged
by_mark_next : (c : Setup) (h : History) (e : Entry) → IsNext c h e → Sound c h → (r p : ℕ) → acked (step_of c h e ∷ h) r ≡ false → marked (step_of c h e ∷ h) r p ≡ true → HasCopy (step_of c h e ∷ h) r p
by_mark_next c h e next sound r p a s =
    let m : Step = step_of c h e in
    let was : acked h r ≡ false = (or_parts (acked h r) _ a).0 in
    elim (or_cases (marks m r p) _ s) [
      | inl k ↦ copy_still m h r p (heals_not_deliver e.act e.reply p (and_parts (is_some (delivers e.act e.reply)) _ k).0) (mark_copy c h e next sound r p k)
      | inr k ↦
          let both = and_parts (not (heals_at m p && not (acked h r))) (marked h r p) k in
          copy_still m h r p (no_heal (heals_at m p) (acked h r) was (not-true _ both.0)) (sound.by_mark r p was both.1)
    ]
  where
    no_heal : (x y : Bool) → y ≡ false → (x && not y) ≡ false → x ≡ false
    no_heal false y f g = refl
    no_heal true y f g = absurd (both_ways _ g (not_from_false y f))

-- ---- teams that change

pub all_false : {X : Type 0} (f : X → Bool) (xs : List X) → list_any f xs ≡ false → AllByRecursion (λ y. f y ≡ false) xs
all_false f [] e = tt
all_false f (x ∷ xs) e = let both = or_parts (f x) (list_any f xs) e in (both.0, all_false f xs both.1)

pub any_at : {X : Type 0} (f : X → Bool) (xs : List X) (x : X) → Contains xs x → f x ≡ true → list_any f xs ≡ true
any_at f xs x i t = true_from_ne_false _ (λ none. both_ways (f x) (All-contains (λ y. f y ≡ false) xs x (All-from_recursion (λ y. f y ≡ false) xs (all_false f xs none)) i) t)

in_more : {X : Type 0} (y : X) (ys : List X) (x : X) → Contains ys x → Contains (y ∷ ys) x
in_more y ys x i = Contains-append_right (y ∷ []) ys x i

filter_from : {X : Type 0} (f : X → Bool) (xs : List X) (x : X) → Contains (filter f xs) x → Contains xs x
filter_from f [] x i = i
filter_from f (y ∷ ys) x i = at (filter_from f ys x) (f y) i
  where
    at : (Contains (filter f ys) x → Contains ys x) → (b : Bool) → Contains (cond b (y ∷ filter f ys) (filter f ys)) x → Contains (y ∷ ys) x
    at more true i = elim (cons_cases y (filter f ys) x i) [ inl e ↦ (0, omega arith, e) | inr a ↦ in_more y ys x (more a) ]
    at more false i = in_more y ys x (more i)

-- who is in a team after a swap has come, or was in it
swapped_from : (out into : ProcId) (members : List ProcId) (x : ProcId) → Contains (swapped out into members) x → (into ≡ x) ⊎ Contains members x
swapped_from out into members x i =
    let staying : List ProcId = filter (λ p. not (p.0 == out.0)) members in
    let below : List ProcId = filter (λ p. nat_lt p.0 into.0) staying in
    let above : List ProcId = filter (λ p. nat_lt into.0 p.0) staying in
    let was : Contains staying x → Contains members x = λ k. filter_from (λ p. not (p.0 == out.0)) members x k in
    elim (Contains-append_cases below (into ∷ above) x i) [
      | inl a ↦ inr (was (filter_from (λ p. nat_lt p.0 into.0) staying x a))
      | inr a ↦ elim (cons_cases into above x a) [ inl e ↦ inl e | inr k ↦ inr (was (filter_from (λ p. nat_lt into.0 p.0) staying x k)) ]
    ]

each_contained : {X : Type 0} (P : X → Type 0) (xs : List X) → ((x : X) → Contains xs x → P x) → AllByRecursion P xs
each_contained P [] w = tt
each_contained P (x ∷ xs) w = (w x (0, omega arith, refl), each_contained P xs (λ y i. w y (in_more x xs y i)))

each_set : {X : Type 0} (P : X → Type 0) (xs : List X) (i : ℕ) (y : X) → AllByRecursion P xs → P y → AllByRecursion P (slice_set xs i y)
each_set P [] i y a w = tt
each_set P (x ∷ xs) zero y a w = (w, a.1)
each_set P (x ∷ xs) (suc i) y a w = (a.0, each_set P xs i y a.1 w)

slice_get-set : {X : Type 0} (xs : List X) (i : ℕ) (y : X) (j : ℕ) (x : X) → slice_get xs j ≡ Some x → (slice_get (slice_set xs i y) j ≡ Some x) ⊎ ((j ≡ i) × (slice_get (slice_set xs i y) j ≡ Some y))
slice_get-set [] i y j x e = absurd (cc)
slice_get-set (z ∷ xs) zero y zero x e = inr (refl, refl)
slice_get-set (z ∷ xs) zero y (suc j) x e = inl e
slice_get-set (z ∷ xs) (suc i) y zero x e = inl e
slice_get-set (z ∷ xs) (suc i) y (suc j) x e = elim (slice_get-set xs i y j x e) [ inl a ↦ inl a | inr a ↦ inr (ap suc a.0, a.1) ]

-- a team as it is among later ones: who is in it was in it, or has come by the swap
record Later (swap : Option Swap) (now : List Team) (i : ℕ) (t : Team) : Type 0 where
  team : Team
  there : slice_get now i ≡ Some team
  from : (p : ProcId) → Contains team.members p → Contains t.members p ⊎ ((s : Swap) × (swap ≡ Some s) × (i ≡ s.team) × (s.into ≡ p))

same_some : {X : Type 0} (x y : X) → Some x ≡ Some y → x ≡ y
same_some x y e = cc

later_at : (s : Swap) (ts : List Team) (o : Option Team) (i : ℕ) (t : Team) → slice_get ts s.team ≡ o → slice_get ts i ≡ Some t
    → Later (Some s) (option_map_or (λ team. slice_set ts s.team (with_swap s team)) o ts) i t
later_at s ts None i t f e = record { team = t; there = e; from = λ p k. inl k }
later_at s ts (Some u) i t f e = elim (slice_get-set ts s.team (with_swap s u) i t e) [
  | inl a ↦ record { team = t; there = a; from = λ p k. inl k }
  | inr a ↦
      let same : u ≡ t = same_some u t (sym f ∙ ap (slice_get ts) (sym a.0) ∙ e) in
      record {
        team = with_swap s u;
        there = a.1;
        from = λ p k. elim (swapped_from s.out s.into u.members p k) [ inl q ↦ inr (s, refl, a.0, q) | inr q ↦ inl (subst (λ (v : Team). Contains v.members p) same q) ];
      }
]

later_team : (swap : Option Swap) (ts : List Team) (i : ℕ) (t : Team) → slice_get ts i ≡ Some t → Later swap (after_swap swap ts) i t
later_team None ts i t e = record { team = t; there = e; from = λ p k. inl k }
later_team (Some s) ts i t e = later_at s ts (slice_get ts s.team) i t refl e

each_swapped : (P : Team → Type 0) (s : Swap) (ts : List Team) → AllByRecursion P ts → ((t : Team) → slice_get ts s.team ≡ Some t → P (with_swap s t)) → AllByRecursion P (after_swap (Some s) ts)
each_swapped P s ts a w = at (slice_get ts s.team) refl
  where
    at : (o : Option Team) → slice_get ts s.team ≡ o → AllByRecursion P (option_map_or (λ team. slice_set ts s.team (with_swap s team)) o ts)
    at None f = a
    at (Some t) f = each_set P ts s.team (with_swap s t) a (w t f)

-- a team that changes meets its policy
swap_meets : (c : Setup) (h : History) (s : Swap) (t : Team) → slice_get (teams h) s.team ≡ Some t → meets c (policy_of h s.team) (is_among (swapped s.out s.into (members_of h s.team))) ≡ true → meets c t.policy (is_among (swapped s.out s.into t.members)) ≡ true
swap_meets c h s t i kept = rw i at kept

swap_formed : Tested → (c : Setup) (h : History) (e : Entry) → IsNext c h e → Sound c h → (s : Swap) → replaces e.act e.reply ≡ Some s → (t : Team) → slice_get (teams h) s.team ≡ Some t → IsFormed c.processes c.policies (with_swap s t)
unfolding refusals
swap_formed tested c h e next sound s f t i =
    let is = replaces_is e.act e.reply s f in
    let at_replace = clear c h e next is.1 (Replace s.team s.out s.into) is.0 in
    let was = slice_get-each (IsFormed c.processes c.policies) (teams h) s.team t sound.formed i in
    let into : s.into.0 < length c.processes = leb-false (length c.processes) s.into.0 at_replace.1.0 in
    let there : (p : ProcId) → Contains (swapped s.out s.into t.members) p → p.0 < length c.processes =
    λ p k. elim (swapped_from s.out s.into t.members p k) [
      | inl q ↦ subst (λ (r : ProcId). r.0 < length c.processes) q into
      | inr q ↦ All-contains (λ p. p.0 < length c.processes) t.members p was.known q
    ] in
    formed_by tested c (with_swap s t) (each_contained (λ p. p.0 < length c.processes) (swapped s.out s.into t.members) there) (swap_meets c h s t i (not-false _ at_replace.1.1.1.1.1.0))

formed_next : Tested → (c : Setup) (h : History) (e : Entry) → IsNext c h e → Sound c h → AllByRecursion (IsFormed c.processes c.policies) (after_swap (replaces e.act e.reply) (teams h))
formed_next tested c h e next sound = at (replaces e.act e.reply) refl
  where
    at : (o : Option Swap) → replaces e.act e.reply ≡ o → AllByRecursion (IsFormed c.processes c.policies) (after_swap o (teams h))
    at None f = sound.formed
    at (Some s) f = each_swapped (IsFormed c.processes c.policies) s (teams h) sound.formed (λ t i. swap_formed tested c h e next sound s f t i)

-- ---- what nobody needs any more

find_some : {X : Type 0} (f : X → Bool) (xs : List X) → list_any f xs ≡ true → is_some (find f xs) ≡ true
find_some f [] a = absurd (false≢true a)
find_some f (x ∷ xs) a = at (find_some f xs) (f x) a
  where
    at : (list_any f xs ≡ true → is_some (find f xs) ≡ true) → (b : Bool) → (b || list_any f xs) ≡ true → is_some (cond b (Some x) (find f xs)) ≡ true
    at more true a = refl
    at more false a = more a

-- who needs no record has each acknowledged one that passes
none_needed : (h : History) (p : ℕ) (test : ℕ → Bool) → is_some (needed_by h p test) ≡ false → (r : ℕ) → r < length (records h) → acked h r ≡ true → test r ≡ true → has_synced h r p ≡ true
none_needed h p test n r l a t =
    let f : ℕ → Bool = λ r. acked h r && test r && not (has_synced h r p) in
    let xs : List ℕ = range_with_len 0 (length (records h)) in
    let never : list_any f xs ≡ false = false_from_ne_true _ (λ y. both_ways _ n (find_some f xs y)) in
    let within : r < length xs = rw (length-range_with_len 0 (length (records h))) l in
    let there : Contains xs r = (r, within, get_or-range_with_len 0 (length (records h)) r r l ∙ zero-add r) in
    let at_r : f r ≡ false = All-contains (λ y. f y ≡ false) xs r (All-from_recursion (λ y. f y ≡ false) xs (all_false f xs never)) there in
    has_from (acked h r) (test r) (has_synced h r p) a t at_r
  where
    has_from : (a t s : Bool) → a ≡ true → t ≡ true → (a && t && not s) ≡ false → s ≡ true
    has_from true true s a t f = not-false s f
    has_from true false s a t f = absurd (false≢true t)
    has_from false t' s a t f = absurd (false≢true a)

-- who has a record synced holds it as it was begun
held_from : (h : History) (r p : ℕ) → WritesKnown h → has_synced h r p ≡ true → Held h r p
held_from h r p known s = at (Any-from_list_any (λ x. x.rec == r) (synced h p) s)
  where
    same_item : (x : Item) (b : BegunRecord) → x.rec ≡ r → x.payload ≡ b.payload → x ≡ record { rec = r; payload = b.payload }
    same_item x b e f = ap₂ (λ n bs. record { rec = n; payload = bs }) e f

    at : Any (λ x. (x.rec == r) ≡ true) (synced h p) → Held h r p
    at a =
        let x : Item = a.1 in
        let member : Contains (synced h p) x = (a.0, a.2, a.3) in
        let g = items_good is_durable h p x known member in
        let e : x.rec ≡ r = eqb-true x.rec r a.4 in
        (g.0, subst (λ n. slice_get (records h) n ≡ Some g.0) e g.1, subst (Contains (synced h p)) (same_item x g.0 e g.2) member)

-- ---- acknowledged records

pub team_known : (h : History) (r : ℕ) (b : BegunRecord) (t : Team) → slice_get (records h) r ≡ Some b → slice_get (teams h) b.team ≡ Some t → members_for h r ≡ t.members
team_known h r b t e f = rw (e, f) refl

-- who is in the record's team after an entry was in it, or has come in another's place
team_next : (c : Setup) (h : History) (e : Entry) (r : ℕ) (b : BegunRecord) (t : Team) → slice_get (records h) r ≡ Some b → slice_get (teams h) b.team ≡ Some t → (p : ProcId) → Contains (members_for (step_of c h e ∷ h) r) p
    → Contains (members_for h r) p ⊎ ((s : Swap) × (replaces e.act e.reply ≡ Some s) × (b.team ≡ s.team) × (s.into ≡ p))
team_next c h e r b t rb bt p i =
    let m : Step = step_of c h e in
    let later = later_team (replaces e.act e.reply) (teams h) b.team t bt in
    let there : slice_get (teams (m ∷ h)) b.team ≡ Some later.team = slice_get-append (after_swap (replaces e.act e.reply) (teams h)) (option_to_list (forms e.act e.reply)) b.team later.team later.there in
    let now : Contains later.team.members p = subst (λ ps. Contains ps p) (team_known (m ∷ h) r b later.team (records_still m h r b rb) there) i in
    elim (later.from p now) [
      | inl a ↦ inl (subst (λ ps. Contains ps p) (sym (team_known h r b t rb bt)) a)
      | inr a ↦ inr a
    ]

heal_strikes_none : (m : Step) (p q : ℕ) → heals_at m p ≡ true → destroys m q ≡ false
heal_strikes_none m p q s = at m.entry.act m.entry.reply (m.targets q) s
  where
    at : (act : Act) (r : Reply) (b : Bool) → some_is (λ k. k == p) (heals act r) ≡ true → some_is is_destroying (if b then struck_by act r else None) ≡ false
    at (Heal k) r true s = refl
    at (Heal k) r false s = refl
    at _ r b s = absurd (false≢true s)

swap_strikes_none : (m : Step) (s : Swap) (q : ℕ) → replaces m.entry.act m.entry.reply ≡ Some s → destroys m q ≡ false
swap_strikes_none m s q e = at m.entry.act m.entry.reply (m.targets q) e
  where
    at : (act : Act) (r : Reply) (b : Bool) → replaces act r ≡ Some s → some_is is_destroying (if b then struck_by act r else None) ≡ false
    at (Replace team out into) r true e = refl
    at (Replace team out into) r false e = refl
    at _ r b e = absurd (cc)

team_has : (b : BegunRecord) (o : Option BegunRecord) (team : ℕ) → o ≡ Some b → b.team ≡ team → some_is (λ x. x.team == team) o ≡ true
team_has b o team e f = rw e (eq-eqb b.team team f)

-- who is healed has each acknowledged record of its teams
healed_has : (c : Setup) (h : History) (e : Entry) → IsNext c h e → (r p : ℕ) → heals_at (step_of c h e) p ≡ true → r < length (records h) → acked h r ≡ true → is_among (members_for h r) p ≡ true → has_synced h r p ≡ true
unfolding refusals
healed_has c h e next r p y within a member =
    let is = heals_is e.act e.reply p y in
    let at_heal = clear c h e next is.3 (Heal is.0) is.1 in
    let mine : is_among (members_for h r) is.0.0 ≡ true = subst (λ q. is_among (members_for h r) q ≡ true) (sym is.2) member in
    subst (λ q. has_synced h r q ≡ true) is.2 (none_needed h is.0.0 (λ r. is_among (members_for h r) is.0.0) at_heal.1.1.1.1.0 r within a mine)

-- who comes into a team has each acknowledged record of it
swapped_has : (c : Setup) (h : History) (e : Entry) → IsNext c h e → (r : ℕ) (s : Swap) → replaces e.act e.reply ≡ Some s → r < length (records h) → acked h r ≡ true → is_of_team h s.team r ≡ true → has_synced h r s.into.0 ≡ true
unfolding refusals
swapped_has c h e next r s f within a of_it =
    let is = replaces_is e.act e.reply s f in
    let at_replace = clear c h e next is.1 (Replace s.team s.out s.into) is.0 in
    none_needed h s.into.0 (is_of_team h s.team) at_replace.1.1.1.1.1.1.0 r within a of_it

-- what stays of a record that was acknowledged before
ack_still : (c : Setup) (h : History) (e : Entry) → IsNext c h e → Sound c h → (r : ℕ) (p : ProcId) → acked h r ≡ true → Contains (members_for (step_of c h e ∷ h) r) p → HasCopy (step_of c h e ∷ h) r p.0
ack_still c h e next sound r p a i = from (team_next c h e r b.0 t.0 b.1 t.1 p i)
  where
    b : Known h r
    b = sound.ack_known r a

    t : (t : Team) × (slice_get (teams h) b.0.team ≡ Some t)
    t = slice_get-each (λ b. (t : Team) × (slice_get (teams h) b.team ≡ Some t)) (records h) r b.0 sound.joined b.1

    within : r < length (records h)
    within = slice_get_within (records h) r b.0 b.1

    member : Contains (members_for h r) p → HasCopy (step_of c h e ∷ h) r p.0
    member k = at (heals_at (step_of c h e) p.0) refl
      where
        at : (x : Bool) → heals_at (step_of c h e) p.0 ≡ x → HasCopy (step_of c h e ∷ h) r p.0
        at false n = copy_still (step_of c h e) h r p.0 n (sound.by_ack r p a k)
        at true y =
            let has = healed_has c h e next r p.0 y within a (any_at (λ q. q.0 == p.0) (members_for h r) p k (eq-eqb p.0 p.0 refl)) in
            inr (held_still (step_of c h e) h r p.0 (heal_strikes_none (step_of c h e) p.0 p.0 y) (held_from h r p.0 sound.known has))

    from : Contains (members_for h r) p ⊎ ((s : Swap) × (replaces e.act e.reply ≡ Some s) × (b.0.team ≡ s.team) × (s.into ≡ p)) → HasCopy (step_of c h e ∷ h) r p.0
    from (inl k) = member k
    from (inr k) =
        let s : Swap = k.0 in
        let has = swapped_has c h e next r s k.1 within a (team_has b.0 (slice_get (records h) r) s.team b.1 k.2) in
        let held : HasCopy (step_of c h e ∷ h) r s.into.0 = inr (held_still (step_of c h e) h r s.into.0 (swap_strikes_none (step_of c h e) s s.into.0 k.1) (held_from h r s.into.0 sound.known has)) in
        subst (λ (q : ProcId). HasCopy (step_of c h e ∷ h) r q.0) k.3 held

-- a word of which an entry tells is of a record that was begun
told_of : (r : ℕ) (b : Body) → some_is (λ w. w.0 == r) (ack_of b) ≡ true → record_of b ≡ r
told_of r (Store q to) w = absurd (false≢true w)
told_of r (Synced q from) w = eqb-true q r w

told_found : (r : ℕ) (o : Option Body) → some_is (λ w. w.0 == r) (option_and_then ack_of o) ≡ true → (b : Body) × (o ≡ Some b) × (record_of b ≡ r)
told_found r None s = absurd (false≢true s)
told_found r (Some b) s = (b, refl, told_of r b s)

pub tells_known : (c : Setup) (h : History) (e : Entry) → Sound c h → (r : ℕ) → delivers_ack_of (step_of c h e) r ≡ true → Known h r
tells_known c h e sound r s =
    let parts = and_parts (is_some (delivers e.act e.reply)) _ s in
    let found = told_found r (message_of h e.act) parts.1 in
    subst (Known h) found.2 (message_good (λ b. Known h (record_of b)) h e.act found.0 sound.sent_known found.1)

-- and of one that this entry makes acknowledged
ack_first : (c : Setup) (h : History) (e : Entry) → IsNext c h e → Sound c h → (r : ℕ) (p : ProcId) → acked h r ≡ false → delivers_ack_of (step_of c h e) r ≡ true
    → list_all (λ q. marked_after (step_of c h e) r q.0 (acked h r) (marked h r q.0)) (members_for h r) ≡ true → Contains (members_for (step_of c h e ∷ h) r) p → HasCopy (step_of c h e ∷ h) r p.0
ack_first c h e next sound r p was s all i =
    let m : Step = step_of c h e in
    let parts = and_parts (is_some (delivers e.act e.reply)) _ s in
    let b = tells_known c h e sound r s in
    let t = slice_get-each (λ b. (t : Team) × (slice_get (teams h) b.team ≡ Some t)) (records h) r b.0 sound.joined b.1 in
    let member : Contains (members_for h r) p = elim (team_next c h e r b.0 t.0 b.1 t.1 p i) [ inl k ↦ k | inr k ↦ absurd (deliver_no_swap e.act e.reply k.0 parts.0 k.1) ] in
    let mark : marked_after m r p.0 (acked h r) (marked h r p.0) ≡ true = All-contains (λ q. marked_after m r q.0 (acked h r) (marked h r q.0) ≡ true) (members_for h r) p (AllPass-from_list_all (λ q. marked_after m r q.0 (acked h r) (marked h r q.0)) (members_for h r) all) member in
    copy_still m h r p.0 (heals_not_deliver e.act e.reply p.0 parts.0)
    (elim (or_cases (marks m r p.0) _ mark) [
      | inl k ↦ mark_copy c h e next sound r p.0 k
      | inr k ↦ sound.by_mark r p.0 was (and_parts (not (heals_at m p.0 && not (acked h r))) (marked h r p.0) k).1
    ])

by_ack_next : (c : Setup) (h : History) (e : Entry) → IsNext c h e → Sound c h → (r : ℕ) (p : ProcId) → acked (step_of c h e ∷ h) r ≡ true → Contains (members_for (step_of c h e ∷ h) r) p → HasCopy (step_of c h e ∷ h) r p.0
by_ack_next c h e next sound r p a i = at (acked h r) refl
  where
    at : (x : Bool) → acked h r ≡ x → HasCopy (step_of c h e ∷ h) r p.0
    at true was = ack_still c h e next sound r p was i
    at false was =
        let told : (delivers_ack_of (step_of c h e) r && list_all (λ q. marked_after (step_of c h e) r q.0 (acked h r) (marked h r q.0)) (members_for h r)) ≡ true =
        elim (or_cases (acked h r) _ a) [ inl k ↦ absurd (both_ways _ was k) | inr k ↦ k ] in
        let both = and_parts (delivers_ack_of (step_of c h e) r) _ told in
        ack_first c h e next sound r p was both.0 both.1 i

ack_known_next : (c : Setup) (h : History) (e : Entry) → Sound c h → (r : ℕ) → acked (step_of c h e ∷ h) r ≡ true → Known (step_of c h e ∷ h) r
ack_known_next c h e sound r a = elim (or_cases (acked h r) _ a) [
  | inl k ↦ known_still (step_of c h e) h r (sound.ack_known r k)
  | inr k ↦ known_still (step_of c h e) h r (tells_known c h e sound r (and_parts (delivers_ack_of (step_of c h e) r) _ k).0)
]

-- ---- one entry more keeps it all

pub sound_next : Tested → (c : Setup) (h : History) (e : Entry) → IsNext c h e → Sound c h → Sound c (step_of c h e ∷ h)
sound_next tested c h e next sound =
    let m : Step = step_of c h e in
    let joined_still : (b : BegunRecord) → (t : Team) × (slice_get (teams h) b.team ≡ Some t) → (t : Team) × (slice_get (teams (m ∷ h)) b.team ≡ Some t) =
    λ b k. let l = later_team (replaces e.act e.reply) (teams h) b.team k.0 k.1 in (l.team, slice_get-append (after_swap (replaces e.act e.reply) (teams h)) (option_to_list (forms e.act e.reply)) b.team l.team l.there) in
    record {
      sent_known = each-append (λ b. Known (m ∷ h) (record_of b)) (sent h) m.sends (each-weaker (λ b. Known h (record_of b)) (λ b. Known (m ∷ h) (record_of b)) (λ b k. known_still m h (record_of b) k) (sent h) sound.sent_known)
          (sent_all (λ b. Known (m ∷ h) (record_of b)) e (sends_of h e.act) (λ ok. sends_known c h e.at e.by e.act e.reply next sound ok));
      known = (λ p r w. write_known c h e sound.sent_known p r w, sound.known);
      messages_in_flight = flying_next c h e next sound;
      by_mark = by_mark_next c h e next sound;
      by_ack = by_ack_next c h e next sound;
      ack_known = ack_known_next c h e sound;
      formed = each-append (IsFormed c.processes c.policies) (after_swap (replaces e.act e.reply) (teams h)) (option_to_list (forms e.act e.reply)) (formed_next tested c h e next sound) (each_option _ (forms e.act e.reply) (form_met tested c h e next));
      joined = each-append (λ b. (t : Team) × (slice_get (teams (m ∷ h)) b.team ≡ Some t)) (records h) (option_to_list (begins e.act e.reply))
          (each-weaker _ _ joined_still (records h) sound.joined)
          (each_option _ (begins e.act e.reply) (λ b f. joined_still b (begin_joined c h e next b f)));
    }

pub sound_start : (c : Setup) → Sound c []
sound_start c = record {
  sent_known = tt;
  known = tt;
  messages_in_flight = λ n r p f w. absurd (cc);
  by_mark = λ r p a s. absurd (false≢true s);
  by_ack = λ r p a i. absurd (false≢true a);
  ack_known = λ r a. absurd (false≢true a);
  formed = tt;
  joined = tt;
}
