-- A disk's lists after one entry more, as the code keeps them: the bridge from writes with their
-- fates to running lists.
use Rattle.std.proofs.Common.{◌≡◌, ℕ, ◌+◌, Bool, true, false, cond, ◌&&◌, ◌||◌, not, List, [], ◌∷◌, ◌++◌, length, map, filter, Contains, Option, Some, None, is_some, refl, sym, ◌∙◌, ap, ap₂, subst, arith, option_to_list, option_map, if◌then◌else◌, append-nil, append_assoc, ◌==◌}
use Rattle.std.proofs.lemmas.Bool.{false≢true, true≢false, false_from_ne_true, or_left, or_right}
use Rattle.std.proofs.lemmas.List.{map-append}
use Rattle.std.proofs.lemmas.List.Elements.{Contains-append_left, Contains-append_right}
use Rattle.std.specs.Prelude.{option_and_then}
use Rattle.std.specs.List.{AllByRecursion}
use Rattle.fy_kinds.specs.declared.kind.Kind.{Kind}
use Rattle.fy_kinds.specs.declared.kind.Kind.TheVariants.{RebootProcess, Reboot, RebootAndDelete, KillInstantly}
use Rattle.fy_kinds.specs.Kinds.{is_destroying}
use Rattle.fy_acts.specs.declared.act.Act.{Act}
use Rattle.fy_acts.specs.declared.act.Act.TheVariants.{Deliver, Sync}
use Rattle.fy_acts.specs.declared.reply.Reply.{Reply}
use Rattle.fy_disk.specs.declared.item.Item.{Item}
use Rattle.fy_disk.specs.Disk.{filter_by_place, outlives}
use Rattle.fy_cluster.specs.History.{History, Step, some_is, struck_by, syncs, syncs_at, strikes, destroys, is_closing, closes, close_keeps, tear_of, delivers, is_stored, store_to, writes, written_item, payload_of, Fate, is_pending, is_durable, fate_after, Write, write_after, items_with, new_write, writes_after, writes_to, synced, unsynced}

-- ---- what closes

-- What destroys a process closes its writes.
pub destroys_closes : (p : ℕ) (m : Step) → destroys m p ≡ true → closes p m ≡ true
destroys_closes p m d = or_right (syncs_at m p) _ (kind (strikes m p) d)
  where
    kind : (o : Option Kind) → some_is is_destroying o ≡ true → some_is is_closing o ≡ true
    kind None d = d
    kind (Some KillInstantly) d = refl
    kind (Some RebootAndDelete) d = refl
    kind (Some Reboot) d = refl
    kind (Some RebootProcess) d = d

-- A Sync strikes nobody.
pub sync_strikes_none : (m : Step) (p : ℕ) → syncs_at m p ≡ true → destroys m p ≡ false
sync_strikes_none m p s = at m.entry.act m.entry.reply (m.targets p) s
  where
    at : (act : Act) (r : Reply) (b : Bool) → some_is (λ q. q == p) (syncs act r) ≡ true → some_is is_destroying (if b then struck_by act r else None) ≡ false
    at (Sync q) r true s = refl
    at (Sync q) r false s = refl
    at _ r b s = absurd (false≢true s)

-- What the entry itself wrote.
abbrev pub own : Step → History → ℕ → List Item
own m h p = option_to_list (option_map (λ rec. record { rec = rec; payload = payload_of h rec }) (writes m p))

-- An entry that closes writes nothing.
pub closer_writes_none : (m : Step) (p : ℕ) → closes p m ≡ true → writes m p ≡ None
closer_writes_none m p c = at m.entry.act m.entry.reply (m.targets p) c
  where
    at : (act : Act) (r : Reply) (b : Bool) → (some_is (λ q. q == p) (syncs act r) || some_is is_closing (if b then struck_by act r else None)) ≡ true
        → (if is_some (delivers act r) && is_stored r then option_and_then (store_to p) m.message else None) ≡ None
    at (Deliver n) r true e = absurd (false≢true e)
    at (Deliver n) r false e = absurd (false≢true e)
    at _ r b e = refl

-- ---- lists of writes

pub items_with-cons : (f : Fate → Bool) (w : Write) (ws : List Write) → items_with f (w ∷ ws) ≡ cond (f w.fate) (w.item ∷ items_with f ws) (items_with f ws)
items_with-cons f w ws = at (f w.fate)
  where
    rest : List Write
    rest = filter (λ w. f w.fate) ws

    at : (b : Bool) → map (λ (w : Write). w.item) (cond b (w ∷ rest) rest) ≡ cond b (w.item ∷ items_with f ws) (items_with f ws)
    at true = refl
    at false = refl

pub items_with-append : (f : Fate → Bool) (xs ys : List Write) → items_with f (xs ++ ys) ≡ items_with f xs ++ items_with f ys
items_with-append f [] ys = refl
items_with-append f (x ∷ xs) ys =
    items_with-cons f x (xs ++ ys) ∙ at (f x.fate) (items_with-append f xs ys) ∙ ap (λ l. l ++ items_with f ys) (sym (items_with-cons f x xs))
  where
    at : (b : Bool) → items_with f (xs ++ ys) ≡ items_with f xs ++ items_with f ys
        → cond b (x.item ∷ items_with f (xs ++ ys)) (items_with f (xs ++ ys)) ≡ cond b (x.item ∷ items_with f xs) (items_with f xs) ++ items_with f ys
    at true e = ap (λ l. x.item ∷ l) e
    at false e = e

-- None of the writes passes.
items_with-none : (f : Fate → Bool) (ws : List Write) → AllByRecursion (λ w. f w.fate ≡ false) ws → items_with f ws ≡ []
items_with-none f [] a = refl
items_with-none f (w ∷ ws) a = items_with-cons f w ws ∙ ap₂ (λ (b : Bool) (l : List Item). cond b (w.item ∷ l) l) a.0 (items_with-none f ws a.1)

-- Pending writes, numbered from a number on.
abbrev numbered_from : ℕ → List Item → List Write
numbered_from k [] = []
numbered_from k (x ∷ xs) = new_write k x ∷ numbered_from (k + 1) xs

numbered_pending : (k : ℕ) (xs : List Item) → items_with is_pending (numbered_from k xs) ≡ xs
numbered_pending k [] = refl
numbered_pending k (x ∷ xs) = ap (λ l. x ∷ l) (numbered_pending (k + 1) xs)

numbered_durable : (k : ℕ) (xs : List Item) → items_with is_durable (numbered_from k xs) ≡ []
numbered_durable k [] = refl
numbered_durable k (x ∷ xs) = numbered_durable (k + 1) xs

numbered_last : (k : ℕ) (xs : List Item) (x : Item) → numbered_from k (xs ++ x ∷ []) ≡ numbered_from k xs ++ new_write (k + length xs) x ∷ []
numbered_last k [] x = ap (λ n. new_write n x ∷ []) (let e : k ≡ k + 0 = omega arith in e)
numbered_last k (y ∷ xs) x = ap (λ l. new_write k y ∷ l) (numbered_last (k + 1) xs x ∙ ap (λ n. numbered_from (k + 1) xs ++ new_write n x ∷ []) (let e : k + 1 + length xs ≡ k + length (y ∷ xs) = omega arith in e))

-- What the entry wrote is pending.
new_pending : (k : ℕ) (o : Option Item) → items_with is_pending (option_to_list (option_map (new_write k) o)) ≡ option_to_list o
new_pending k None = refl
new_pending k (Some x) = refl

new_durable : (k : ℕ) (o : Option Item) → items_with is_durable (option_to_list (option_map (new_write k) o)) ≡ []
new_durable k None = refl
new_durable k (Some x) = refl

-- ---- fates after one entry more

-- The writes with what has become of them after the entry.
abbrev aged : ℕ → Step → List Write → List Write
aged p m ws = map (write_after p m) ws

spared : (p : ℕ) (m : Step) → closes p m ≡ false → destroys m p ≡ false
spared p m c = false_from_ne_true _ (λ d. true≢false (sym (destroys_closes p m d) ∙ c))

same_fate : (p : ℕ) (m : Step) → closes p m ≡ false → (f : Fate) → fate_after p m f ≡ f
same_fate p m c (Fate.pending i) = ap (λ b. if b then (if close_keeps p i m then Fate.durable else Fate.lost) else Fate.pending i) c
same_fate p m c Fate.durable = ap (λ b. if b then Fate.lost else Fate.durable) (spared p m c)
same_fate p m c Fate.lost = refl

-- An entry that doesn't close leaves each write.
aged_same : (p : ℕ) (m : Step) → closes p m ≡ false → (ws : List Write) → aged p m ws ≡ ws
aged_same p m c [] = refl
aged_same p m c (w ∷ ws) = ap₂ (λ (f : Fate) (rest : List Write). record { item = w.item; fate = f } ∷ rest) (same_fate p m c w.fate) (aged_same p m c ws)

settled_fate : (p : ℕ) (m : Step) → closes p m ≡ true → (f : Fate) → is_pending (fate_after p m f) ≡ false
settled_fate p m c (Fate.pending i) = ap (λ b. is_pending (if b then (if close_keeps p i m then Fate.durable else Fate.lost) else Fate.pending i)) c ∙ at (close_keeps p i m)
  where
    at : (b : Bool) → is_pending (if b then Fate.durable else Fate.lost) ≡ false
    at true = refl
    at false = refl
settled_fate p m c Fate.durable = at (destroys m p)
  where
    at : (b : Bool) → is_pending (if b then Fate.lost else Fate.durable) ≡ false
    at true = refl
    at false = refl
settled_fate p m c Fate.lost = refl

-- One that closes leaves none pending.
settled : (p : ℕ) (m : Step) → closes p m ≡ true → (ws : List Write) → AllByRecursion (λ w. is_pending w.fate ≡ false) (aged p m ws)
settled p m c [] = tt
settled p m c (w ∷ ws) = (settled_fate p m c w.fate, settled p m c ws)

-- A strike that destroys leaves none durable.
lost_fate : (p : ℕ) (m : Step) → destroys m p ≡ true → (f : Fate) → is_durable (fate_after p m f) ≡ false
lost_fate p m d (Fate.pending i) =
    ap (λ b. is_durable (if b then (if close_keeps p i m then Fate.durable else Fate.lost) else Fate.pending i)) (destroys_closes p m d)
    ∙ ap₂ (λ s b. is_durable (if s || not b && outlives (tear_of m.entry.act) i then Fate.durable else Fate.lost)) (false_from_ne_true _ (λ s. true≢false (sym d ∙ sync_strikes_none m p s))) d
lost_fate p m d Fate.durable = ap (λ b. is_durable (if b then Fate.lost else Fate.durable)) d
lost_fate p m d Fate.lost = refl

all_lost : (p : ℕ) (m : Step) → destroys m p ≡ true → (ws : List Write) → AllByRecursion (λ w. is_durable w.fate ≡ false) (aged p m ws)
all_lost p m d [] = tt
all_lost p m d (w ∷ ws) = (lost_fate p m d w.fate, all_lost p m d ws)

-- Any other entry leaves a settled write.
settled_stays : (p : ℕ) (m : Step) → destroys m p ≡ false → (f : Fate) → is_pending f ≡ false → is_durable (fate_after p m f) ≡ is_durable f
settled_stays p m d (Fate.pending i) s = absurd (true≢false s)
settled_stays p m d Fate.durable s = ap (λ b. is_durable (if b then Fate.lost else Fate.durable)) d
settled_stays p m d Fate.lost s = refl

durable_stay : (p : ℕ) (m : Step) → destroys m p ≡ false → (ws : List Write) → AllByRecursion (λ w. is_pending w.fate ≡ false) ws → items_with is_durable (aged p m ws) ≡ items_with is_durable ws
durable_stay p m d [] a = refl
durable_stay p m d (w ∷ ws) a =
    items_with-cons is_durable (write_after p m w) (aged p m ws)
    ∙ ap₂ (λ (b : Bool) (l : List Item). cond b (w.item ∷ l) l) (settled_stays p m d w.fate a.0) (durable_stay p m d ws a.1)
    ∙ sym (items_with-cons is_durable w ws)

-- Of the pending writes an entry that closes keeps those that it says.
kept_fate : (p : ℕ) (m : Step) → closes p m ≡ true → (i : ℕ) → is_durable (fate_after p m (Fate.pending i)) ≡ close_keeps p i m
kept_fate p m c i = ap (λ b. is_durable (if b then (if close_keeps p i m then Fate.durable else Fate.lost) else Fate.pending i)) c ∙ at (close_keeps p i m)
  where
    at : (b : Bool) → is_durable (if b then Fate.durable else Fate.lost) ≡ b
    at true = refl
    at false = refl

kept_numbered : (p : ℕ) (m : Step) → closes p m ≡ true → (k : ℕ) (xs : List Item) → items_with is_durable (aged p m (numbered_from k xs)) ≡ filter_by_place (λ i. close_keeps p i m) k xs
kept_numbered p m c k [] = refl
kept_numbered p m c k (x ∷ xs) =
    items_with-cons is_durable (record { item = x; fate = fate_after p m (Fate.pending k) }) (aged p m (numbered_from (k + 1) xs))
    ∙ ap₂ (λ (b : Bool) (l : List Item). cond b (x ∷ l) l) (kept_fate p m c k) (kept_numbered p m c (k + 1) xs)

-- ---- the pending writes stand behind the others, numbered from 0

record InOrder (ws : List Write) : Type 0 where
  front : List Write
  rest : List Item
  split : ws ≡ front ++ numbered_from 0 rest
  none_pending : AllByRecursion (λ w. is_pending w.fate ≡ false) front

pending_of : (ws : List Write) (o : InOrder ws) → items_with is_pending ws ≡ o.rest
pending_of ws o =
    ap (items_with is_pending) o.split ∙ items_with-append is_pending o.front (numbered_from 0 o.rest)
    ∙ ap₂ (λ (xs ys : List Item). xs ++ ys) (items_with-none is_pending o.front o.none_pending) (numbered_pending 0 o.rest)

durable_of : (ws : List Write) (o : InOrder ws) → items_with is_durable ws ≡ items_with is_durable o.front
durable_of ws o =
    ap (items_with is_durable) o.split ∙ items_with-append is_durable o.front (numbered_from 0 o.rest)
    ∙ ap (λ xs. items_with is_durable o.front ++ xs) (numbered_durable 0 o.rest)
    ∙ append-nil (items_with is_durable o.front)

-- what an entry that closes, and so writes nothing, makes of the writes
after_close : (p : ℕ) (m : Step) (o : Option Item) (ws : List Write) → o ≡ None → writes_after p m o ws ≡ aged p m ws
after_close p m o ws e = ap (λ (i : Option Item). aged p m ws ++ option_to_list (option_map (new_write (length (items_with is_pending ws))) i)) e ∙ append-nil (aged p m ws)

order_closed : (p : ℕ) (m : Step) (o : Option Item) (ws : List Write) → closes p m ≡ true → o ≡ None → InOrder (writes_after p m o ws)
order_closed p m o ws c e = record {
  front = aged p m ws;
  rest = [];
  split = after_close p m o ws e ∙ sym (append-nil (aged p m ws));
  none_pending = settled p m c ws;
}

order_else : (p : ℕ) (m : Step) (o : Option Item) (ws : List Write) → closes p m ≡ false → InOrder ws → InOrder (writes_after p m o ws)
order_else p m None ws c was = record {
  front = was.front;
  rest = was.rest;
  split = append-nil (aged p m ws) ∙ aged_same p m c ws ∙ was.split;
  none_pending = was.none_pending;
}
order_else p m (Some x) ws c was = record {
  front = was.front;
  rest = was.rest ++ x ∷ [];
  split =
      ap₂ (λ (l : List Write) (n : ℕ). l ++ new_write n x ∷ []) (aged_same p m c ws ∙ was.split) (ap length (pending_of ws was))
      ∙ append_assoc was.front (numbered_from 0 was.rest) (new_write (length was.rest) x ∷ [])
      ∙ ap (λ l. was.front ++ l) (sym (numbered_last 0 was.rest x ∙ ap (λ n. numbered_from 0 was.rest ++ new_write n x ∷ []) (let e : 0 + length was.rest ≡ length was.rest = omega arith in e)));
  none_pending = was.none_pending;
}

map_none : {X Y : Type 0} (f : X → Y) (o : Option X) → o ≡ None → option_map f o ≡ None
map_none f o e = rw e refl

writes_none : (m : Step) (h : History) (p : ℕ) → closes p m ≡ true → written_item h (writes m p) ≡ None
writes_none m h p c = map_none {Y = Item} (λ rec. record { rec = rec; payload = payload_of h rec }) (writes m p) (closer_writes_none m p c)

in_order : (h : History) (p : ℕ) → InOrder (writes_to h p)
in_order [] p = record { front = []; rest = []; split = refl; none_pending = tt }
in_order (m ∷ h) p = at (closes p m) refl (in_order h p)
  where
    at : (b : Bool) → closes p m ≡ b → InOrder (writes_to h p) → InOrder (writes_to (m ∷ h) p)
    at true c was = order_closed p m (written_item h (writes m p)) (writes_to h p) c (writes_none m h p c)
    at false c was = order_else p m (written_item h (writes m p)) (writes_to h p) c was

-- ---- the lists that a disk keeps

-- Where the entry closes and doesn't destroy, some of the unsynced writes go behind the synced
-- ones, and none are left.
pub synced_at_close : (m : Step) (h : History) (p : ℕ) → closes p m ≡ true → destroys m p ≡ false → synced (m ∷ h) p ≡ synced h p ++ filter_by_place (λ i. close_keeps p i m) 0 (unsynced h p)
synced_at_close m h p c d =
    let ws = writes_to h p in
    let was = in_order h p in
    ap (items_with is_durable) (after_close p m _ ws (writes_none m h p c) ∙ ap (aged p m) was.split ∙ map-append (write_after p m) was.front (numbered_from 0 was.rest))
    ∙ items_with-append is_durable (aged p m was.front) (aged p m (numbered_from 0 was.rest))
    ∙ ap₂ (λ (xs ys : List Item). xs ++ ys)
    (durable_stay p m d was.front was.none_pending ∙ sym (durable_of ws was))
    (kept_numbered p m c 0 was.rest ∙ ap (filter_by_place (λ i. close_keeps p i m) 0) (sym (pending_of ws was)))

pub unsynced_at_close : (m : Step) (h : History) (p : ℕ) → closes p m ≡ true → unsynced (m ∷ h) p ≡ []
unsynced_at_close m h p c = ap (items_with is_pending) (after_close p m _ (writes_to h p) (writes_none m h p c)) ∙ items_with-none is_pending (aged p m (writes_to h p)) (settled p m c (writes_to h p))

-- A destroying strike leaves nothing.
pub synced_at_strike : (m : Step) (h : History) (p : ℕ) → destroys m p ≡ true → synced (m ∷ h) p ≡ []
synced_at_strike m h p d = ap (items_with is_durable) (after_close p m _ (writes_to h p) (writes_none m h p (destroys_closes p m d))) ∙ items_with-none is_durable (aged p m (writes_to h p)) (all_lost p m d (writes_to h p))

-- Any other entry leaves what is synced, and adds what it writes to the unsynced.
pub synced_else : (m : Step) (h : History) (p : ℕ) → closes p m ≡ false → synced (m ∷ h) p ≡ synced h p
synced_else m h p c =
    let ws = writes_to h p in
    items_with-append is_durable (aged p m ws) _
    ∙ ap₂ (λ (xs ys : List Item). xs ++ ys) (ap (items_with is_durable) (aged_same p m c ws)) (new_durable (length (items_with is_pending ws)) (written_item h (writes m p)))
    ∙ append-nil (synced h p)

pub unsynced_else : (m : Step) (h : History) (p : ℕ) → closes p m ≡ false → unsynced (m ∷ h) p ≡ unsynced h p ++ own m h p
unsynced_else m h p c =
    let ws = writes_to h p in
    items_with-append is_pending (aged p m ws) _
    ∙ ap₂ (λ (xs ys : List Item). xs ++ ys) (ap (items_with is_pending) (aged_same p m c ws)) (new_pending (length (items_with is_pending ws)) (written_item h (writes m p)))

-- ---- what stays

passing_every : (test : ℕ → Bool) → ((i : ℕ) → test i ≡ true) → (k : ℕ) (xs : List Item) → filter_by_place test k xs ≡ xs
passing_every test all k [] = refl
passing_every test all k (x ∷ xs) = ap₂ (λ (b : Bool) (l : List Item). if b then x ∷ l else l) (all k) (passing_every test all (k + 1) xs)

-- What is synced stays so, unless the process is destroyed.
pub synced_still : (m : Step) (h : History) (p : ℕ) → destroys m p ≡ false → (x : Item) → Contains (synced h p) x → Contains (synced (m ∷ h) p) x
synced_still m h p d x i = at (closes p m) refl
  where
    at : (b : Bool) → closes p m ≡ b → Contains (synced (m ∷ h) p) x
    at true c = subst (λ l. Contains l x) (sym (synced_at_close m h p c d)) (Contains-append_left (synced h p) _ x i)
    at false c = subst (λ l. Contains l x) (sym (synced_else m h p c)) i

-- A Sync keeps what was unsynced.
pub synced_by : (m : Step) (h : History) (p : ℕ) → syncs_at m p ≡ true → (x : Item) → Contains (unsynced h p) x → Contains (synced (m ∷ h) p) x
synced_by m h p s x i =
    let kept : filter_by_place (λ i. close_keeps p i m) 0 (unsynced h p) ≡ unsynced h p = passing_every (λ i. close_keeps p i m) (λ i. or_left _ _ s) 0 (unsynced h p) in
    subst (λ l. Contains l x)
    (sym (synced_at_close m h p (or_left _ _ s) (sync_strikes_none m p s) ∙ ap (λ l. synced h p ++ l) kept))
    (Contains-append_right (synced h p) (unsynced h p) x i)
