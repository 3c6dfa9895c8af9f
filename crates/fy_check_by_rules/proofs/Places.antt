-- what was written, read off what came later, is what the fates of the writes say
use Rattle.std.proofs.Common.{◌≡◌, ℕ, ◌+◌, Bool, true, false, cond, ◌&&◌, ◌||◌, not, List, [], ◌∷◌, ◌++◌, length, map, find, Option, Some, None, is_some, is_none, refl, sym, ◌∙◌, ap, ap₂, inl, inr, option_to_list, option_map, if◌then◌else◌, append-nil, length-append}
use Rattle.std.proofs.lemmas.Bool.{true≢false, not-true, or_cases, and_parts}
use Rattle.std.proofs.lemmas.List.{map-append}
use Rattle.std.specs.List.{list_any}
use Rattle.fy_disk.specs.declared.item.Item.{Item}
use Rattle.fy_cluster.specs.History.{History, Step, some_is, syncs_at, destroys, closes, close_keeps, writes, written_item, Fate, is_pending, is_durable, fate_after, Write, write_after, items_with, new_write, writes_to, synced, unsynced}
use Rattle.fy_cluster.proofs.DiskSteps.{destroys_closes, sync_strikes_none, closer_writes_none, items_with-cons, items_with-append}
use Rattle.fy_check_by_rules.specs.Written.{place, is_open, is_kept, written}

-- ---- what an entry does to pending writes

-- An entry that keeps a write destroys nobody.
kept_spares : (p i : ℕ) (m : Step) → close_keeps p i m ≡ true → destroys m p ≡ false
kept_spares p i m k = elim (or_cases (syncs_at m p) _ k) [
  | inl s ↦ sync_strikes_none m p s
  | inr a ↦ not-true _ (and_parts (not (destroys m p)) _ a).0
]

-- ---- the fate of one write

-- what becomes of a write through later entries, the oldest first
abbrev fate_through : ℕ → List Step → Fate → Fate
fate_through p [] f = f
fate_through p (m ∷ later) f = fate_through p later (fate_after p m f)

lost_stays : (p : ℕ) (later : List Step) → fate_through p later Fate.lost ≡ Fate.lost
lost_stays p [] = refl
lost_stays p (m ∷ later) = lost_stays p later

durable_through : (p : ℕ) (later : List Step) → is_durable (fate_through p later Fate.durable) ≡ not (list_any (λ m. destroys m p) later)
durable_through p [] = refl
durable_through p (m ∷ later) = at (destroys m p) (durable_through p later)
  where
    at : (b : Bool) → is_durable (fate_through p later Fate.durable) ≡ not (list_any (λ m. destroys m p) later)
        → is_durable (fate_through p later (if b then Fate.lost else Fate.durable)) ≡ not (b || list_any (λ m. destroys m p) later)
    at true e = ap is_durable (lost_stays p later)
    at false e = e

durable_not_pending : (p : ℕ) (later : List Step) → is_pending (fate_through p later Fate.durable) ≡ false
durable_not_pending p [] = refl
durable_not_pending p (m ∷ later) = at (destroys m p) (durable_not_pending p later)
  where
    at : (b : Bool) → is_pending (fate_through p later Fate.durable) ≡ false → is_pending (fate_through p later (if b then Fate.lost else Fate.durable)) ≡ false
    at true e = ap is_pending (lost_stays p later)
    at false e = e

open_through : (p i : ℕ) (later : List Step) → is_pending (fate_through p later (Fate.pending i)) ≡ is_open p later i
open_through p i [] = refl
open_through p i (m ∷ later) = at (closes p m) (close_keeps p i m) (open_through p i later)
  where
    at : (c k : Bool) → is_pending (fate_through p later (Fate.pending i)) ≡ is_open p later i
        → is_pending (fate_through p later (if c then (if k then Fate.durable else Fate.lost) else Fate.pending i)) ≡ is_none (cond c (Some m) (find (closes p) later))
    at true true e = durable_not_pending p later
    at true false e = ap is_pending (lost_stays p later)
    at false k e = e

kept_through : (p i : ℕ) (later : List Step) → is_durable (fate_through p later (Fate.pending i)) ≡ is_kept p later i
kept_through p i [] = refl
kept_through p i (m ∷ later) = at (closes p m) (close_keeps p i m) (destroys m p) refl refl refl (kept_through p i later)
  where
    rest : Bool
    rest = list_any (λ m. destroys m p) later

    at : (c k d : Bool) → closes p m ≡ c → close_keeps p i m ≡ k → destroys m p ≡ d → is_durable (fate_through p later (Fate.pending i)) ≡ is_kept p later i
        → is_durable (fate_through p later (if c then (if k then Fate.durable else Fate.lost) else Fate.pending i)) ≡ (some_is (close_keeps p i) (cond c (Some m) (find (closes p) later)) && not (d || rest))
    at true true true ec ek ed e = absurd (true≢false (sym ed ∙ kept_spares p i m ek))
    at true true false ec ek ed e = durable_through p later ∙ sym (ap (λ k. k && not rest) ek)
    at true false d ec ek ed e = ap is_durable (lost_stays p later) ∙ sym (ap (λ k. k && not (d || rest)) ek)
    at false k true ec ek ed e = absurd (true≢false (sym (destroys_closes p m ed) ∙ ec))
    at false k false ec ek ed e = e

-- ---- lists of writes

-- the writes through later entries
abbrev through : ℕ → List Step → List Write → List Write
through p later ws = map (λ (w : Write). record w { fate = fate_through p later w.fate }) ws

abbrev aged : ℕ → Step → List Write → List Write
aged p m ws = map (write_after p m) ws

through_none : (p : ℕ) (ws : List Write) → through p [] ws ≡ ws
through_none p [] = refl
through_none p (w ∷ ws) = ap (λ l. w ∷ l) (through_none p ws)

through_more : (p : ℕ) (m : Step) (later : List Step) (ws : List Write) → through p later (aged p m ws) ≡ through p (m ∷ later) ws
through_more p m later [] = refl
through_more p m later (w ∷ ws) = ap (λ l. record w { fate = fate_through p later (fate_after p m w.fate) } ∷ l) (through_more p m later ws)

-- ---- the number of a pending write is its place

pending_fate : (p : ℕ) (m : Step) (f : Fate) → is_pending (fate_after p m f) ≡ (not (closes p m) && is_pending f)
pending_fate p m (Fate.pending i) = at (closes p m) (close_keeps p i m)
  where
    at : (c k : Bool) → is_pending (if c then (if k then Fate.durable else Fate.lost) else Fate.pending i) ≡ (not c && true)
    at true true = refl
    at true false = refl
    at false k = refl
pending_fate p m Fate.durable = at (closes p m) (destroys m p)
  where
    at : (c d : Bool) → is_pending (if d then Fate.lost else Fate.durable) ≡ (not c && false)
    at true true = refl
    at true false = refl
    at false true = refl
    at false false = refl
pending_fate p m Fate.lost = at (closes p m)
  where
    at : (c : Bool) → false ≡ (not c && false)
    at true = refl
    at false = refl

pending_aged : (p : ℕ) (m : Step) (ws : List Write) → items_with is_pending (aged p m ws) ≡ (if closes p m then [] else items_with is_pending ws)
pending_aged p m [] = at (closes p m)
  where
    none : List Item
    none = []

    at : (c : Bool) → none ≡ (if c then none else none)
    at true = refl
    at false = refl
pending_aged p m (w ∷ ws) =
    items_with-cons is_pending (write_after p m w) (aged p m ws)
    ∙ ap₂ (λ (b : Bool) (l : List Item). cond b (w.item ∷ l) l) (pending_fate p m w.fate) (pending_aged p m ws)
    ∙ at (closes p m) (is_pending w.fate)
    ∙ ap (λ l. if closes p m then [] else l) (sym (items_with-cons is_pending w ws))
  where
    rest : List Item
    rest = items_with is_pending ws

    at : (c b : Bool) → cond (not c && b) (w.item ∷ (if c then [] else rest)) (if c then [] else rest) ≡ (if c then [] else cond b (w.item ∷ rest) rest)
    at true b = refl
    at false b = refl

number_is : (h : History) (p : ℕ) → length (items_with is_pending (writes_to h p)) ≡ place h p
number_is [] p = refl
number_is (m ∷ h) p =
    ap length (items_with-append is_pending (aged p m ws) _ ∙ ap (λ l. l ++ items_with is_pending (own (writes m p))) (pending_aged p m ws))
    ∙ at (closes p m) (writes m p) refl refl (number_is h p)
  where
    ws : List Write
    ws = writes_to h p

    own : Option ℕ → List Write
    own o = option_to_list (option_map (new_write (length (items_with is_pending ws))) (written_item h o))

    at : (c : Bool) (o : Option ℕ) → closes p m ≡ c → writes m p ≡ o → length (items_with is_pending ws) ≡ place h p
        → length ((if c then [] else items_with is_pending ws) ++ items_with is_pending (own o)) ≡ (if c then 0 else (if is_some o then place h p + 1 else place h p))
    at true None ec eo e = refl
    at true (Some r) ec eo e = absurd (some_not_none r (sym eo ∙ closer_writes_none m p ec))
      where
        some_not_none : (r : ℕ) → Some r ≡ None → ⊥
        some_not_none r e = cc
    at false None ec eo e = ap length (append-nil (items_with is_pending ws)) ∙ e
    at false (Some r) ec eo e = length-append (items_with is_pending ws) _ ∙ ap (λ n. n + 1) e

-- ---- by places as by fates

own_through : (f : Fate → Bool) (p : ℕ) (later : List Step) (count : ℕ) (o : Option Item)
    → items_with f (through p later (option_to_list (option_map (new_write count) o))) ≡ option_to_list (if f (fate_through p later (Fate.pending count)) then o else None)
own_through f p later count None = at (f (fate_through p later (Fate.pending count)))
  where
    none : Option Item
    none = None

    at : (b : Bool) → option_to_list none ≡ option_to_list (if b then none else none)
    at true = refl
    at false = refl
own_through f p later count (Some x) = items_with-cons f (record { item = x; fate = fate_through p later (Fate.pending count) }) [] ∙ at (f (fate_through p later (Fate.pending count)))
  where
    at : (b : Bool) → cond b (x ∷ []) [] ≡ option_to_list (if b then Some x else None)
    at true = refl
    at false = refl

written_through : (f : Fate → Bool) (p : ℕ) (h : History) (later : List Step) → items_with f (through p later (writes_to h p)) ≡ written p (λ l i. f (fate_through p l (Fate.pending i))) later h
written_through f p [] later = refl
written_through f p (m ∷ h) later =
    let ws = writes_to h p in
    let new : List Write = option_to_list (option_map (new_write (length (items_with is_pending ws))) (written_item h (writes m p))) in
    ap (items_with f) (map-append (λ (w : Write). record w { fate = fate_through p later w.fate }) (aged p m ws) new ∙ ap (λ l. l ++ through p later new) (through_more p m later ws))
    ∙ items_with-append f (through p (m ∷ later) ws) (through p later new)
    ∙ ap₂ (λ (xs ys : List Item). xs ++ ys) (written_through f p h (m ∷ later))
    (own_through f p later (length (items_with is_pending ws)) (written_item h (writes m p))
    ∙ ap (λ n. option_to_list (if f (fate_through p later (Fate.pending n)) then written_item h (writes m p) else None)) (number_is h p))

pub synced_by_places : (h : History) (p : ℕ) → synced h p ≡ written p (is_kept p) [] h
synced_by_places h p =
    ap (items_with is_durable) (sym (through_none p (writes_to h p))) ∙ written_through is_durable p h []
    ∙ ap (λ passes. written p passes [] h) (λ j l i. kept_through p i l j)

pub unsynced_by_places : (h : History) (p : ℕ) → unsynced h p ≡ written p (is_open p) [] h
unsynced_by_places h p =
    ap (items_with is_pending) (sym (through_none p (writes_to h p))) ∙ written_through is_pending p h []
    ∙ ap (λ passes. written p passes [] h) (λ j l i. open_through p i l j)
