-- sets of processes, one a record, to which a process is added or from which it is taken, item
-- after item
use Rattle.std.proofs.Common.{◌≡◌, ℕ, ◌+◌, ◌<◌, Bool, true, false, ◌&&◌, ◌||◌, not, List, [], ◌∷◌, ◌++◌, length, take, get_or, slice_set, refl, sym, ap, ◌∙◌, arith, length-set, ◌==◌, eqb-true, eq-eqb, if◌then◌else◌}
use Rattle.std.specs.Ordering.{nat_cmp}
use Rattle.std.specs.Cmp.{nat_cmp_total, unsigned_tied}
use Rattle.std.specs.FinSet as sets
use Rattle.std.proofs.lemmas.List.{get_or-set_same, get_or-set_other, get_or_default, take_more}
use Rattle.std.proofs.lemmas.List.Folds.{list_any-append}
use Rattle.std.proofs.lemmas.Bool.{true≢false}
use Rattle.std.proofs.lemmas.Bool.Decides.{nat_tests}
use Rattle.fy_disk.specs.declared.item.Item.{Item}
use Rattle.fy_disk.specs.Disks.{has_record}
use Rattle.fy_disk.specs.Holders.{holders_of, Gains, Loses}

abbrev pub Set : Type 0
Set = sets.FinSet nat_cmp

some_item : Item
some_item = record { rec = 0; payload = [] }

-- ---- before the first item

-- ---- one item more

-- the items are of the record where one before was, or the next one is
more_items : (items : List Item) (i : ℕ) (item : Item) → i < length items → item ≡ get_or items i item → (rec : ℕ)
    → has_record (take (i + 1) items) rec ≡ (has_record (take i items) rec || (item.rec == rec || false))
more_items items i item l is rec =
    ap (λ xs. has_record xs rec) (take_more items i item l ∙ ap (λ x. take i items ++ x ∷ []) (sym is)) ∙ list_any-append (λ (x : Item). x.rec == rec) (take i items) (item ∷ [])

-- what a set has once the set at a number is another
set_at : (holders : List Set) (at : ℕ) (set : Set) → at < length holders → (rec q : ℕ) → (b : Bool) → (rec == at) ≡ b
    → sets.contains (holders_of (slice_set holders at set) rec) q ≡ sets.contains (if b then set else holders_of holders rec) q
set_at holders at set l rec q true e =
    let same : rec ≡ at = eqb-true rec at e in
    ap (λ r. sets.contains (holders_of (slice_set holders at set) r) q) same ∙ ap (λ s. sets.contains s q) (get_or-set_same holders at set sets.empty l)
set_at holders at set l rec q false e =
    ap (λ s. sets.contains s q) (get_or-set_other holders at rec set sets.empty (λ w. (let s : (rec == at) ≡ true = grind (arith, nat_tests) in true≢false (sym s ∙ e))))

turned : (a b : ℕ) → (a == b) ≡ (b == a)
turned a b = go (a == b) (b == a) refl refl
  where
    go : (x y : Bool) → (a == b) ≡ x → (b == a) ≡ y → (a == b) ≡ (b == a)
    go true y e f = e ∙ sym (eq-eqb b a (sym (eqb-true a b e)))
    go false true e f = eq-eqb a b (sym (eqb-true b a f)) ∙ sym f
    go false false e f = e ∙ sym f

-- a process put into a set is there
pub put_in : (s : Set) (p q : ℕ) → sets.contains (sets.insert s p) q ≡ (q == p || sets.contains s q)
put_in s p q = sets.contains-insert nat_cmp_total s p q ∙ ap (λ b. b || sets.contains s q) (unsigned_tied q p)

-- and one taken out isn't
pub taken_out : (s : Set) (p q : ℕ) → sets.contains (sets.remove s p) q ≡ (not (q == p) && sets.contains s q)
taken_out s p q = sets.contains-remove nat_cmp_total s p q ∙ ap (λ b. not b && sets.contains s q) (unsigned_tied q p)

-- whether it is of the next item's record, whether it is the process, what the set had, and what
-- the items before have
one_gained : (here it had items : Bool) → (if here then (it || (had || it && items)) else (had || it && items)) ≡ (had || it && (items || (here || false)))
one_gained true true true items = refl
one_gained true true false true = refl
one_gained true true false false = refl
one_gained true false true items = refl
one_gained true false false items = refl
one_gained false it true items = refl
one_gained false true false true = refl
one_gained false true false false = refl
one_gained false false false items = refl

one_lost : (here it had items : Bool) → (if here then (not it && (had && not (it && items))) else (had && not (it && items))) ≡ (had && not (it && (items || (here || false))))
one_lost true true true true = refl
one_lost true true true false = refl
one_lost true true false items = refl
one_lost true false had items = refl
one_lost false true true true = refl
one_lost false true true false = refl
one_lost false true false items = refl
one_lost false false had items = refl

pub gains_more : (p i : ℕ) (items : List Item) (item : Item) (was : Set) (old new : List Set) → i < length items → item ≡ get_or items i item → item.rec < length new → was ≡ get_or new item.rec was → Gains p (take i items) old new
    → Gains p (take (i + 1) items) old (slice_set new item.rec (sets.insert was p))
gains_more p i items item was old new l is there value k = record { count = length-set new item.rec _ ∙ k.count; each = at }
  where
    set : ℕ → Set
    set rec = holders_of old rec

    had : (rec q : ℕ) → sets.contains (holders_of new rec) q ≡ (sets.contains (set rec) q || q == p && has_record (take i items) rec)
    had rec q = k.each rec q

    here : (rec q : ℕ) → (rec == item.rec) ≡ true → sets.contains was q ≡ sets.contains (holders_of new rec) q
    here rec q e = ap (λ s. sets.contains s q) (value ∙ get_or_default new item.rec was sets.empty there) ∙ ap (λ r. sets.contains (holders_of new r) q) (sym (eqb-true rec item.rec e))

    at_set : (rec q : ℕ) (b : Bool) → (rec == item.rec) ≡ b → sets.contains (if b then sets.insert was p else holders_of new rec) q
        ≡ (if b then (q == p || (sets.contains (set rec) q || q == p && has_record (take i items) rec)) else (sets.contains (set rec) q || q == p && has_record (take i items) rec))
    at_set rec q true e = put_in was p q ∙ ap (λ b. q == p || b) (here rec q e ∙ had rec q)
    at_set rec q false e = had rec q

    at : (rec q : ℕ) → sets.contains (holders_of (slice_set new item.rec (sets.insert was p)) rec) q ≡ (sets.contains (set rec) q || q == p && has_record (take (i + 1) items) rec)
    at rec q =
        set_at new item.rec (sets.insert was p) there rec q (rec == item.rec) refl
        ∙ at_set rec q (rec == item.rec) refl
        ∙ one_gained (rec == item.rec) (q == p) (sets.contains (set rec) q) (has_record (take i items) rec)
        ∙ ap (λ b. sets.contains (set rec) q || q == p && b) (ap (λ b. has_record (take i items) rec || (b || false)) (turned rec item.rec) ∙ sym (more_items items i item l is rec))

pub loses_more : (p i : ℕ) (items : List Item) (item : Item) (was : Set) (old new : List Set) → i < length items → item ≡ get_or items i item → item.rec < length new → was ≡ get_or new item.rec was → Loses p (take i items) old new
    → Loses p (take (i + 1) items) old (slice_set new item.rec (sets.remove was p))
loses_more p i items item was old new l is there value k = record { count = length-set new item.rec _ ∙ k.count; each = at }
  where
    set : ℕ → Set
    set rec = holders_of old rec

    had : (rec q : ℕ) → sets.contains (holders_of new rec) q ≡ (sets.contains (set rec) q && not (q == p && has_record (take i items) rec))
    had rec q = k.each rec q

    here : (rec q : ℕ) → (rec == item.rec) ≡ true → sets.contains was q ≡ sets.contains (holders_of new rec) q
    here rec q e = ap (λ s. sets.contains s q) (value ∙ get_or_default new item.rec was sets.empty there) ∙ ap (λ r. sets.contains (holders_of new r) q) (sym (eqb-true rec item.rec e))

    at_set : (rec q : ℕ) (b : Bool) → (rec == item.rec) ≡ b → sets.contains (if b then sets.remove was p else holders_of new rec) q
        ≡ (if b then (not (q == p) && (sets.contains (set rec) q && not (q == p && has_record (take i items) rec))) else (sets.contains (set rec) q && not (q == p && has_record (take i items) rec)))
    at_set rec q true e = taken_out was p q ∙ ap (λ b. not (q == p) && b) (here rec q e ∙ had rec q)
    at_set rec q false e = had rec q

    at : (rec q : ℕ) → sets.contains (holders_of (slice_set new item.rec (sets.remove was p)) rec) q ≡ (sets.contains (set rec) q && not (q == p && has_record (take (i + 1) items) rec))
    at rec q =
        set_at new item.rec (sets.remove was p) there rec q (rec == item.rec) refl
        ∙ at_set rec q (rec == item.rec) refl
        ∙ one_lost (rec == item.rec) (q == p) (sets.contains (set rec) q) (has_record (take i items) rec)
        ∙ ap (λ b. sets.contains (set rec) q && not (q == p && b)) (ap (λ b. has_record (take i items) rec || (b || false)) (turned rec item.rec) ∙ sym (more_items items i item l is rec))
