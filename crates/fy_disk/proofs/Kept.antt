-- what the sets say once one disk has changed
use Rattle.std.proofs.Common.{◌≡◌, ℕ, ◌+◌, ◌<◌, ◌≤◌, Bool, true, false, ◌&&◌, ◌||◌, not, List, [], ◌∷◌, ◌++◌, length, take, drop, ◌-◌, get_or, slice_set, refl, sym, ap, ap₂, subst, ◌∙◌, arith, length-set, ◌==◌, eqb-true, eq-eqb, if◌then◌else◌, replicate}
use Rattle.std.specs.Prelude.{nat_lt}
use Rattle.std.specs.List.{All, AllByRecursion}
use Rattle.std.specs.Ordering.{nat_cmp}
use Rattle.std.specs.FinSet as sets
use Rattle.std.proofs.lemmas.List.{get_or-set_same, get_or-set_other, get_or_past, get_or-replicate, length-replicate, take_all, length-drop}
use Rattle.std.proofs.Math.Seq.{drop-append_seam}
use Rattle.std.proofs.lemmas.List.Folds.{list_any-append, list_any_at}
use Rattle.std.proofs.lemmas.List.Elements.{All-append, All-from_recursion, recursion_from_All}
use Rattle.std.proofs.lemmas.Bool.{true≢false}
use Rattle.std.proofs.lemmas.Bool.Decides.{nat_tests}
use Rattle.fy_locality.specs.declared.TheConstants.{MOST_PROCESSES}
use Rattle.fy_disk.specs.declared.item.Item.{Item}
use Rattle.fy_disk.specs.Disk.{Stored, empty_disk, written, survivors, filter_by_place, outlives}
use Rattle.fy_disk.specs.Disks.{disk_of, has_record, has_synced, has_unsynced}
use Rattle.fy_disk.specs.Holders.{holders_of, Gains, Loses, DisksInvariant}
use Rattle.fy_disk.proofs.Held.{Set, put_in, taken_out}

-- ---- one disk of a list

other_disk : (disks : List Stored) (p q : ℕ) (d : Stored) → (q == p) ≡ false → disk_of (slice_set disks p d) q ≡ disk_of disks q
other_disk disks p q d e = get_or-set_other disks p q d empty_disk (λ w. (let s : (q == p) ≡ true = grind (arith, nat_tests) in true≢false (sym s ∙ e)))

this_disk : (disks : List Stored) (p q : ℕ) (d : Stored) → p < length disks → (q == p) ≡ true → disk_of (slice_set disks p d) q ≡ d
this_disk disks p q d l e = ap (λ i. disk_of (slice_set disks p d) i) (eqb-true q p e) ∙ get_or-set_same disks p d empty_disk l

-- the sets are kept where they say of the changed disk what is so, and of the others what they said
pub changed : (disks : List Stored) (holders later : List Set) (with_unsynced waiting : Set) (p : ℕ) (d : Stored) → p < length disks → DisksInvariant disks holders with_unsynced
    → length holders ≤ length later
    → ((rec q : ℕ) → (q == p) ≡ true → sets.contains (holders_of later rec) q ≡ has_synced d rec)
    → ((rec q : ℕ) → (q == p) ≡ false → sets.contains (holders_of later rec) q ≡ sets.contains (holders_of holders rec) q)
    → All (λ item. item.rec < length later) d.unsynced
    → ((q : ℕ) → (q == p) ≡ true → sets.contains waiting q ≡ has_unsynced d)
    → ((q : ℕ) → (q == p) ≡ false → sets.contains waiting q ≡ sets.contains with_unsynced q)
    → DisksInvariant (slice_set disks p d) later waiting
changed disks holders later with_unsynced waiting p d l k more same_held other_held room same_behind other_behind = record {
  few = subst (λ n. n ≤ MOST_PROCESSES) (sym (length-set disks p d)) k.few;
  synced = λ rec q. held rec q (q == p) refl;
  room = λ q. rooms q (q == p) refl;
  unsynced = λ q. waits q (q == p) refl;
}
  where
    held : (rec q : ℕ) (b : Bool) → (q == p) ≡ b → sets.contains (holders_of later rec) q ≡ has_synced (disk_of (slice_set disks p d) q) rec
    held rec q true e = same_held rec q e ∙ ap (λ disk. has_synced disk rec) (sym (this_disk disks p q d l e))
    held rec q false e = other_held rec q e ∙ k.synced rec q ∙ ap (λ disk. has_synced disk rec) (sym (other_disk disks p q d e))

    wider : (items : List Item) → All (λ item. item.rec < length holders) items → All (λ item. item.rec < length later) items
    wider items all = λ i x w. (let a = all i x w in omega (arith, a, more))

    rooms : (q : ℕ) (b : Bool) → (q == p) ≡ b → All (λ item. item.rec < length later) (disk_of (slice_set disks p d) q).unsynced
    rooms q true e = subst (λ (disk : Stored). All (λ item. item.rec < length later) disk.unsynced) (sym (this_disk disks p q d l e)) room
    rooms q false e = subst (λ (disk : Stored). All (λ item. item.rec < length later) disk.unsynced) (sym (other_disk disks p q d e)) (wider _ (k.room q))

    waits : (q : ℕ) (b : Bool) → (q == p) ≡ b → sets.contains waiting q ≡ has_unsynced (disk_of (slice_set disks p d) q)
    waits q true e = same_behind q e ∙ ap has_unsynced (sym (this_disk disks p q d l e))
    waits q false e = other_behind q e ∙ k.unsynced q ∙ ap has_unsynced (sym (other_disk disks p q d e))

-- ---- what is there at the start

pub kept_at_start : (n : ℕ) → n ≤ MOST_PROCESSES → DisksInvariant (replicate n empty_disk) [] sets.empty
kept_at_start n few = record {
  few = subst (λ m. m ≤ MOST_PROCESSES) (sym (length-replicate n empty_disk)) few;
  synced = λ rec p. sets.contains-empty nat_cmp p ∙ ap (λ disk. has_synced disk rec) (sym (is p));
  room = λ p. subst (λ (disk : Stored). All (λ item. item.rec < 0) disk.unsynced) (sym (is p)) (λ i x l. absurd (omega (arith, l)));
  unsynced = λ p. sets.contains-empty nat_cmp p ∙ ap has_unsynced (sym (is p));
}
  where
    is : (p : ℕ) → disk_of (replicate n empty_disk) p ≡ empty_disk
    is p = go (nat_lt p n) refl
      where
        go : (b : Bool) → nat_lt p n ≡ b → disk_of (replicate n empty_disk) p ≡ empty_disk
        go true e = get_or-replicate n p empty_disk empty_disk (grind (arith, nat_tests))
        go false e = get_or_past (replicate n empty_disk) p empty_disk (subst (λ m. m ≤ p) (sym (length-replicate n empty_disk)) (grind (arith, nat_tests)))

-- ---- what the sets say of a record

pub none_holds : (holders : List Set) (rec p : ℕ) → length holders ≤ rec → sets.contains (holders_of holders rec) p ≡ false
none_holds holders rec p past = ap (λ s. sets.contains s p) (get_or_past holders rec sets.empty past) ∙ sets.contains-empty nat_cmp p

-- so nobody does of a record that has no set
pub nobody_there : (disks : List Stored) (holders : List Set) (with_unsynced : Set) (rec p : ℕ) → DisksInvariant disks holders with_unsynced → length holders ≤ rec → false ≡ has_synced (disk_of disks p) rec
nobody_there disks holders with_unsynced rec p k past = sym (none_holds holders rec p past) ∙ k.synced rec p

-- an item of a list is of its record
is_there : (items : List Item) (i : ℕ) (x : Item) → i < length items → has_record items (get_or items i x).rec ≡ true
is_there items i x l = list_any_at (λ (item : Item). item.rec == (get_or items i x).rec) items i x l (eq-eqb (get_or items i x).rec (get_or items i x).rec refl)

-- each synced item's record has a set
pub synced_room : (disks : List Stored) (holders : List Set) (with_unsynced : Set) (p : ℕ) → DisksInvariant disks holders with_unsynced → All (λ item. item.rec < length holders) (disk_of disks p).synced
synced_room disks holders with_unsynced p k = λ i x l.
    let rec = (get_or (disk_of disks p).synced i x).rec in
    let there = k.synced rec p ∙ is_there (disk_of disks p).synced i x l in
    go rec there (nat_lt rec (length holders)) refl
  where
    go : (rec : ℕ) → sets.contains (holders_of holders rec) p ≡ true → (b : Bool) → nat_lt rec (length holders) ≡ b → rec < length holders
    go rec there true e = grind (arith, nat_tests)
    go rec there false e = absurd (true≢false (sym there ∙ none_holds holders rec p (grind (arith, nat_tests))))

-- ---- each change

nobody_waits : (with_unsynced : Set) (p q : ℕ) → (q == p) ≡ true → sets.contains (sets.remove with_unsynced p) q ≡ false
nobody_waits with_unsynced p q e = taken_out with_unsynced p q ∙ ap (λ b. not b && sets.contains with_unsynced q) e

others_wait : (with_unsynced : Set) (p q : ℕ) → (q == p) ≡ false → sets.contains (sets.remove with_unsynced p) q ≡ sets.contains with_unsynced q
others_wait with_unsynced p q e = taken_out with_unsynced p q ∙ ap (λ b. not b && sets.contains with_unsynced q) e

-- items behind those that are synced become so, and nothing is left unsynced
pub kept_gained : (disks : List Stored) (holders later : List Set) (with_unsynced : Set) (p : ℕ) (items : List Item) → p < length disks → DisksInvariant disks holders with_unsynced → Gains p items holders later
    → DisksInvariant (slice_set disks p (record { synced = (disk_of disks p).synced ++ items; unsynced = [] })) later (sets.remove with_unsynced p)
kept_gained disks holders later with_unsynced p items l k gains =
    changed disks holders later with_unsynced (sets.remove with_unsynced p) p _ l k (omega (arith, gains.count)) same other (λ i x w. absurd (omega (arith, w))) (nobody_waits with_unsynced p) (others_wait with_unsynced p)
  where
    same : (rec q : ℕ) → (q == p) ≡ true → sets.contains (holders_of later rec) q ≡ has_record ((disk_of disks p).synced ++ items) rec
    same rec q e =
        gains.each rec q
        ∙ ap₂ (λ a b. a || b && has_record items rec) (k.synced rec q ∙ ap (λ i. has_synced (disk_of disks i) rec) (eqb-true q p e)) e
        ∙ sym (list_any-append (λ (x : Item). x.rec == rec) (disk_of disks p).synced items)

    plain : (a b : Bool) → (a || false && b) ≡ a
    plain true b = refl
    plain false b = refl

    other : (rec q : ℕ) → (q == p) ≡ false → sets.contains (holders_of later rec) q ≡ sets.contains (holders_of holders rec) q
    other rec q e = gains.each rec q ∙ ap (λ b. sets.contains (holders_of holders rec) q || b && has_record items rec) e ∙ plain (sets.contains (holders_of holders rec) q) (has_record items rec)

-- everything is gone
pub kept_wiped : (disks : List Stored) (holders later : List Set) (with_unsynced : Set) (p : ℕ) → p < length disks → DisksInvariant disks holders with_unsynced → Loses p (disk_of disks p).synced holders later
    → DisksInvariant (slice_set disks p empty_disk) later (sets.remove with_unsynced p)
kept_wiped disks holders later with_unsynced p l k loses =
    changed disks holders later with_unsynced (sets.remove with_unsynced p) p _ l k (omega (arith, loses.count)) same other (λ i x w. absurd (omega (arith, w))) (nobody_waits with_unsynced p) (others_wait with_unsynced p)
  where
    nothing : (a : Bool) → (a && not (true && a)) ≡ false
    nothing true = refl
    nothing false = refl

    plain : (a b : Bool) → (a && not (false && b)) ≡ a
    plain true b = refl
    plain false b = refl

    same : (rec q : ℕ) → (q == p) ≡ true → sets.contains (holders_of later rec) q ≡ false
    same rec q e =
        loses.each rec q
        ∙ ap₂ (λ a b. a && not (b && has_synced (disk_of disks p) rec)) (k.synced rec q ∙ ap (λ i. has_synced (disk_of disks i) rec) (eqb-true q p e)) e
        ∙ nothing (has_synced (disk_of disks p) rec)

    other : (rec q : ℕ) → (q == p) ≡ false → sets.contains (holders_of later rec) q ≡ sets.contains (holders_of holders rec) q
    other rec q e = loses.each rec q ∙ ap (λ b. sets.contains (holders_of holders rec) q && not (b && has_synced (disk_of disks p) rec)) e ∙ plain (sets.contains (holders_of holders rec) q) (has_synced (disk_of disks p) rec)

-- an item is written
pub kept_written : (disks : List Stored) (holders later : List Set) (with_unsynced : Set) (p : ℕ) (item : Item) → p < length disks → DisksInvariant disks holders with_unsynced
    → length holders ≤ length later → item.rec < length later → ((rec : ℕ) → holders_of later rec ≡ holders_of holders rec)
    → DisksInvariant (slice_set disks p (written item (disk_of disks p))) later (sets.insert with_unsynced p)
kept_written disks holders later with_unsynced p item l k more room same =
    changed disks holders later with_unsynced (sets.insert with_unsynced p) p _ l k more
    (λ rec q e. ap (λ s. sets.contains s q) (same rec) ∙ k.synced rec q ∙ ap (λ i. has_synced (disk_of disks i) rec) (eqb-true q p e))
    (λ rec q e. ap (λ s. sets.contains s q) (same rec))
    (All-append (λ (x : Item). x.rec < length later) (disk_of disks p).unsynced (item ∷ []) (λ i x w. (let a = k.room p i x w in omega (arith, a, more))) (one room))
    (λ q e. put_in with_unsynced p q ∙ ap (λ b. b || sets.contains with_unsynced q) e ∙ sym (some (disk_of disks p).unsynced))
    (λ q e. put_in with_unsynced p q ∙ ap (λ b. b || sets.contains with_unsynced q) e)
  where
    one : item.rec < length later → All (λ (x : Item). x.rec < length later) (item ∷ [])
    one r = All-from_recursion (λ (x : Item). x.rec < length later) (item ∷ []) (r, tt)

    some : (items : List Item) → nat_lt 0 (length (items ++ item ∷ [])) ≡ true
    some [] = refl
    some (x ∷ items) = grind (arith, nat_tests)

-- ---- survivors

passing_each : (P : Item → Type 0) (test : ℕ → Bool) (place : ℕ) (items : List Item) → AllByRecursion P items → AllByRecursion P (filter_by_place test place items)
passing_each P test place [] all = tt
passing_each P test place (item ∷ items) all = go (test place) (passing_each P test (place + 1) items all.1)
  where
    go : (b : Bool) → AllByRecursion P (filter_by_place test (place + 1) items) → AllByRecursion P (if b then item ∷ filter_by_place test (place + 1) items else filter_by_place test (place + 1) items)
    go true rest = (all.0, rest)
    go false rest = rest

-- what holds of each item holds of each survivor
pub each_survivor : (P : Item → Type 0) (tear : ℕ) (items : List Item) → All P items → All P (survivors tear items)
each_survivor P tear items all = All-from_recursion P (survivors tear items) (passing_each P (outlives tear) 0 items (recursion_from_All P items all))

-- what a crash makes synced stands behind what was
pub behind_synced : (xs ys all : List Item) (n : ℕ) → all ≡ xs ++ ys → n ≡ length xs → take (length all - n) (drop n all) ≡ ys
behind_synced xs ys all n is before = take_all (length all - n) (drop n all) (omega (arith, length-drop n all)) ∙ ap₂ drop before is ∙ drop-append_seam xs ys

-- and is of records that have sets
pub crash_room : (disks : List Stored) (holders : List Set) (with_unsynced : Set) (p tear : ℕ) → DisksInvariant disks holders with_unsynced → All (λ item. item.rec < length holders) (survivors tear (disk_of disks p).unsynced)
crash_room disks holders with_unsynced p tear k = each_survivor (λ item. item.rec < length holders) tear (disk_of disks p).unsynced (k.room p)
