-- the lines of a key in a table are those of the history
use Rattle.std.proofs.Common.{◌≡◌, ◌<◌, ◌∙◌, ℕ, zero, suc, Bool, true, false, cond, ◌&&◌, ◌||◌, not, List, [], ◌∷◌, length, Option, Some, None, refl, sym, ap, subst, inl, inr, arith}
use Rattle.std.proofs.Math.Path.{fun_ext}
use Rattle.std.specs.Prelude.{Contains, ◌==◌, filter, filter_map, slice_get, is_none}
use Rattle.std.specs.Option.{option_map_or}
use Rattle.std.specs.List.{list_any, cons_option}
use Rattle.std.specs.List.Sorted.{IsPermutation}
use Rattle.std.proofs.lemmas.List.Sorted.{list_any-IsPermutation, Contains-permutation, IsPermutation-sym, sum_by-IsPermutation}
use Rattle.std.proofs.lemmas.List.Sums.{length-filter}
use Rattle.fy_history.specs.declared.history.DiskLine.{DiskLine}
use Rattle.fy_history.specs.declared.history.Place.{Place}
use Rattle.fy_history.specs.declared.history.Trace.{Trace}
use Rattle.fy_history.specs.declared.history.Trace.TheVariants as trace
use Rattle.fy_history.specs.declared.history.Write.{Write}
use Rattle.fy_records.specs.declared.disks.Extent.{Extent}
use Rattle.fy_records.specs.declared.disks.Found.{Found}
use Rattle.fy_records.specs.declared.judge.Case.{Case}
use Rattle.fy_records.specs.declared.seen.Seen.{Seen}
use Rattle.fy_records.specs.declared.verdict.Verdict.{Verdict}
use Rattle.fy_records.specs.declared.verdict.Verdict.TheVariants.{Lost, Wrong, Missing, Unreadable, Stale, Kept}
use Rattle.fy_records.specs.Evidence.{is_held_by}
use Rattle.fy_records.specs.Found.{some_of}
use Rattle.fy_records.specs.Founds.{found_in, found_of, has_value, is_found, is_clear, is_clear_of, AreExtents}
use Rattle.fy_records.specs.Reads.{Reads}
use Rattle.fy_records.specs.Lines.{only}
use Rattle.fy_records.specs.Traces.{has, stands, says, is_on_disk, is_on_no_disk, all_below}
use Rattle.fy_records.specs.Verdicts.{shows, IsShown, IsStaleFor, IsKnown, is_known_before}
use Rattle.fy_records.proofs.Finding.{contains_first, contains_other, contains_cases, any_agree}
use Rattle.fy_records.proofs.Gathered.{kept_is}

-- some that is kept passes exactly where some passes both tests
pub any_kept : {X : Type 0} (p q : X → Bool) (xs : List X) → list_any p (filter q xs) ≡ list_any (λ x. q x && p x) xs
any_kept p q [] = refl
any_kept {X} p q (x ∷ xs) = by (q x) (any_kept p q xs)
  where
    by : (b : Bool) → list_any p (filter q xs) ≡ list_any (λ x. q x && p x) xs
        → list_any p (cond b (x ∷ filter q xs) (filter q xs)) ≡ ((b && p x) || list_any (λ x. q x && p x) xs)
    by true rest = ap (λ b. p x || b) rest
    by false rest = rest

-- an element that passes is kept
pub kept_there : {X : Type 0} (p : X → Bool) (xs : List X) (y : X) → Contains xs y → p y ≡ true → Contains (filter p xs) y
kept_there p [] y at passes = absurd (omega (arith, at.1))
kept_there {X} p (x ∷ xs) y at passes =
    elim (contains_cases x xs y at) [
      | inl is ↦ here (p x) (ap p is ∙ passes) is
      | inr behind ↦ there (p x) (kept_there p xs y behind passes)
    ]
  where
    here : (b : Bool) → b ≡ true → x ≡ y → Contains (cond b (x ∷ filter p xs) (filter p xs)) y
    here b e is = subst (λ (b : Bool). Contains (cond b (x ∷ filter p xs) (filter p xs)) y) (sym e) (subst (λ (z : X). Contains (x ∷ filter p xs) z) is (contains_first x (filter p xs)))

    there : (b : Bool) → Contains (filter p xs) y → Contains (cond b (x ∷ filter p xs) (filter p xs)) y
    there true kept = contains_other x (filter p xs) y kept
    there false kept = kept

-- two lists have the same reads
pub record SameReads (xs ys : List Seen) : Type 0 where
  pub any : (p : Seen → Bool) → list_any p xs ≡ list_any p ys
  pub both : (s : Seen) → Contains xs s → Contains ys s

pub same_kept : (p : Seen → Bool) (xs ys : List Seen) → IsPermutation xs ys → SameReads (filter p ys) (filter p xs)
same_kept p xs ys same = record {
  any = λ q. any_kept q p ys ∙ sym (list_any-IsPermutation (λ x. p x && q x) xs ys same) ∙ sym (any_kept q p xs);
  both = λ s at.
      let kept = kept_is p ys s at in
      kept_there p xs s (Contains-permutation ys xs s (IsPermutation-sym xs ys same) kept.0) kept.1;
}

-- so the same is asked of them
pub same_some : (xs ys : List Seen) → SameReads xs ys → some_of xs ≡ some_of ys
same_some xs ys same = fun_ext same.any

-- what shows a verdict is there
shown_there : (xs ys : List Seen) → SameReads xs ys → (test : Option (Seen → Bool)) (seen : Option Seen) → IsShown xs test seen → IsShown ys test seen
shown_there xs ys same None seen shown = shown
shown_there xs ys same (Some test) None shown = shown
shown_there xs ys same (Some test) (Some seen) (at, holds) = (same.both seen at, holds)

pub shown_alike : (xs ys : List Seen) → SameReads xs ys → (c : Case) (verdict : Verdict) (seen : Option Seen)
    → IsShown xs (shows (some_of xs) c verdict) seen → IsShown ys (shows (some_of ys) c verdict) seen
shown_alike xs ys same c verdict seen shown =
    shown_there xs ys same (shows (some_of ys) c verdict) seen
    (subst (λ (some : Reads). IsShown xs (shows some c verdict) seen) (same_some xs ys same) shown)

known_alike : (xs ys : List Seen) → SameReads xs ys → (c : Case) (known : Place) → IsKnown xs c known → IsKnown ys c known
known_alike xs ys same c known is = record {
  there = elim is.there [
    | inl ack ↦ inl ack
    | inr told ↦ inr (told.0, same.both told.0 told.1, told.2, told.3)
  ];
  first = sym (ap (λ (some : Reads). is_known_before some c known.line) (same_some xs ys same)) ∙ is.first;
}

pub stale_alike : (xs ys : List Seen) → SameReads xs ys → (c : Case) (verdict : Verdict) (seen : Option Seen) (nanos : ℕ)
    → IsStaleFor xs c verdict seen nanos → IsStaleFor ys c verdict seen nanos
stale_alike xs ys same c Stale None nanos lag = lag
stale_alike xs ys same c Stale (Some seen) nanos (known, is, long) = (known, known_alike xs ys same c known is, long)
stale_alike xs ys same c (Lost loss) seen nanos none = none
stale_alike xs ys same c Wrong seen nanos none = none
stale_alike xs ys same c Missing seen nanos none = none
stale_alike xs ys same c Unreadable seen nanos none = none
stale_alike xs ys same c Kept seen nanos none = none

-- some of what is made of lines passes exactly where some line does
any_made : {X Y : Type 0} (f : X → Option Y) (p : Y → Bool) (xs : List X) → list_any p (filter_map f xs) ≡ list_any (λ x. option_map_or p (f x) false) xs
any_made f p [] = refl
any_made {X} {Y} f p (x ∷ xs) = by (f x) (any_made f p xs)
  where
    by : (made : Option Y) → list_any p (filter_map f xs) ≡ list_any (λ x. option_map_or p (f x) false) xs
        → list_any p (cons_option made (filter_map f xs)) ≡ (option_map_or p made false || list_any (λ x. option_map_or p (f x) false) xs)
    by None rest = rest
    by (Some y) rest = ap (λ b. p y || b) rest

-- what is asked of what was found of a key is asked of the lines of disks
asked_of_disks : (disks : List DiskLine) (founds : List Found) (key : ℕ) (p : Found → Bool) → IsPermutation (filter_map found_of disks) founds
    → list_any p (filter (λ found. found.key == key) founds)
    ≡ list_any (λ line. option_map_or (λ found. (found.key == key) && p found) (found_of line) false) disks
asked_of_disks disks founds key p same =
    any_kept p (λ found. found.key == key) founds
    ∙ sym (list_any-IsPermutation (λ found. (found.key == key) && p found) _ founds same)
    ∙ any_made found_of (λ found. (found.key == key) && p found) disks

and_none : (b : Bool) → (b && false) ≡ false
and_none true = refl
and_none false = refl

and_turned : (a b : Bool) → (a && (b && true)) ≡ (b && a)
and_turned true true = refl
and_turned true false = refl
and_turned false true = refl
and_turned false false = refl

and_two : (a b : Bool) → (a && (b && false)) ≡ (b && false)
and_two true b = refl
and_two false true = refl
and_two false false = refl

has_in : (key value node : ℕ) (t : Trace) → option_map_or (λ found. (found.key == key) && has_value value found) (found_in node t) false ≡ has key value t
has_in key value node (trace.Has k v) = refl
has_in key value node (trace.Stands k) = and_none (k == key)
has_in key value node trace.All = refl
has_in key value node trace.Some = refl
has_in key value node trace.NothingElse = refl

pub found_is_there : (disks : List DiskLine) (founds : List Found) (key value : ℕ) → IsPermutation (filter_map found_of disks) founds
    → is_found (filter (λ found. found.key == key) founds) value ≡ is_on_disk disks key value
found_is_there disks founds key value same =
    asked_of_disks disks founds key (has_value value) same
    ∙ any_agree _ _ disks (λ line at. has_in key value line.node line.trace)

stands_in : (key node at : ℕ) (t : Trace) → option_map_or (λ found. (found.key == key) && ((found.node == node) && is_none found.value)) (found_in at t) false ≡ ((at == node) && stands key t)
stands_in key node at (trace.Has k v) = and_two (k == key) (at == node)
stands_in key node at (trace.Stands k) = and_turned (k == key) (at == node)
stands_in key node at trace.All = sym (and_none (at == node))
stands_in key node at trace.Some = sym (and_none (at == node))
stands_in key node at trace.NothingElse = sym (and_none (at == node))

stands_there : (disks : List DiskLine) (founds : List Found) (key node : ℕ) → IsPermutation (filter_map found_of disks) founds
    → list_any (λ found. (found.node == node) && is_none found.value) (filter (λ found. found.key == key) founds) ≡ says disks node (stands key)
stands_there disks founds key node same =
    asked_of_disks disks founds key (λ found. (found.node == node) && is_none found.value) same
    ∙ any_agree _ _ disks (λ line at. stands_in key node line.node line.trace)

below_agree : (n : ℕ) (p q : ℕ → Bool) → ((m : ℕ) → m < n → p m ≡ q m) → all_below n p ≡ all_below n q
below_agree zero p q same = refl
below_agree (suc n) p q same =
    ap (λ b. b && p n) (below_agree n p q (λ m within. same m (omega (arith, within))))
    ∙ ap (λ b. all_below n q && b) (same n (omega arith))

clear_is : (founds : List Found) (node : ℕ) (extent : Option Extent) (w p s : Bool) → extent ≡ Some record { whole = w; plain = p }
    → list_any (λ found. (found.node == node) && is_none found.value) founds ≡ s
    → (extents : List Extent) → slice_get extents node ≡ extent → is_clear_of extents founds node ≡ (w || (p && not s))
clear_is founds node extent w p s is stands extents at =
    ap (λ (e : Option Extent). is_clear e founds node) (at ∙ is) ∙ ap (λ b. w || (p && not b)) stands

pub on_no_disk_is : (disks : List DiskLine) (founds : List Found) (extents : List Extent) (processes key value : ℕ)
    → IsPermutation (filter_map found_of disks) founds → AreExtents disks processes extents
    → (not (is_found (filter (λ found. found.key == key) founds) value)
    && all_below (length extents) (is_clear_of extents (filter (λ found. found.key == key) founds)))
    ≡ is_on_no_disk disks processes key value
on_no_disk_is disks founds extents processes key value same are =
    ap (λ b. not b && all_below (length extents) (is_clear_of extents (filter (λ found. found.key == key) founds))) (found_is_there disks founds key value same)
    ∙ ap (λ n. not (is_on_disk disks key value) && all_below n (is_clear_of extents (filter (λ found. found.key == key) founds))) are.each
    ∙ ap (λ b. not (is_on_disk disks key value) && b) (below_agree processes _ _ (λ node within.
    clear_is (filter (λ found. found.key == key) founds) node _ _ _ _ refl (stands_there disks founds key node same) extents (are.so_far node within)))

-- lists of which one has what the other has, and as many, have the same only element
pub same_only : (us vs : List Write) → length us ≡ length vs → ((a : Write) → Contains us a → Contains vs a) → only us ≡ only vs
same_only [] [] long both = refl
same_only [] (v ∷ vs) long both = absurd (omega (arith, long))
same_only (u ∷ []) [] long both = absurd (omega (arith, long))
same_only (u ∷ []) (v ∷ []) long both =
    elim (contains_cases v [] u (both u (contains_first u []))) [
      | inl is ↦ ap (λ (w : Write). Some w) (sym is)
      | inr behind ↦ absurd (omega (arith, behind.1))
    ]
same_only (u ∷ []) (v ∷ w ∷ vs) long both = absurd (omega (arith, long))
same_only (u ∷ t ∷ us) [] long both = absurd (omega (arith, long))
same_only (u ∷ t ∷ us) (v ∷ []) long both = absurd (omega (arith, long))
same_only (u ∷ t ∷ us) (v ∷ w ∷ vs) long both = refl

-- a key has as many writes in the table as in the history, and the same record
pub same_long : (p : Write → Bool) (xs ys : List Write) → IsPermutation xs ys → length (filter p ys) ≡ length (filter p xs)
same_long p xs ys same =
    length-filter p ys ∙ sum_by-IsPermutation (λ x. cond (p x) 1 0) xs ys same ∙ sym (length-filter p xs)

pub same_record : (p : Write → Bool) (xs ys : List Write) → IsPermutation xs ys → only (filter p ys) ≡ only (filter p xs)
same_record p xs ys same =
    same_only (filter p ys) (filter p xs) (same_long p xs ys same)
    (λ a at.
    let kept = kept_is p ys a at in
    kept_there p xs a (Contains-permutation ys xs a (IsPermutation-sym xs ys same) kept.0) kept.1)

and_three : (a b c : Bool) → (a && (b && c)) ≡ ((a && b) && c)
and_three true b c = refl
and_three false b c = refl

held_in : (key value process node : ℕ) (t : Trace) → option_map_or (λ found. (found.key == key) && is_held_by value process found) (found_in node t) false ≡ (has key value t && (node == process))
held_in key value process node (trace.Has k v) = and_three (k == key) (v == value) (node == process)
held_in key value process node (trace.Stands k) = and_none (k == key)
held_in key value process node trace.All = refl
held_in key value process node trace.Some = refl
held_in key value process node trace.NothingElse = refl

pub held_there : (disks : List DiskLine) (founds : List Found) (key value process : ℕ) → IsPermutation (filter_map found_of disks) founds
    → list_any (is_held_by value process) (filter (λ found. found.key == key) founds)
    ≡ list_any (λ line. has key value line.trace && (line.node == process)) disks
held_there disks founds key value process same =
    asked_of_disks disks founds key (is_held_by value process) same
    ∙ any_agree _ _ disks (λ line at. held_in key value process line.node line.trace)
