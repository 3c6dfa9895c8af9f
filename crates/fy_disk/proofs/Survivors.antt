-- a loop that moves the items that pass forward, over those that don't
use Rattle.std.proofs.Common.{◌≡◌, ℕ, ◌+◌, ◌-◌, ◌<◌, ◌≤◌, Bool, true, false, List, [], ◌∷◌, ◌++◌, length, get_or, set, take, drop, refl, sym, ap, ap₂, ◌∙◌, append_assoc, arith, length-set}
use Rattle.std.specs.Prelude.{◌&&◌, ◌==◌, nat_lt, min}
use Rattle.std.specs.Int.{bit_at}
use Rattle.std.proofs.lemmas.Bool.Decides.{nat_tests}
use Rattle.std.proofs.lemmas.List.{take_more, drop_more, drop_all, take_all, take-take, take-append-le, length-append, length-drop, length-take-le, take-set-le, drop-set-lt}
use Rattle.std.proofs.Math.Seq.{take-append-add}
use Rattle.std.specs.List.{SwappedAt}
use Rattle.fy_disk.specs.declared.item.Item.{Item}
use Rattle.fy_disk.specs.Disk.{filter_by_place, outlives, survivors, crashed}

some_item : Item
some_item = record { rec = 0; payload = [] }

-- `was` is worked into `now`: what is kept so far, and then what passes of the rest, is what is
-- wanted
pub record GatheredSoFar (test : ℕ → Bool) (was now : List Item) (kept at : ℕ) : Type 0 where
  pub behind : kept ≤ at
  pub long : length now ≡ length was
  pub wanted : take kept now ++ filter_by_place test at (drop at now) ≡ filter_by_place test 0 was

passing_no : (test : ℕ → Bool) (place : ℕ) (x : Item) (xs : List Item) → test place ≡ false → filter_by_place test place (x ∷ xs) ≡ filter_by_place test (place + 1) xs
passing_no test place x xs fails = rw fails refl

passing_yes : (test : ℕ → Bool) (place : ℕ) (x : Item) (xs : List Item) → test place ≡ true → filter_by_place test place (x ∷ xs) ≡ x ∷ filter_by_place test (place + 1) xs
passing_yes test place x xs passes = rw passes refl

-- the item at `at` doesn't pass
pub gathered_past : (test : ℕ → Bool) (was now : List Item) (kept at : ℕ) → GatheredSoFar test was now kept at → at < length now → test at ≡ false → GatheredSoFar test was now kept (at + 1)
gathered_past test was now kept at works within fails =
    let rest : filter_by_place test at (drop at now) ≡ filter_by_place test (at + 1) (drop (at + 1) now) =
    ap (filter_by_place test at) (drop_more now at some_item within) ∙ passing_no test at _ (drop (at + 1) now) fails in
    record {
      behind = omega (arith, works.behind);
      long = works.long;
      wanted = ap (λ xs. take kept now ++ xs) (sym rest) ∙ works.wanted;
    }

-- the item at `at` passes, and is swapped to where the kept ones end
pub gathered_kept : (test : ℕ → Bool) (was now after : List Item) (kept at : ℕ) → GatheredSoFar test was now kept at → at < length now → test at ≡ true → SwappedAt now after kept at
    → GatheredSoFar test was after (kept + 1) (at + 1)
gathered_kept test was now after kept at works within passes swapped =
    let x : Item = get_or now at some_item in
    let y : Item = get_or now kept some_item in
    let is : after ≡ set (set now kept x) at y = swapped.3 some_item in
    let behind : kept ≤ at = works.behind in
    let long : length after ≡ length now = ap length is ∙ length-set (set now kept x) at y ∙ length-set now kept x in
    let front : take kept after ≡ take kept now = ap (take kept) is ∙ take-set-le kept (set now kept x) at y behind ∙ take-set-le kept now kept x (omega arith) in
    let back : drop (at + 1) after ≡ drop (at + 1) now =
    ap (drop (at + 1)) is ∙ drop-set-lt (at + 1) (set now kept x) at y (omega arith) ∙ drop-set-lt (at + 1) now kept x (omega arith) in
    let more : take (kept + 1) after ≡ take kept now ++ x ∷ [] =
    take_more after kept some_item (omega (arith, long)) ∙ ap₂ (λ xs z. xs ++ z ∷ []) front (swapped.0 some_item) in
    let rest : filter_by_place test at (drop at now) ≡ x ∷ filter_by_place test (at + 1) (drop (at + 1) after) =
    ap (filter_by_place test at) (drop_more now at some_item within)
    ∙ passing_yes test at x (drop (at + 1) now) passes
    ∙ ap (λ xs. x ∷ filter_by_place test (at + 1) xs) (sym back) in
    record {
      behind = omega arith;
      long = long ∙ works.long;
      wanted = ap (λ xs. xs ++ filter_by_place test (at + 1) (drop (at + 1) after)) more ∙ append_assoc (take kept now) (x ∷ []) _ ∙ ap (λ xs. take kept now ++ xs) (sym rest) ∙ works.wanted;
    }

-- ---- where the loop ends

passing_none : (tear at : ℕ) (xs : List Item) → 64 ≤ at → filter_by_place (outlives tear) at xs ≡ []
passing_none tear at [] past = refl
passing_none tear at (x ∷ xs) past =
    passing_no (outlives tear) at x xs (ap (λ b. b && bit_at tear at == 1) (let e : nat_lt at 64 ≡ false = grind (arith, nat_tests) in e))
    ∙ passing_none tear (at + 1) xs (omega arith)

-- of the items behind the first 64 none is left
passing_rest : (tear at : ℕ) (xs : List Item) → min (length xs) 64 ≤ at → filter_by_place (outlives tear) at (drop at xs) ≡ []
passing_rest tear at xs past = go (nat_lt at 64) refl
  where
    go : (b : Bool) → nat_lt at 64 ≡ b → filter_by_place (outlives tear) at (drop at xs) ≡ []
    go true e = ap (filter_by_place (outlives tear) at) (drop_all at xs (let below : at < 64 = grind (arith, nat_tests) in omega arith))
    go false e = passing_none tear at (drop at xs) (grind (arith, nat_tests))

append_none : (xs ys : List Item) → ys ≡ [] → xs ++ ys ≡ xs
append_none [] ys none = none
append_none (x ∷ xs) ys none = ap (λ zs. x ∷ zs) (append_none xs ys none)

-- so those kept are the survivors
pub gathered_done : (tear : ℕ) (was now : List Item) (kept at : ℕ) → GatheredSoFar (outlives tear) was now kept at → min (length was) 64 ≤ at → take kept now ≡ survivors tear was
gathered_done tear was now kept at works past =
    sym (append_none (take kept now) _ (passing_rest tear at now (omega (arith, works.long)))) ∙ works.wanted

-- ---- a crash of the items behind those that are synced

-- what is kept of the written-back items: the front, and what is kept behind it
pub front_and_kept : (xs moved past rest : List Item) (synced kept len : ℕ) → synced ≤ length xs → kept ≤ length moved → synced + kept ≤ len
    → take (synced + kept) (take len ((take synced xs ++ (moved ++ past)) ++ rest)) ≡ take synced xs ++ take kept moved
front_and_kept xs moved past rest synced kept len within few le =
    take-take (synced + kept) len _ le
    ∙ ap (take (synced + kept)) (append_assoc (take synced xs) (moved ++ past) rest)
    ∙ ap (λ n. take (n + kept) (take synced xs ++ ((moved ++ past) ++ rest))) (sym (length-take-le synced xs within))
    ∙ take-append-add (take synced xs) ((moved ++ past) ++ rest) kept
    ∙ ap (λ ys. take synced xs ++ take kept ys) (append_assoc moved past rest)
    ∙ ap (λ ys. take synced xs ++ ys) (take-append-le kept moved (past ++ rest) few)

pub crashed_is : (tear : ℕ) (xs moved new : List Item) (synced kept : ℕ) → synced ≤ length xs → kept ≤ length moved → new ≡ take synced xs ++ take kept moved
    → take kept moved ≡ survivors tear (take (length xs - synced) (drop synced xs))
    → record { synced = take (synced + kept) new; unsynced = drop (synced + kept) new } ≡ crashed tear (record { synced = take synced xs; unsynced = drop synced xs })
crashed_is tear xs moved new synced kept within few is left =
    let long : length new ≡ synced + kept =
    ap length is ∙ length-append (take synced xs) (take kept moved) ∙ ap₂ (λ m n. m + n) (length-take-le synced xs within) (length-take-le kept moved few) in
    let all : take (length xs - synced) (drop synced xs) ≡ drop synced xs = take_all (length xs - synced) (drop synced xs) (omega (arith, length-drop synced xs)) in
    let is_front : take (synced + kept) new ≡ take synced xs ++ survivors tear (drop synced xs) =
    take_all (synced + kept) new (omega arith) ∙ is ∙ ap (λ ys. take synced xs ++ ys) (left ∙ ap (survivors tear) all) in
    ap₂ (λ front back. record { synced = front; unsynced = back }) is_front (drop_all (synced + kept) new (omega arith))
