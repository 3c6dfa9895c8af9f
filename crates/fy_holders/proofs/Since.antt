-- what is so since a position, by the turns of each process
use Rattle.std.proofs.Common.{◌≡◌, ℕ, zero, suc, ◌+◌, ◌<◌, ◌≤◌, min, ◌&&◌, ◌||◌, not, ◌==◌, Bool, true, false, List, [], ◌∷◌, length, refl, sym, ◌∙◌, ap, subst, arith, Global, Vec, nat_lt, lt-ltb}
use Rattle.std.proofs.Math.Nat.{min-le_left, min-le_right, le-min}
use Rattle.std.specs.Prelude.{Option, Some, None, slice_get}
use Rattle.std.specs.Ordering.{nat_cmp}
use Rattle.std.specs.FinSet as sets
use Rattle.std.specs.Cmp.{nat_cmp_total, unsigned_tied}
use Rattle.std.proofs.lemmas.Bool.{false≢true, both_ways, and_parts, and_from, not-true}
use Rattle.std.proofs.lemmas.Bool.Decides.{nat_tests}
use Rattle.fy_locality.specs.declared.locality.Locality.{Locality}
use Rattle.fy_policy.specs.Tree.{Tree}
use Rattle.fy_policy.specs.Sat.{satisfies}
use Rattle.fy_policy.specs.Laws.{MoreOfMapSatisfies, TestIsSatisfaction}
use Rattle.fy_decide.specs.Safety.{AreShort, all_short}
use Rattle.fy_acts.specs.declared.entry.Entry.{Entry}
use Rattle.fy_cluster.specs.Setup.{Setup}
use Rattle.fy_cluster.specs.History.{ProcessSet}
use Rattle.fy_holders.specs.declared.outages.Since.{Since}
use Rattle.fy_holders.specs.Destroyed.{destroyed_since}
use Rattle.fy_holders.specs.Blames.{IsToBlame}
use Rattle.fy_holders.specs.Turns.{turned, AreTurns, AreTurnsOfEach, AreTurnsUpTo, IsLast, IsLastSince}
use Rattle.fy_holders.specs.Noted.{Covers, IsSetSince, IsSince, blame_by}
use Rattle.fy_holders.proofs.Positions.{since_at, since_from}

-- at a position from one to the end a process is destroyed by its turns
pub record DestroyedBy (turns : List (Vec ℕ Global)) (to end q : ℕ) : Type 0 where
  pub list : Vec ℕ Global
  pub there : slice_get turns q ≡ Some list
  pub position : ℕ
  pub from : to ≤ position
  pub until : position ≤ end
  pub is : turned list.items position ≡ true

-- of the processes below one, the set has those that were destroyed since a position, and all these
-- were so at another one too
pub record IsSinceUpTo (turns : List (Vec ℕ Global)) (from end p to : ℕ) (set : sets.FinSet nat_cmp) : Type 0 where
  pub ins : (q : ℕ) → sets.contains set q ≡ true → (q < p) × DestroyedBy turns to end q
  pub outs : (q : ℕ) → q < p → DestroyedBy turns from end q → sets.contains set q ≡ true
  pub to_end : to ≤ end
  pub from_to : from ≤ end → from ≤ to

insert_has : (s : sets.FinSet nat_cmp) (p q : ℕ) → sets.contains (sets.insert s p) q ≡ (q == p || sets.contains s q)
insert_has s p q = sets.contains-insert nat_cmp_total s p q ∙ ap (λ b. b || sets.contains s q) (unsigned_tied q p)

equal : (a b : ℕ) → (a == b) ≡ true → a ≡ b
equal a b e = grind (arith, nat_tests)

same_is : (a : ℕ) → (a == a) ≡ true
same_is a = grind (arith, nat_tests)

pub since_none : (turns : List (Vec ℕ Global)) (from end : ℕ) → IsSinceUpTo turns from end 0 end sets.empty
since_none turns from end = record {
  ins = λ q there. absurd (false≢true (sym (sets.contains-empty nat_cmp q) ∙ there));
  outs = λ q below by. absurd (omega arith);
  to_end = omega arith;
  from_to = λ l. l;
}

-- earlier positions have it too
by_earlier : (turns : List (Vec ℕ Global)) (to less end q : ℕ) → less ≤ to → DestroyedBy turns to end q → DestroyedBy turns less end q
by_earlier turns to less end q l by = let from = by.from in record { list = by.list; there = by.there; position = by.position; from = omega arith; until = by.until; is = by.is }

-- one process more, that was destroyed since
pub since_in : (turns : List (Vec ℕ Global)) (from end p to last : ℕ) (set : sets.FinSet nat_cmp) → IsLastSince from end turns p (Some last) → IsSinceUpTo turns from end p to set → IsSinceUpTo turns from end (p + 1) (min to last) (sets.insert set p)
since_in turns from end p to last set is_last upto = record {
  ins = λ q there. in_one q (q == p) refl (sym (insert_has set p q) ∙ there);
  outs = λ q below by. out_one q (q == p) refl below by;
  to_end = let l = upto.to_end in let m = min-le_left to last in omega arith;
  from_to = λ l. let m = upto.from_to l in le-min m is_last.3;
}
  where
    at_last : (o : Option ℕ) → o ≡ Some last → (list : Vec ℕ Global) → IsLast end list.items o → (last ≤ end) × (turned list.items last ≡ true)
    at_last o e list (IsLast.at k within is past) = let same : k ≡ last = cc in (subst (λ n. n ≤ end) same within, subst (λ n. turned list.items n ≡ true) same is)
    at_last o e list (IsLast.never none) = absurd (cc)

    in_one : (q : ℕ) (b : Bool) → (q == p) ≡ b → (q == p || sets.contains set q) ≡ true → (q < p + 1) × DestroyedBy turns (min to last) end q
    in_one q true is there =
        let same : q ≡ p = equal q p is in
        let found = at_last (Some last) refl is_last.0 is_last.2 in
        (omega arith, record { list = is_last.0; there = ap (slice_get turns) same ∙ is_last.1; position = last; from = min-le_right to last; until = found.0; is = found.1 })
    in_one q false is there =
        let was = upto.ins q (sym (ap (λ b. b || sets.contains set q) is) ∙ there) in
        let l = was.0 in
        (omega arith, by_earlier turns to (min to last) end q (min-le_left to last) was.1)

    out_one : (q : ℕ) (b : Bool) → (q == p) ≡ b → q < p + 1 → DestroyedBy turns from end q → sets.contains (sets.insert set p) q ≡ true
    out_one q true is below by = insert_has set p q ∙ ap (λ b. b || sets.contains set q) is
    out_one q false is below by =
        let ne : q ≡ p → ⊥ = λ s. both_ways (q == p) is (ap (λ k. k == p) s ∙ same_is p) in
        let less : q < p = omega arith in
        insert_has set p q ∙ ap (λ b. b || sets.contains set q) is ∙ upto.outs q less by

-- or that wasn't
pub since_out : (turns : List (Vec ℕ Global)) (from end p to : ℕ) (set : sets.FinSet nat_cmp) → IsLastSince from end turns p None → IsSinceUpTo turns from end p to set → IsSinceUpTo turns from end (p + 1) to set
since_out turns from end p to set none upto = record {
  ins = λ q there. let was = upto.ins q there in let l = was.0 in (omega arith, was.1);
  outs = λ q below by. out_one q (q == p) refl below by;
  to_end = upto.to_end;
  from_to = upto.from_to;
}
  where
    out_one : (q : ℕ) (b : Bool) → (q == p) ≡ b → q < p + 1 → DestroyedBy turns from end q → sets.contains set q ≡ true
    out_one q true is below by =
        let same : q ≡ p = equal q p is in
        let lists : Some by.list ≡ Some none.0 = sym by.there ∙ ap (slice_get turns) same ∙ none.1 in
        let list : by.list ≡ none.0 = cc in
        absurd (false≢true (sym (none.2 by.position by.from by.until) ∙ ap (λ (v : Vec ℕ Global). turned v.items by.position) (sym list) ∙ by.is))
    out_one q false is below by =
        let ne : q ≡ p → ⊥ = λ s. both_ways (q == p) is (ap (λ k. k == p) s ∙ same_is p) in
        let less : q < p = omega arith in
        upto.outs q less by

-- the last of those before
pub last_before : (from end last : ℕ) (turns : List ℕ) → IsLast end turns (Some last) → last < from → (k : ℕ) → from ≤ k → k ≤ end → turned turns k ≡ false
last_before from end last turns is before = at (Some last) refl is
  where
    at : (o : Option ℕ) → o ≡ Some last → IsLast end turns o → (k : ℕ) → from ≤ k → k ≤ end → turned turns k ≡ false
    at o e (IsLast.at j within there past) k low high = let same : j ≡ last = cc in past k (omega arith) high
    at o e (IsLast.never none) k low high = none k

pub last_never : (end : ℕ) (turns : List ℕ) → IsLast end turns None → (k : ℕ) → turned turns k ≡ false
last_never end turns is = at None refl is
  where
    at : (o : Option ℕ) → o ≡ None → IsLast end turns o → (k : ℕ) → turned turns k ≡ false
    at o e (IsLast.at j within there past) k = absurd (cc)
    at o e (IsLast.never none) k = none k

-- ---- what that says of a journal

iff : (a b : Bool) → (a ≡ true → b ≡ true) → (b ≡ true → a ≡ true) → a ≡ b
iff true b f g = sym (f refl)
iff false true f g = g refl
iff false false f g = refl

pub since_set : (c : Setup) (journal : List Entry) (turns : List (Vec ℕ Global)) (from end to : ℕ) (set : sets.FinSet nat_cmp) → AreTurnsOfEach c journal turns → end ≡ length journal → IsSinceUpTo turns from end (length c.processes) to set → (m : ℕ) → from ≤ m → m ≤ to → IsSetSince c journal m set
since_set c journal turns from end to set are last upto m low high q = iff (sets.contains set q) (nat_lt q (length c.processes) && destroyed_since c journal m q) forth back
  where
    forth : sets.contains set q ≡ true → (nat_lt q (length c.processes) && destroyed_since c journal m q) ≡ true
    forth there =
        let was = upto.ins q there in
        let by = was.1 in
        let from = by.from in
        let until = by.until in
        let within : by.position ≤ length journal = omega arith in
        and_from (nat_lt q (length c.processes)) _ (lt-ltb q (length c.processes) was.0) (since_at c journal m q by.position (omega arith) within ((are.each q by.list by.there).each by.position within ∙ by.is))

    back : (nat_lt q (length c.processes) && destroyed_since c journal m q) ≡ true → sets.contains set q ≡ true
    back both =
        let parts = and_parts (nat_lt q (length c.processes)) (destroyed_since c journal m q) both in
        let below : q < length c.processes = grind (arith, nat_tests, parts.0) in
        let found = since_from c journal m q parts.1 in
        let count = are.count in
        let list = item turns q (omega arith) in
        let f = found.from in
        let t = found.to in
        upto.outs q below (record { list = list.0; there = list.1; position = found.position; from = omega arith; until = omega arith; is = sym ((are.each q list.0 list.1).each found.position t) ∙ found.is })
      where
        item : (xs : List (Vec ℕ Global)) (i : ℕ) → i < length xs → (v : Vec ℕ Global) × (slice_get xs i ≡ Some v)
        item [] i l = absurd (omega arith)
        item (x ∷ xs) zero l = (x, refl)
        item (x ∷ xs) (suc i) l = item xs i (omega arith)

-- ---- who is to blame

short_by_test : TestIsSatisfaction → (processes : List Locality) (policies : List Tree) (s : ProcessSet) → all_short processes policies s ≡ true → AreShort processes policies s
short_by_test law processes [] s e = tt
short_by_test law processes (P ∷ policies) s e =
    let parts = and_parts (not (satisfies processes P s)) (all_short processes policies s) e in
    (λ sat. both_ways _ (not-true _ parts.0) ((law processes P s).1 sat), short_by_test law processes policies s parts.1)

test_by_short : TestIsSatisfaction → (processes : List Locality) (policies : List Tree) (s : ProcessSet) → AreShort processes policies s → all_short processes policies s ≡ true
test_by_short law processes [] s short = refl
test_by_short law processes (P ∷ policies) s short = and_from (not (satisfies processes P s)) _ (no (satisfies processes P s) refl) (test_by_short law processes policies s short.1)
  where
    no : (b : Bool) → satisfies processes P s ≡ b → not (satisfies processes P s) ≡ true
    no true is = absurd (short.0 ((law processes P s).0 is))
    no false is = ap not is

short_less_of_map : MoreOfMapSatisfies → (processes : List Locality) (policies : List Tree) (s t : ProcessSet) → ((p : ℕ) → p < length processes → s p ≡ true → t p ≡ true) → AreShort processes policies t → AreShort processes policies s
short_less_of_map more processes [] s t within short = tt
short_less_of_map more processes (P ∷ policies) s t within short = (λ sat. short.0 (more processes P s t within sat), short_less_of_map more processes policies s t within short.1)

pub since_blame : MoreOfMapSatisfies → TestIsSatisfaction → (c : Setup) (journal : List Entry) (m : ℕ) (set : sets.FinSet nat_cmp) → IsSetSince c journal m set → IsToBlame c journal m (blame_by (all_short c.processes c.policies (sets.contains set)))
since_blame more law c journal m set is = at (all_short c.processes c.policies (sets.contains set)) refl
  where
    into : (p : ℕ) → p < length c.processes → destroyed_since c journal m p ≡ true → sets.contains set p ≡ true
    into p l d = is p ∙ and_from (nat_lt p (length c.processes)) _ (lt-ltb p (length c.processes) l) d

    out : (p : ℕ) → p < length c.processes → sets.contains set p ≡ true → destroyed_since c journal m p ≡ true
    out p l there = (and_parts (nat_lt p (length c.processes)) _ (sym (is p) ∙ there)).1

    at : (b : Bool) → all_short c.processes c.policies (sets.contains set) ≡ b → IsToBlame c journal m (blame_by b)
    at true e = short_less_of_map more c.processes c.policies _ (sets.contains set) into (short_by_test law c.processes c.policies (sets.contains set) e)
    at false e = λ short. both_ways _ e (test_by_short law c.processes c.policies (sets.contains set) (short_less_of_map more c.processes c.policies (sets.contains set) _ out short))

-- ---- the turns of a journal

pub turns_up_to : (c : Setup) (journal : List Entry) (end : ℕ) (turns : List (Vec ℕ Global)) → end ≡ length journal → AreTurnsOfEach c journal turns → AreTurnsUpTo end turns
turns_up_to c journal end turns e are p list there = subst (λ n. AreTurns n list.items) (sym e) (are.each p list there).are

-- what is so since a position that is one of those
pub since_covered : (c : Setup) (journal : List Entry) (since : Since) (m : ℕ) → IsSince c journal since → Covers m since → IsToBlame c journal m since.blame
since_covered c journal since m is covers = is.blame m covers.from covers.to
