-- what is noted of a journal, entry by entry
use Rattle.std.proofs.Common.{◌≡◌, ℕ, zero, suc, ◌+◌, ◌<◌, ◌≤◌, ◌&&◌, ◌||◌, not, nat_le, Bool, true, false, List, [], ◌∷◌, ◌++◌, length, map, length-append, Option, Some, None, slice_get, option_map, option_to_list, refl, sym, ◌∙◌, ap, ap₂, subst, arith, ◌⊎◌, inl, inr, append_assoc, Global, Vec}
use Rattle.std.specs.Ordering.{nat_cmp}
use Rattle.std.specs.FinSet as sets
use Rattle.std.specs.List.{AllByRecursion}
use Rattle.std.specs.Prelude.{IsSome, is_some}
use Rattle.std.specs.Cmp.{nat_cmp_total}
use Rattle.std.proofs.lemmas.List.{take_all}
use Rattle.fy_acts.specs.declared.version.Version.{Version}
use Rattle.fy_cluster.specs.Versions.{LegalUnder}
use Rattle.fy_replay.specs.Replayed.{Replayed, HasReplayed, HasFirstBad}
use Rattle.fy_acts.specs.declared.entry.Entry.{Entry}
use Rattle.fy_events.specs.declared.event.Done.{Done}
use Rattle.fy_cluster.specs.Setup.{Setup, IsSetup, is_between}
use Rattle.fy_cluster.specs.declared.config.TheConstants.{MOST_JOURNAL_ENTRIES}
use Rattle.std.proofs.lemmas.Bool.{and_parts}
use Rattle.std.proofs.lemmas.Bool.Decides.{nat_tests}
use Rattle.fy_cluster.specs.History.{history, destroyed}
use Rattle.fy_cluster.specs.Replies.{Legal}
use Rattle.fy_holders.specs.declared.outages.Heal.{Heal}
use Rattle.fy_holders.specs.Destroyed.{destroyed_at, heal_of, heals_in}
use Rattle.fy_holders.specs.Turns.{is_odd, turned, AreTurnsOf, AreEmpty, with_turn, WithTurns}
use Rattle.fy_holders.specs.Noted.{answer_of, AreNoted}
use Rattle.fy_holders.proofs.Positions.{of_front}
use Rattle.fy_holders.proofs.Turning.{odd_push, turned_before, turned_past, within_more, within_push, rise_push}

-- ---- before any entry

pub none_noted : (c : Setup) (turns : List (Vec ℕ Global)) → Legal c [] → AreEmpty (length c.processes) turns → AreNoted c [] 0 turns [] []
none_noted c turns legal empty = record {
  legal = legal;
  end_is = refl;
  turns_are = record { count = empty.count_is; each = λ p list there. no_turns p list.items (empty.each p list there) };
  heals_are = refl;
  answers_are = refl;
}
  where
    at : (k p : ℕ) → destroyed_at c [] k p ≡ false
    at k p = ap (λ (entries : List Entry). destroyed (history c entries) p) (take_all k [] (omega arith))

    no_turns : (p : ℕ) (items : List ℕ) → items ≡ [] → AreTurnsOf c [] p items
    no_turns p items e = subst (AreTurnsOf c [] p) (sym e) (record { are = record { rise = tt; within = tt }; each = λ k within. at k p })

-- ---- one entry more

heals_push : (journal : List Entry) (e : Entry) → heals_in (journal ++ e ∷ []) ≡ heals_in journal ++ option_to_list (heal_of e)
heals_push [] e = append_nil (option_to_list (heal_of e))
  where
    append_nil : (xs : List Heal) → xs ++ [] ≡ xs
    append_nil [] = refl
    append_nil (x ∷ xs) = ap (λ ys. x ∷ ys) (append_nil xs)
heals_push (x ∷ journal) e = ap (λ ys. option_to_list (heal_of x) ++ ys) (heals_push journal e) ∙ sym (append_assoc (option_to_list (heal_of x)) (heals_in journal) (option_to_list (heal_of e)))

answers_push : (journal : List Entry) (e : Entry) → map answer_of (journal ++ e ∷ []) ≡ map answer_of journal ++ answer_of e ∷ []
answers_push [] e = refl
answers_push (x ∷ journal) e = ap (λ ys. answer_of x ∷ ys) (answers_push journal e)

cases_le : (k n : ℕ) → (k ≤ n) ⊎ (n < k)
cases_le zero n = inl (omega arith)
cases_le (suc k) zero = inr (omega arith)
cases_le (suc k) (suc n) = elim (cases_le k n) [ inl l ↦ inl (omega arith) | inr l ↦ inr (omega arith) ]

-- a process turns where it was destroyed before or after, and not both
abbrev pub turns_by : (before after : Bool) → Bool
turns_by before after = (before && not after) || (after && not before)

xor_same : (d e : Bool) → turns_by d e ≡ false → d ≡ e
xor_same true true x = refl
xor_same true false x = absurd (cc)
xor_same false true x = absurd (cc)
xor_same false false x = refl

xor_other : (d e : Bool) → turns_by d e ≡ true → not d ≡ e
xor_other true true x = absurd (cc)
xor_other true false x = refl
xor_other false true x = refl
xor_other false false x = absurd (cc)

pub turns_more : (c : Setup) (journal : List Entry) (e : Entry) (p : ℕ) (turns : List ℕ) (b : Bool) → b ≡ turns_by (destroyed (history c journal) p) (destroyed (history c (journal ++ e ∷ [])) p) → AreTurnsOf c journal p turns → AreTurnsOf c (journal ++ e ∷ []) p (with_turn b (length journal + 1) turns)
turns_more c journal e p turns b is of = at b refl
  where
    n : ℕ
    n = length journal

    longer : List Entry
    longer = journal ++ e ∷ []

    long : length longer ≡ n + 1
    long = length-append journal (e ∷ [])

    past : AllByRecursion (λ t. t ≤ n + 1) turns
    past = within_more turns n (n + 1) (omega arith) of.are.within

    -- by the turns so far
    before : destroyed (history c journal) p ≡ is_odd (length turns)
    before = ap (λ (entries : List Entry). destroyed (history c entries) p) (sym (take_all n journal (omega arith))) ∙ of.each n (omega arith) ∙ turned_past turns n of.are.within

    at_end : destroyed_at c longer (n + 1) p ≡ destroyed (history c longer) p
    at_end = let l = long in ap (λ (entries : List Entry). destroyed (history c entries) p) (take_all (n + 1) longer (omega arith))

    at : (b' : Bool) → b ≡ b' → AreTurnsOf c longer p (with_turn b (n + 1) turns)
    at false e' = subst (λ x. AreTurnsOf c longer p (with_turn x (n + 1) turns)) (sym e') (record {
      are = record { rise = of.are.rise; within = subst (λ m. AllByRecursion (λ t. t ≤ m) turns) (sym long) past };
      each = λ k l. elim (cases_le k n) [
        | inl low ↦ of_front c journal (e ∷ []) k p low ∙ of.each k low
        | inr high ↦ let m = long in let last : n + 1 ≡ k = omega arith in subst (λ k. destroyed_at c longer k p ≡ turned turns k) last
            (at_end ∙ sym (xor_same _ _ (sym is ∙ e')) ∙ before ∙ sym (turned_past turns (n + 1) past))
      ];
    })
    at true e' = subst (λ x. AreTurnsOf c longer p (with_turn x (n + 1) turns)) (sym e') (record {
      are = record {
        rise = rise_push 0 n (n + 1) turns (omega arith) (omega arith) of.are.within of.are.rise;
        within = subst (λ m. AllByRecursion (λ t. t ≤ m) (turns ++ (n + 1) ∷ [])) (sym long) (within_push turns (n + 1) (n + 1) (omega arith) past);
      };
      each = λ k l. elim (cases_le k n) [
        | inl low ↦ of_front c journal (e ∷ []) k p low ∙ of.each k low ∙ sym (turned_before turns (n + 1) k (omega arith))
        | inr high ↦ let m = long in let last : n + 1 ≡ k = omega arith in subst (λ k. destroyed_at c longer k p ≡ turned (turns ++ (n + 1) ∷ []) k) last
            (at_end ∙ sym (xor_other _ _ (sym is ∙ e')) ∙ ap not before ∙ sym (odd_push turns (n + 1)) ∙ sym (turned_past (turns ++ (n + 1) ∷ []) (n + 1) (within_push turns (n + 1) (n + 1) (omega arith) past)))
      ];
    })

-- all that is noted
pub noted_more : (c : Setup) (journal : List Entry) (e : Entry) (end : ℕ) (turns new : List (Vec ℕ Global)) (heals more_heals : List Heal) (answers more_answers : List (Option Done)) (set : sets.FinSet nat_cmp) → Legal c (journal ++ e ∷ []) → ((p : ℕ) → sets.contains set p ≡ turns_by (destroyed (history c journal) p) (destroyed (history c (journal ++ e ∷ [])) p)) → end ≡ length journal + 1 → length new ≡ length turns → WithTurns set end turns new → more_heals ≡ heals ++ option_to_list (heal_of e) → more_answers ≡ answers ++ answer_of e ∷ [] → (old : ℕ) → AreNoted c journal old turns heals answers → AreNoted c (journal ++ e ∷ []) end new more_heals more_answers
noted_more c journal e end turns new heals more_heals answers more_answers set legal turned_is last count with_turns h a old noted = record {
  legal = legal;
  end_is = last ∙ sym (length-append journal (e ∷ []));
  turns_are = record { count = count ∙ noted.turns_are.count; each = λ p list there. one p list there (slice_get turns p) refl };
  heals_are = h ∙ ap (λ xs. xs ++ option_to_list (heal_of e)) noted.heals_are ∙ sym (heals_push journal e);
  answers_are = a ∙ ap (λ xs. xs ++ answer_of e ∷ []) noted.answers_are ∙ sym (answers_push journal e);
}
  where
    one : (p : ℕ) (list : Vec ℕ Global) → slice_get new p ≡ Some list → (o : Option (Vec ℕ Global)) → slice_get turns p ≡ o → AreTurnsOf c (journal ++ e ∷ []) p list.items
    one p list there None was = absurd (no (ap (option_map (λ (v : Vec ℕ Global). v.items)) (sym there) ∙ with_turns p ∙ ap (option_map (λ (v : Vec ℕ Global). with_turn (sets.contains set p) end v.items)) was))
      where
        no : Some list.items ≡ None → ⊥
        no x = cc
    one p list there (Some v) was =
        let e' : Some list.items ≡ Some (with_turn (sets.contains set p) end v.items) = ap (option_map (λ (v : Vec ℕ Global). v.items)) (sym there) ∙ with_turns p ∙ ap (option_map (λ (v : Vec ℕ Global). with_turn (sets.contains set p) end v.items)) was in
        let same : list.items ≡ with_turn (sets.contains set p) end v.items = cc in
        subst (AreTurnsOf c (journal ++ e ∷ []) p) (sym same)
        (subst (λ m. AreTurnsOf c (journal ++ e ∷ []) p (with_turn (sets.contains set p) m v.items)) (sym last)
        (turns_more c journal e p v.items (sets.contains set p) (turned_is p) (noted.turns_are.each p v was)))

-- ---- who turned

pub turned_set : (before after set : sets.FinSet nat_cmp) → set ≡ sets.union (sets.difference before after) (sets.difference after before) → (p : ℕ) → sets.contains set p ≡ turns_by (sets.contains before p) (sets.contains after p)
turned_set before after set e p =
    ap (λ s. sets.contains s p) e
    ∙ sets.contains-union nat_cmp_total (sets.difference before after) (sets.difference after before) p
    ∙ ap₂ (λ a b. a || b) (sets.contains-difference nat_cmp_total before after p) (sets.contains-difference nat_cmp_total after before p)

-- ---- an entry that is checked

-- the next entry of a journal that is legal so far
pub record Next (c : Setup) (journal : List Entry) (e : Entry) (version : Version) (new : Replayed) : Type 0 where
  pub legal : LegalUnder version c (journal ++ e ∷ [])
  pub execution : new.execution ≡ record { setup = c; journal = journal ++ e ∷ [] }

pub next_of : (old new : Replayed) (e : Entry) → LegalUnder old.version old.execution.setup old.execution.journal → old.first_bad ≡ None → new.version ≡ old.version → ((c : Setup) (entries : List Entry) → HasReplayed c entries old → HasReplayed c (entries ++ e ∷ []) new) → new.first_bad ≡ None → Next old.execution.setup old.execution.journal e new.version new
next_of old new e legal none version entered fine = record {
  legal = subst (HasFirstBad new.version old.execution.setup (old.execution.journal ++ e ∷ [])) fine after.first;
  execution = after.execution fine;
}
  where
    was : HasReplayed old.execution.setup old.execution.journal old
    was = record {
      first = subst (HasFirstBad old.version old.execution.setup old.execution.journal) (sym none) legal;
      execution = λ none. refl;
    }

    after : HasReplayed old.execution.setup (old.execution.journal ++ e ∷ []) new
    after = entered old.execution.setup old.execution.journal was

-- where none is bad now, none was before
pub none_before : (old new : Replayed) → (IsSome old.first_bad → new ≡ old) → new.first_bad ≡ None → old.first_bad ≡ None
none_before old new stays none = at old.first_bad refl
  where
    at : (o : Option ℕ) → old.first_bad ≡ o → old.first_bad ≡ None
    at None e = e
    at (Some k) e = sym (ap (λ (r : Replayed). r.first_bad) (stays (ap is_some e))) ∙ none

-- a legal journal has no more entries than fit
pub place_fits : (c : Setup) (journal : List Entry) (e : Entry) (at : ℕ) → IsSetup c → Legal c (journal ++ e ∷ []) → at ≡ length journal → at + 1 < 4294967296
place_fits c journal e at setup legal place =
    let range = and_parts _ (is_between 1 MOST_JOURNAL_ENTRIES c.limit) setup.in_range in
    let most = (and_parts (nat_le 1 c.limit) (nat_le c.limit MOST_JOURNAL_ENTRIES) range.1).1 in
    let few : c.limit ≤ 1048576 = grind (arith, nat_tests, most) in
    let all = legal.0 in
    let long = length-append journal (e ∷ []) in
    omega arith
