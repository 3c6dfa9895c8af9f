-- which processes count as whole
use Rattle.std.proofs.Common.{◌≡◌, ◌∙◌, ℕ, zero, suc, ◌+◌, ◌-◌, ◌^◌, ◌<◌, ◌≤◌, ◌⊎◌, inl, inr, Bool, false, List, [], ◌∷◌, ◌++◌, length, take, get_or, Option, IfSome, sym, ap, subst, arith}
use Rattle.std.specs.Prelude.{filter}
use Rattle.std.specs.List.{All}
use Rattle.std.specs.List.Sorted.{IsNonDecreasingBy}
use Rattle.std.proofs.lemmas.List.{take_all, take_more}
use Rattle.std.proofs.lemmas.List.Sorted.{IsNonDecreasingBy-short, IsNonDecreasingBy-push}
use Rattle.std.proofs.lemmas.List.Elements.{All-nil, All-filter, All-push, All-weaker}
use Rattle.fy_acts.specs.declared.entry.Entry.{Entry}
use Rattle.fy_cluster.specs.Setup.{Setup}
use Rattle.fy_history.specs.Progress.{last_of}
use Rattle.fy_history.specs.declared.history.EntryLine.{EntryLine}
use Rattle.fy_holders.specs.Destroyed.{destroyed_at}
use Rattle.fy_verdict.specs.Whole.{AreEntryLines, line_of, is_before, position_behind, position_at}
use Rattle.fy_verdict.proofs.Fronts.{last_holds}
use Rattle.fy_verdict.proofs.Destroyed.{none_destroyed}

-- the position behind the last of the entry lines that stand before a line
pub position_from : (count line n : ℕ) (entries : List EntryLine) (last : Option EntryLine) → AreEntryLines count entries
    → (IsNonDecreasingBy line_of entries → take n entries ≡ filter (is_before line) entries)
    → last ≡ last_of (take n entries)
    → (position_behind last ≡ position_at entries line) × IfSome last (λ entry. entry.entry < count)
position_from count line n entries last lines front is =
    let there : last ≡ last_of (filter (is_before line) entries) = is ∙ ap last_of (front lines.order) in (
      ap position_behind there,
      last_holds (λ (entry : EntryLine). entry.entry < count) (filter (is_before line) entries) last
          (All-filter (is_before line) (λ (entry : EntryLine). entry.entry < count) entries lines.within) there,
    )

-- below a number or not
below_or_not : (k n : ℕ) → (k < n) ⊎ (n ≤ k)
below_or_not k zero = inr (omega arith)
below_or_not zero (suc n) = inl (omega arith)
below_or_not (suc k) (suc n) = elim (below_or_not k n) [ inl l ↦ inl (omega arith) | inr l ↦ inr (omega arith) ]

-- what was asked of a process, whether it is one of the cluster or not
pub destroyed_is : (c : Setup) (journal : List Entry) (position p : ℕ) (is : Bool)
    → (p < length c.processes → position ≤ length journal → is ≡ destroyed_at c journal position p)
    → (length c.processes ≤ p → is ≡ false) → position ≤ length journal
    → is ≡ destroyed_at c journal position p
destroyed_is c journal position p is there nobody within = elim (below_or_not p (length c.processes)) [
  | inl inside ↦ there inside within
  | inr outside ↦ nobody outside ∙ sym (none_destroyed c journal position p outside)
]

-- the first so many entry lines stand in order, up to a line, each for an entry of the audit
pub record InOrderUpTo (count : ℕ) (entries : List EntryLine) (i last : ℕ) : Type 0 where
  pub order : IsNonDecreasingBy line_of (take i entries)
  pub before : All (λ entry. entry.at.line ≤ last) (take i entries)
  pub within : All (λ entry. entry.entry < count) (take i entries)

pub in_order_none : (count : ℕ) (entries : List EntryLine) → InOrderUpTo count entries 0 0
in_order_none count entries = record {
  order = IsNonDecreasingBy-short line_of [] (omega arith);
  before = All-nil (λ (entry : EntryLine). entry.at.line ≤ 0);
  within = All-nil (λ (entry : EntryLine). entry.entry < count);
}

pub in_order_more : (count : ℕ) (entries : List EntryLine) (i last : ℕ) (d : EntryLine) → i < length entries
    → last ≤ (get_or entries i d).at.line → (get_or entries i d).entry < count → InOrderUpTo count entries i last
    → InOrderUpTo count entries (i + 1) (get_or entries i d).at.line
in_order_more count entries i last d within later there so =
    let front = take i entries in
    let entry = get_or entries i d in
    let more : take (i + 1) entries ≡ front ++ entry ∷ [] = take_more entries i d within in
    record {
      order = subst (IsNonDecreasingBy line_of) (sym more) (IsNonDecreasingBy-push line_of front entry so.order
          (λ e some. let low = so.before (length front - 1) e (omega arith) in omega arith));
      before = subst (All (λ (e : EntryLine). e.at.line ≤ entry.at.line)) (sym more)
          (All-push (λ (e : EntryLine). e.at.line ≤ entry.at.line) front entry
          (All-weaker (λ (e : EntryLine). e.at.line ≤ last) (λ (e : EntryLine). e.at.line ≤ entry.at.line)
          (λ e low. omega arith) front so.before) (omega arith));
      within = subst (All (λ (e : EntryLine). e.entry < count)) (sym more)
          (All-push (λ (e : EntryLine). e.entry < count) front entry so.within there);
    }

pub in_order_all : (count : ℕ) (entries : List EntryLine) (i last : ℕ) → length entries ≤ i → count < 2 ^ 32
    → InOrderUpTo count entries i last → AreEntryLines count entries
in_order_all count entries i last all few so = record {
  order = subst (IsNonDecreasingBy line_of) (take_all i entries all) so.order;
  within = subst (All (λ (e : EntryLine). e.entry < count)) (take_all i entries all) so.within;
  few = few;
}
