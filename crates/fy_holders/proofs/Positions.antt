-- who is destroyed at the positions of a journal
use Rattle.std.proofs.Common.{◌≡◌, ℕ, zero, suc, ◌+◌, ◌-◌, ◌<◌, ◌≤◌, not, ◌==◌, Bool, true, false, List, [], ◌∷◌, ◌++◌, Contains, length, length-append, take, drop, Some, None, slice_get, refl, sym, ◌∙◌, ap, subst, arith, if◌then◌else◌}
use Rattle.std.specs.List.{Any, AllByRecursion}
use Rattle.std.proofs.lemmas.Bool.{or_right, and_from, not-false}
use Rattle.std.proofs.lemmas.List.{take-append-le, take-append-drop, take_all}
use Rattle.std.proofs.lemmas.List.Folds.{Any-from_list_any}
use Rattle.std.proofs.lemmas.List.FromFn.{length-range_with_len, get_or-range_with_len}
use Rattle.fy_locality.specs.declared.ProcId.{ProcId}
use Rattle.fy_acts.specs.declared.act.Act.{Act}
use Rattle.fy_acts.specs.declared.act.Act.TheVariants.{Heal}
use Rattle.fy_acts.specs.declared.reply.Reply.{Reply}
use Rattle.fy_acts.specs.declared.entry.Entry.{Entry}
use Rattle.fy_cluster.specs.Setup.{Setup}
use Rattle.fy_cluster.specs.History.{History, step_of, history, is_accepted, some_is, destroys, destroyed, heals, heals_at}
use Rattle.fy_cluster.specs.Replies.{IsNext, Legal, reasons, refusals}
use Rattle.fy_cluster.specs.Survival.{FrontsLegal, EntryAddsStep, NextLegal}
use Rattle.fy_cluster.proofs.Journals.{length-history}
use Rattle.fy_cluster.proofs.Records.{any_at}
use Rattle.fy_cluster.proofs.Sending.{take-push}
use Rattle.fy_cluster.proofs.Strikes.{accepted}
use Rattle.fy_holders.specs.Destroyed.{destroyed_at, positions_from, destroyed_since}

-- a position from one to the last, at which a process is destroyed
pub record Found (c : Setup) (journal : List Entry) (m p : ℕ) : Type 0 where
  pub position : ℕ
  pub from : m ≤ position
  pub to : position ≤ length journal
  pub is : destroyed_at c journal position p ≡ true

pub since_at : (c : Setup) (journal : List Entry) (m p k : ℕ) → m ≤ k → k ≤ length journal → destroyed_at c journal k p ≡ true → destroyed_since c journal m p ≡ true
since_at c journal m p k from to is = any_at (λ q. destroyed_at c journal q p) (positions_from journal m) k there is
  where
    within : k - m < length journal + 1 - m
    within = omega arith

    back : m + (k - m) ≡ k
    back = omega arith

    there : Contains (positions_from journal m) k
    there = (k - m, rw (length-range_with_len m (length journal + 1 - m)) within, get_or-range_with_len m (length journal + 1 - m) (k - m) k within ∙ back)

pub since_from : (c : Setup) (journal : List Entry) (m p : ℕ) → destroyed_since c journal m p ≡ true → Found c journal m p
since_from c journal m p e =
    let found : Any (λ q. destroyed_at c journal q p ≡ true) (positions_from journal m) = Any-from_list_any (λ q. destroyed_at c journal q p) (positions_from journal m) e in
    let i : ℕ = found.0 in
    let k : ℕ = found.1 in
    let within : i < length journal + 1 - m = subst (λ n. i < n) (length-range_with_len m (length journal + 1 - m)) found.2 in
    let same : m + i ≡ k = sym (get_or-range_with_len m (length journal + 1 - m) i k within) ∙ found.3 in
    record { position = k; from = omega arith; to = omega arith; is = found.4 }

-- what was so at a position of a front of a journal is so there
pub of_front : (c : Setup) (journal more : List Entry) (k p : ℕ) → k ≤ length journal → destroyed_at c (journal ++ more) k p ≡ destroyed_at c journal k p
of_front c journal more k p to = ap (λ entries. destroyed (history c entries) p) (take-append-le k journal more to)

-- who was destroyed since a position is so in a longer journal
pub since_more : (c : Setup) (journal more : List Entry) (m p : ℕ) → destroyed_since c journal m p ≡ true → destroyed_since c (journal ++ more) m p ≡ true
since_more c journal more m p e =
    let found = since_from c journal m p e in
    let n = length-append journal more in
    let to = found.to in
    since_at c (journal ++ more) m p found.position found.from (omega arith) (of_front c journal more found.position p found.to ∙ found.is)

-- who was destroyed since a later position was so since an earlier one
pub since_earlier : (c : Setup) (journal : List Entry) (m k p : ℕ) → m ≤ k → destroyed_since c journal k p ≡ true → destroyed_since c journal m p ≡ true
since_earlier c journal m k p before e =
    let found = since_from c journal k p e in
    let from = found.from in
    since_at c journal m p found.position (omega arith) found.to found.is

-- who is destroyed at the end was so since any position
pub since_end : (c : Setup) (journal : List Entry) (m p : ℕ) → m ≤ length journal → destroyed (history c journal) p ≡ true → destroyed_since c journal m p ≡ true
since_end c journal m p before d =
    let last : length journal ≤ length journal = omega arith in
    since_at c journal m p (length journal) before last (ap (λ entries. destroyed (history c entries) p) (take_all (length journal) journal last) ∙ d)

-- ---- from a position to the next

-- the history behind an entry
pub next_history : EntryAddsStep → (c : Setup) (journal : List Entry) (k : ℕ) (e : Entry) → slice_get journal k ≡ Some e → history c (take (suc k) journal) ≡ step_of c (history c (take k journal)) e ∷ history c (take k journal)
next_history steps c journal k e there = ap (history c) (take-push journal k e there) ∙ steps c (take k journal) e

-- where an entry heals nobody, the destroyed stay so
pub stays_by : EntryAddsStep → (c : Setup) (journal : List Entry) (k p : ℕ) (e : Entry) → slice_get journal k ≡ Some e → heals e.act e.reply ≡ None → destroyed_at c journal k p ≡ true → destroyed_at c journal (suc k) p ≡ true
stays_by steps c journal k p e there none d =
    let h : History = history c (take k journal) in
    let no : heals_at (step_of c h e) p ≡ false = ap (λ healed. some_is (λ q. q == p) healed) none in
    let after : destroyed (step_of c h e ∷ h) p ≡ true = or_right (destroys (step_of c h e) p) _ (and_from _ _ (ap not no) d) in
    ap (λ (x : History). destroyed x p) (next_history steps c journal k e there) ∙ after

-- where no entry from a position on heals, they stay so to the end
pub stays_through : EntryAddsStep → (c : Setup) (journal : List Entry) (m p j : ℕ) → ((i : ℕ) (e : Entry) → m ≤ i → slice_get journal i ≡ Some e → heals e.act e.reply ≡ None) → m + j ≤ length journal → destroyed_at c journal m p ≡ true → destroyed_at c journal (m + j) p ≡ true
stays_through steps c journal m p zero none within d = let e : m ≡ m + zero = omega arith in subst (λ k. destroyed_at c journal k p ≡ true) e d
stays_through steps c journal m p (suc j) none within d =
    let before : destroyed_at c journal (m + j) p ≡ true = stays_through steps c journal m p j none (omega arith) d in
    let there = entry_at journal (m + j) (omega arith) in
    let same : suc (m + j) ≡ m + suc j = omega arith in
    subst (λ k. destroyed_at c journal k p ≡ true) same (stays_by steps c journal (m + j) p there.0 there.1 (none (m + j) there.0 (omega arith) there.1) before)
  where
    entry_at : (xs : List Entry) (i : ℕ) → i < length xs → (e : Entry) × (slice_get xs i ≡ Some e)
    entry_at [] i l = absurd (omega arith)
    entry_at (x ∷ xs) zero l = (x, refl)
    entry_at (x ∷ xs) (suc i) l = entry_at xs i (omega arith)

-- ---- heals of a legal journal

heal_said : (act : Act) (r : Reply) (p : ℕ) → heals act r ≡ Some p → (process : ProcId) × (act ≡ Heal process) × (is_accepted r ≡ true) × (process.0 ≡ p)
heal_said (Heal process) r p e = go (is_accepted r) refl e
  where
    go : (b : Bool) → is_accepted r ≡ b → (if b then Some process.0 else None) ≡ Some p → (other : ProcId) × (Heal process ≡ Heal other) × (is_accepted r ≡ true) × (other.0 ≡ p)
    go true is e = (process, refl, is, (cc))
    go false is e = absurd (cc)
heal_said _ r p e = absurd (cc)

-- nobody is healed who isn't destroyed
was_destroyed : (c : Setup) (h : History) (by : ℕ) (process : ProcId) → AllByRecursion (λ t. t.0 ≡ false) (reasons c h by (Heal process)) → not (destroyed h process.0) ≡ false
unfolding reasons refusals
was_destroyed c h by process all = all.1.1.1.1.0

-- who was healed was destroyed at the place of the entry
pub healed_at : FrontsLegal → NextLegal → (c : Setup) (journal : List Entry) (k p : ℕ) (e : Entry) → Legal c journal → slice_get journal k ≡ Some e → heals e.act e.reply ≡ Some p → destroyed_at c journal k p ≡ true
healed_at fronts next c journal k p e legal there healed =
    let said = heal_said e.act e.reply p healed in
    let h : History = history c (take k journal) in
    let whole : take (suc k) journal ++ drop (suc k) journal ≡ journal = take-append-drop (suc k) journal in
    let front : Legal c (take (suc k) journal) = fronts c (take (suc k) journal) (drop (suc k) journal) (subst (Legal c) (sym whole) legal) in
    let split : take k journal ++ drop k journal ≡ journal = take-append-drop k journal in
    let before : Legal c (take k journal) = fronts c (take k journal) (drop k journal) (subst (Legal c) (sym split) legal) in
    let may = (next c (take k journal) e before).0 (subst (Legal c) (take-push journal k e there) front) in
    let is_next : IsNext c h e = record { place = may.place ∙ sym (length-history c (take k journal)); right = may.right } in
    let asked = (accepted c h e is_next said.2).0 in
    let d = was_destroyed c h e.by said.0 (subst (λ a. AllByRecursion (λ t. t.0 ≡ false) (reasons c h e.by a)) said.1 asked) in
    subst (λ q. destroyed h q ≡ true) said.3 (not-false (destroyed h said.0.0) d)
