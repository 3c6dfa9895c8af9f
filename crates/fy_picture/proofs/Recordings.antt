-- what is recorded of one column more, and of one entry more
use Rattle.std.proofs.Common.{◌≡◌, ◌∙◌, ◌+◌, ◌-◌, ◌<◌, ◌≤◌, ◌==◌, ◌*◌, ℕ, zero, suc, inl, inr, cond, Bool, true, false, Option, Some, None, is_some, option_map, IsTrue, List, [], ◌∷◌, ◌++◌, length, take, slice_get, min, refl, sym, ap, subst, arith, length-append}
use Rattle.std.specs.Prelude.{IsSomeAnd, option_to_list}
use Rattle.std.proofs.lemmas.List.{length-map, take-append-le}
use Rattle.std.proofs.Math.Seq.{take-length}
use Rattle.std.proofs.lemmas.Bool.{cases_lt, false≢true}
use Rattle.std.proofs.lemmas.Option.{slice_get_within, slice_get-map}
use Rattle.fy_locality.specs.declared.ProcId.{ProcId}
use Rattle.fy_acts.specs.declared.entry.Entry.{Entry}
use Rattle.fy_cluster.specs.Setup.{Setup}
use Rattle.fy_acts.specs.declared.act.Act.{Act}
use Rattle.fy_cluster.specs.Execution.{Execution, entered, history_of, next_entry}
use Rattle.fy_cluster.specs.History.{begins, records, acked, keeper, record_marked, some_is, history}
use Rattle.fy_cluster.specs.Replies.{Legal, MayFollow}
use Rattle.fy_cluster.specs.Survival.{ClientsTold, FrontsLegal, NextLegal}
use Rattle.fy_cluster.proofs.Journals.{legal_parts}
use Rattle.fy_picture.specs.declared.column.Column.{Column}
use Rattle.fy_picture.specs.declared.layout.Plan.{Plan}
use Rattle.fy_picture.specs.declared.recorded.Recorded.{Recorded}
use Rattle.fy_picture.specs.declared.TheConstants.{MOST_KEPT}
use Rattle.fy_picture.specs.Columns.{AreStates}
use Rattle.fy_picture.specs.Keeping.{AreKeepers, AreAckedAt, BeginsNext, IsAckedAt, ListsKeepers, Notes, acknowledged, noted, with_begun}
use Rattle.fy_picture.specs.Killable.{AreCounted, states_in}
use Rattle.fy_picture.specs.Layouts.{AreEnded, AreSoFar, ends_of, HasRoom, IsDue, IsLate, IsOpen, IsShut}
use Rattle.fy_picture.specs.Pictures.{ShowEnds}
use Rattle.fy_picture.specs.Recorded.{EndsColumn, IsRecorded, ShowStates, ShowsStates}
use Rattle.fy_picture.proofs.Acking.{Acknowledges, acked_at_more, some_and-map, never}
use Rattle.fy_picture.proofs.Marking.{acknowledged_then}
use Rattle.fy_picture.proofs.Afters.{after-append, elements_more}
use Rattle.fy_picture.proofs.Folding.{some_at}
use Rattle.fy_picture.proofs.Losing.{counts_of}
use Rattle.fy_picture.proofs.Laying.{due_below, ended_open, ended_shut, has_room_more, listed, so_far_more, so_far_next}

-- ---- columns

-- a column shows the same with one entry more behind it
shown_next : (c : Setup) (entries : List Entry) (e : Entry) (column : Column) → ShowsStates c entries column → ShowsStates c (entries ++ e ∷ []) column
shown_next c entries e column is =
    let same : take column.end entries ≡ take column.end (entries ++ e ∷ []) = sym (take-append-le column.end entries (e ∷ []) is.end) in
    let more : length (entries ++ e ∷ []) ≡ length entries + 1 = length-append entries (e ∷ []) in
    record {
      end = let l = is.end in omega arith;
      states = subst (λ es. AreStates c (history c es) column.states) same is.states;
    }

pub show_next : (c : Setup) (entries : List Entry) (e : Entry) (columns : List Column) → ShowStates c entries columns → ShowStates c (entries ++ e ∷ []) columns
show_next c entries e columns show k column is = shown_next c entries e column (show k column is)

-- an element of a list, or the one behind it
own_or_last : {X : Type 0} (P : X → Type 0) (xs : List X) (x : X) → ((k : ℕ) (y : X) → slice_get xs k ≡ Some y → P y) → P x → (k : ℕ) (y : X) → slice_get (xs ++ x ∷ []) k ≡ Some y → P y
own_or_last P [] x each last zero y is = let same : x ≡ y = cc in subst P same last
own_or_last P [] x each last (suc k) y is = absurd (let no : None ≡ Some y = is in let bad : ⊥ = cc in bad)
own_or_last P (z ∷ xs) x each last zero y is = each 0 y is
own_or_last P (z ∷ xs) x each last (suc k) y is = own_or_last P xs x (λ j w e. each (suc j) w e) last k y is

-- a column more, at the end of the entries
pub show_more : (c : Setup) (entries : List Entry) (columns : List Column) (column : Column) → ShowStates c entries columns → column.end ≡ length entries
    → AreStates c (history c entries) column.states → ShowStates c entries (columns ++ column ∷ [])
show_more c entries columns column show end states =
    let all : entries ≡ take column.end entries = sym (ap (λ n. take n entries) end ∙ take-length entries) in
    own_or_last (ShowsStates c entries) columns column show
    (record {
      end = omega arith;
      states = subst (λ es. AreStates c (history c es) column.states) all states;
    })

-- ---- acknowledged records

length-option : {X : Type 0} (o : Option X) → length (option_to_list o) ≡ cond (is_some o) 1 0
length-option None = refl
length-option (Some x) = refl

records_next : (c : Setup) (entries : List Entry) (e : Entry) → length (records (history c (entries ++ e ∷ []))) ≡ length (records (history c entries)) + cond (is_some (begins e.act e.reply)) 1 0
records_next c entries e =
    ap (λ h. length (records h)) (after-append c [] entries (e ∷ []))
    ∙ length-append (records (history c entries)) (option_to_list (begins e.act e.reply))
    ∙ ap (λ n. length (records (history c entries)) + n) (length-option (begins e.act e.reply))

-- before an entry that begins a record, no entry has acknowledged it
with_begun_acked : (c : Setup) (entries : List Entry) (places : List (Option ℕ)) (is_begun : Bool) → (IsTrue is_begun → acked (history c entries) (length places) ≡ false)
    → ((r : ℕ) → r < length places → IsSomeAnd (slice_get places r) (IsAckedAt c entries r))
    → (r : ℕ) → r < length (with_begun is_begun places) → IsSomeAnd (slice_get (with_begun is_begun places) r) (IsAckedAt c entries r)
with_begun_acked c entries places false unkept each r l = each r l
with_begun_acked c entries places true unkept each r l =
    elements_more (λ k place. IsAckedAt c entries k place) places (places ++ None ∷ []) None (length places) refl each (never c entries (length places) (unkept refl)) refl r
    (let n = length-append places (None ∷ []) in omega arith)

with_begun_count : (is_begun : Bool) (places : List (Option ℕ)) → length (with_begun is_begun places) ≡ length places + cond is_begun 1 0
with_begun_count true places = length-append places (None ∷ [])
with_begun_count false places = let e : length places ≡ length places + 0 = omega arith in e

-- how many records are told of with one entry more
next_count : (c : Setup) (entries : List Entry) (e : Entry) (places : List (Option ℕ)) (begun is_begun : Bool) → is_some (begins e.act e.reply) ≡ begun
    → (IsTrue is_begun → BeginsNext (record { setup = c; journal = entries }) e (length places))
    → (length places < MOST_KEPT → IsTrue begun → length (records (history c entries)) ≤ length places → IsTrue is_begun)
    → length places ≡ min (length (records (history c entries))) MOST_KEPT → length (with_begun is_begun places) ≡ min (length (records (history c (entries ++ e ∷ [])))) MOST_KEPT
next_count c entries e places begun true is to only count =
    let next = to refl in
    let few : length places < MOST_KEPT = next.few in
    let more : length (records (history c (entries ++ e ∷ []))) ≡ length (records (history c entries)) + 1 =
    records_next c entries e ∙ ap (λ b. length (records (history c entries)) + cond b 1 0) next.begins in
    let mid : length (with_begun true places) ≡ length places + 1 = with_begun_count true places in
    omega arith
next_count c entries e places false false is to only count =
    let more : length (records (history c (entries ++ e ∷ []))) ≡ length (records (history c entries)) + 0 =
    records_next c entries e ∙ ap (λ b. length (records (history c entries)) + cond b 1 0) is in
    omega arith
next_count c entries e places true false is to only count =
    let more : length (records (history c (entries ++ e ∷ []))) ≡ length (records (history c entries)) + 1 =
    records_next c entries e ∙ ap (λ b. length (records (history c entries)) + cond b 1 0) is in
    elim (cases_lt (length places) MOST_KEPT) [
      | inl few ↦ absurd (false≢true (only few refl (omega arith)))
      | inr full ↦ omega arith
    ]

pub acked_next : (c : Setup) (entries : List Entry) (e : Entry) (places new : List (Option ℕ)) (is_begun : Bool) (is_acked : ℕ → Bool) → MayFollow c entries e
    → (IsTrue is_begun → BeginsNext (record { setup = c; journal = entries }) e (length places))
    → (length places < MOST_KEPT → IsTrue (is_some (begins e.act e.reply)) → length (records (history c entries)) ≤ length places → IsTrue is_begun)
    → ((r : ℕ) → Acknowledges c entries e r (is_acked r))
    → AreAckedAt c entries places → Notes e.at is_acked (with_begun is_begun places) new
    → AreAckedAt c (entries ++ e ∷ []) new
acked_next c entries e places new is_begun is_acked may to only says was notes = record {
  count = notes.count ∙ next_count c entries e places (is_some (begins e.act e.reply)) is_begun refl to only was.count;
  each = λ r l.
      some_and-map (noted e.at (is_acked r)) (IsAckedAt c entries r) (IsAckedAt c (entries ++ e ∷ []) r)
      (acked_at_more c entries e r may (is_acked r) (says r)) (slice_get (with_begun is_begun places) r) (slice_get new r) (notes.each r)
      (with_begun_acked c entries places is_begun (λ t. (to t).unkept) was.each r (subst (λ n. r < n) notes.count l));
}

-- what is told of records is of few
pub few_told : (c : Setup) (entries : List Entry) (places : List (Option ℕ)) → AreAckedAt c entries places → length places ≤ MOST_KEPT
few_told c entries places are = let n = are.count in omega arith

-- ---- the recorder

-- nothing is shown by no column
pub show_none : (c : Setup) (entries : List Entry) (columns : List Column) → columns ≡ [] → ShowStates c entries columns
show_none c entries columns none k column is =
    let bad : None ≡ Some column = sym (ap (λ (xs : List Column). slice_get xs k) none) ∙ is in
    absurd (let no : ⊥ = cc in no)

pub none_acked : (c : Setup) (places : List (Option ℕ)) → places ≡ [] → AreAckedAt c [] places
none_acked c places none =
    let count : length places ≡ 0 = ap length none in
    record { count = count; each = λ r l. absurd (omega arith) }

-- a column that is due is recorded
pub column_ended : (old new : Recorded) → IsRecorded old → EndsColumn old new → IsDue old.plan (length old.columns.items) old.entries → HasRoom old.plan (length old.columns.items) old.entries → IsRecorded new
column_ended old new was ended due room =
    let same = ended.same in
    let c = old.state.setup in
    let entries = old.state.journal in
    let here : history_of old.state ≡ history c entries = refl in
    let columns : ShowStates c entries new.columns.items =
    subst (ShowStates c entries) (sym ended.more)
    (show_more c entries old.columns.items ended.column was.columns (ended.end ∙ was.count) ended.states) in
    let laid : AreSoFar old.plan (length entries) new.columns.items =
    subst (AreSoFar old.plan (length entries)) (sym ended.more)
    (so_far_more old.plan (length entries) old.columns.items ended.column was.laid
    (subst (IsDue old.plan (length old.columns.items)) was.count due)
    (subst (HasRoom old.plan (length old.columns.items)) was.count room) (ended.end ∙ was.count)) in
    record {
      count = same.entries ∙ was.count ∙ ap (λ (x : Execution). length x.journal) (sym same.state);
      columns = subst (λ (x : Execution). ShowStates x.setup x.journal new.columns.items) (sym same.state) columns;
      laid = subst (λ (x : Execution). AreSoFar new.plan (length x.journal) new.columns.items) (sym same.state)
          (subst (λ (p : Plan). AreSoFar p (length entries) new.columns.items) (sym same.plan) laid);
      acked = subst (λ (x : Execution). AreAckedAt x.setup x.journal new.acked_at.items) (sym same.state)
          (subst (AreAckedAt c entries) (sym same.acked) was.acked);
    }

-- and there is room for another, where it is needed
pub room_left : (old new : Recorded) → IsRecorded old → EndsColumn old new → IsDue old.plan (length old.columns.items) old.entries → HasRoom old.plan (length old.columns.items) old.entries
    → HasRoom new.plan (length new.columns.items) new.entries
room_left old new was ended due room =
    let same = ended.same in
    let count : length new.columns.items ≡ length old.columns.items + 1 = ap length ended.more ∙ length-append old.columns.items (ended.column ∷ []) in
    let so_far = subst (λ n. AreSoFar old.plan n old.columns.items) (sym was.count) was.laid in
    subst (λ (p : Plan). HasRoom p (length new.columns.items) new.entries) (sym same.plan)
    (subst (HasRoom old.plan (length new.columns.items)) (sym same.entries)
    (subst (λ n. HasRoom old.plan n old.entries) (sym count)
    (has_room_more old.plan old.entries old.columns.items so_far due room)))

-- and less is left to end
pub fewer_left : (old new : Recorded) → IsRecorded old → EndsColumn old new → IsDue old.plan (length old.columns.items) old.entries
    → new.entries + listed new.plan - length new.columns.items < old.entries + listed old.plan - length old.columns.items
fewer_left old new was ended due =
    let same = ended.same in
    let count : length new.columns.items ≡ length old.columns.items + 1 = ap length ended.more ∙ length-append old.columns.items (ended.column ∷ []) in
    let entries : new.entries ≡ old.entries = same.entries in
    let ends : listed new.plan ≡ listed old.plan = ap listed same.plan in
    let below : length old.columns.items < old.entries + listed old.plan =
    due_below old.plan old.entries old.columns.items (subst (λ n. AreSoFar old.plan n old.columns.items) (sym was.count) was.laid) due in
    omega arith

-- the columns once the last one has ended
pub last_shown : (old new : Recorded) → IsRecorded old → EndsColumn old new → ShowStates old.state.setup old.state.journal new.columns.items
last_shown old new was ended =
    subst (ShowStates old.state.setup old.state.journal) (sym ended.more)
    (show_more old.state.setup old.state.journal old.columns.items ended.column was.columns (ended.end ∙ was.count) ended.states)

pub last_ended : (old new : Recorded) → IsRecorded old → EndsColumn old new → IsLate old.plan (length old.columns.items) old.entries → IsOpen old.plan (length old.columns.items) old.entries → HasRoom old.plan (length old.columns.items) old.entries
    → AreEnded old.plan (length old.state.journal) new.columns.items
last_ended old new was ended late behind room =
    subst (AreEnded old.plan (length old.state.journal)) (sym ended.more)
    (ended_open old.plan (length old.state.journal) old.columns.items ended.column was.laid
    (subst (IsLate old.plan (length old.columns.items)) was.count late)
    (subst (IsOpen old.plan (length old.columns.items)) was.count behind)
    (subst (HasRoom old.plan (length old.columns.items)) was.count room) (ended.end ∙ was.count))

pub none_open : (old : Recorded) → IsRecorded old → IsLate old.plan (length old.columns.items) old.entries → IsShut old.plan (length old.columns.items) old.entries
    → AreEnded old.plan (length old.state.journal) old.columns.items
none_open old was late shut =
    ended_shut old.plan (length old.state.journal) old.columns.items was.laid
    (subst (IsLate old.plan (length old.columns.items)) was.count late)
    (subst (IsShut old.plan (length old.columns.items)) was.count shut)

-- columns that are those of others show what they showed
pub folded_show : (c : Setup) (entries : List Entry) (old new : List Column) → ((k : ℕ) → k < length new → slice_get new k ≡ slice_get old (2 * k + 1)) → ShowStates c entries old → ShowStates c entries new
folded_show c entries old new each show k column is =
    show (2 * k + 1) column (sym (each k (slice_get_within new k column is)) ∙ is)

-- columns with their counts show all, once they end where they did and show the same processes
pub counted_show : (c : Setup) (entries : List Entry) (old new : List Column) → ends_of new ≡ ends_of old → states_in new ≡ states_in old → AreCounted c (length new) new → ShowStates c entries old → ShowEnds c entries new
counted_show c entries old new ends states counted show k column is =
    let within : k < length new = slice_get_within new k column is in
    let count : length new ≡ length old =
    sym (length-map new (λ (x : Column). x.end)) ∙ ap length ends ∙ length-map old (λ (x : Column). x.end) in
    let before = some_at old k (subst (λ n. k < n) count within) in
    let own_end : Some column.end ≡ Some before.0.end =
    sym (slice_get-map (λ (x : Column). x.end) new k ∙ ap (option_map (λ (x : Column). x.end)) is)
    ∙ ap (λ ns. slice_get ns k) ends ∙ slice_get-map (λ (x : Column). x.end) old k ∙ ap (option_map (λ (x : Column). x.end)) before.1 in
    let own_states : Some column.states ≡ Some before.0.states =
    sym (slice_get-map (λ (x : Column). x.states) new k ∙ ap (option_map (λ (x : Column). x.states)) is)
    ∙ ap (λ xs. slice_get xs k) states ∙ slice_get-map (λ (x : Column). x.states) old k ∙ ap (option_map (λ (x : Column). x.states)) before.1 in
    let end : column.end ≡ before.0.end = cc in
    let same : before.0.states ≡ column.states = cc in
    let was = show k before.0 before.1 in
    let are : AreStates c (history c (take column.end entries)) column.states =
    subst (λ n. AreStates c (history c (take n entries)) column.states) (sym end)
    (subst (AreStates c (history c (take before.0.end entries))) same was.states) in
    record {
      end = let l = was.end in omega arith;
      states = are;
      counts = counts_of c (history c (take column.end entries)) column.states column.counts.items are (counted k column within is);
    }

-- of a legal journal each entry may follow those before it
pub may_next : (c : Setup) (entries : List Entry) (e : Entry) → FrontsLegal → NextLegal → Legal c (entries ++ e ∷ []) → MayFollow c entries e
may_next c entries e fronts next legal = (next c entries e (fronts c entries (e ∷ []) legal)).0 legal

-- an entry that may follow is what the cluster makes of its act
pub next_is : (c : Setup) (entries : List Entry) (e : Entry) (before : Execution) → MayFollow c entries e → before ≡ record { setup = c; journal = entries } → (by : ℕ) (act : Act) → by ≡ e.by → act ≡ e.act → (behind : Execution) → behind ≡ entered before by act
    → behind ≡ record { setup = c; journal = entries ++ e ∷ [] }
next_is c entries e before may is by act by_is act_is behind made =
    made
    ∙ ap (λ (x : Execution). entered x by act) is
    ∙ ap (λ n. entered (record { setup = c; journal = entries }) n act) by_is
    ∙ ap (λ a. entered (record { setup = c; journal = entries }) e.by a) act_is
    ∙ ap (λ (x : Entry). let more : Execution = record { setup = c; journal = entries ++ x ∷ [] } in more) given
  where
    given : next_entry (record { setup = c; journal = entries }) e.by e.act ≡ e
    given = λ i. record { at = sym may.place i; by = e.by; act = e.act; reply = sym may.right i }

module _ (c : Setup) (entries : List Entry) where
  abbrev here : Execution
  here = record { setup = c; journal = entries }

  pub keepers_are : (places : List (Option ℕ)) (keepers : List (Option ProcId)) (count : ℕ) (execution : Execution) → execution ≡ here → AreAckedAt c entries places → count ≡ length places → ListsKeepers execution count keepers → AreKeepers c entries keepers
  keepers_are places keepers count execution is acked many lists = record {
    count = lists.count_is ∙ many ∙ acked.count;
    each = λ r l.
        lists.each r (subst (λ n. r < n) lists.count_is l)
        ∙ ap (λ (x : Execution). Some (keeper x.setup (history_of x) r)) is;
  }

  -- one entry more, which the rules give, is recorded
  pub entry_recorded : FrontsLegal → NextLegal → ClientsTold → (e : Entry) (mid : Recorded) (count : ℕ) (places : List (Option ℕ)) (is_begun : Bool) (marked : Option ℕ) (behind : Execution)
      → mid.state ≡ here → IsRecorded mid → IsLate mid.plan (length mid.columns.items) mid.entries → Legal c (entries ++ e ∷ [])
      → ((n : ℕ) → mid.entries ≡ n → n + 1 ≤ c.limit → count ≡ n + 1)
      → behind ≡ record { setup = c; journal = entries ++ e ∷ [] }
      → (IsTrue is_begun → BeginsNext mid.state e (length mid.acked_at.items))
      → (length mid.acked_at.items < MOST_KEPT → IsTrue (is_some (begins e.act e.reply)) → length (records (history_of mid.state)) ≤ length mid.acked_at.items → IsTrue is_begun)
      → marked ≡ record_marked (history_of mid.state) e.act
      → Notes e.at (λ r. some_is (λ rec. rec == r) (acknowledged e.reply marked)) (with_begun is_begun mid.acked_at.items) places
      → (new : Recorded) → new.state ≡ behind → new.entries ≡ count → new.columns.items ≡ mid.columns.items → new.plan ≡ mid.plan → new.acked_at.items ≡ places
      → IsRecorded new
  entry_recorded fronts next told e mid count places is_begun marked behind is_mid was late legal counted is_behind to only mark notes new n_state n_count n_columns n_plan n_acked =
      let may : MayFollow c entries e = may_next c entries e fronts next legal in
      let longer : length (entries ++ e ∷ []) ≡ length entries + 1 = length-append entries (e ∷ []) in
      let within : length entries + 1 ≤ c.limit = subst (λ n. n ≤ c.limit) longer legal.0 in
      let to_here : IsTrue is_begun → BeginsNext here e (length mid.acked_at.items) =
      λ t. subst (λ (x : Execution). BeginsNext x e (length mid.acked_at.items)) is_mid (to t) in
      let only_here : length mid.acked_at.items < MOST_KEPT → IsTrue (is_some (begins e.act e.reply)) → length (records (history c entries)) ≤ length mid.acked_at.items → IsTrue is_begun =
      λ few begun unbegun. only few begun (subst (λ (x : Execution). length (records (history_of x)) ≤ length mid.acked_at.items) (sym is_mid) unbegun) in
      let mid_count : mid.entries ≡ length entries = was.count ∙ ap (λ (x : Execution). length x.journal) is_mid in
      let mid_columns : ShowStates c entries mid.columns.items = subst (λ (x : Execution). ShowStates x.setup x.journal mid.columns.items) is_mid was.columns in
      let mid_laid : AreSoFar mid.plan (length entries) mid.columns.items = subst (λ (x : Execution). AreSoFar mid.plan (length x.journal) mid.columns.items) is_mid was.laid in
      let mid_acked : AreAckedAt c entries mid.acked_at.items = subst (λ (x : Execution). AreAckedAt x.setup x.journal mid.acked_at.items) is_mid was.acked in
      let marked_is : record_marked (history c entries) e.act ≡ marked = ap (λ (x : Execution). record_marked (history_of x) e.act) (sym is_mid) ∙ sym mark in
      let says : (r : ℕ) → Acknowledges c entries e r (some_is (λ rec. rec == r) (acknowledged e.reply marked)) =
      λ r before.
      acknowledged_then c (history c entries) e (legal_parts c [] entries (e ∷ []) legal.1).1.0 (told c (entries ++ e ∷ []) legal entries [] e refl) r before
      ∙ ap (λ found. some_is (λ rec. rec == r) (acknowledged e.reply found)) marked_is in
      let there : new.state ≡ record { setup = c; journal = entries ++ e ∷ [] } = n_state ∙ is_behind in
      let laid : AreSoFar mid.plan (length (entries ++ e ∷ [])) mid.columns.items =
      subst (λ n. AreSoFar mid.plan n mid.columns.items) (sym longer)
      (so_far_next mid.plan (length entries) mid.columns.items mid_laid (subst (IsLate mid.plan (length mid.columns.items)) mid_count late)) in
      record {
        count = n_count ∙ counted (length entries) mid_count within ∙ sym longer ∙ ap (λ (x : Execution). length x.journal) (sym there);
        columns = subst (λ (x : Execution). ShowStates x.setup x.journal new.columns.items) (sym there)
            (subst (ShowStates c (entries ++ e ∷ [])) (sym n_columns) (show_next c entries e mid.columns.items mid_columns));
        laid = subst (λ (x : Execution). AreSoFar new.plan (length x.journal) new.columns.items) (sym there)
            (subst (λ (p : Plan). AreSoFar p (length (entries ++ e ∷ [])) new.columns.items) (sym n_plan)
            (subst (AreSoFar mid.plan (length (entries ++ e ∷ []))) (sym n_columns) laid));
        acked = subst (λ (x : Execution). AreAckedAt x.setup x.journal new.acked_at.items) (sym there)
            (subst (AreAckedAt c (entries ++ e ∷ [])) (sym n_acked)
            (acked_next c entries e mid.acked_at.items places is_begun (λ r. some_is (λ rec. rec == r) (acknowledged e.reply marked)) may to_here only_here says mid_acked notes));
      }
