-- a journal that is checked and recorded
use Rattle.std.proofs.Common.{◌≡◌, ◌∙◌, ◌+◌, ◌<◌, ◌≤◌, ℕ, inl, inr, Option, Some, None, List, [], ◌∷◌, ◌++◌, length, take, drop, get_or, refl, sym, ap, subst, arith}
use Rattle.std.specs.Prelude.{Bool, false, is_some, unwrap_or, IfSome, IsSome}
use Rattle.std.proofs.lemmas.List.{take_all, take-append-drop, take-append-le}
use Rattle.std.proofs.lemmas.Bool.{cases_lt, false≢true}
use Rattle.fy_acts.specs.declared.entry.Entry.{Entry}
use Rattle.fy_acts.specs.declared.version.Version.{Version}
use Rattle.fy_cluster.specs.Setup.{Setup}
use Rattle.fy_cluster.specs.Execution.{Execution}
use Rattle.fy_cluster.specs.Versions.{LegalUnder}
use Rattle.fy_replay.specs.Check.{IsFirstBad}
use Rattle.fy_replay.specs.Replayed.{HasFirstBad, HasReplayed, Replayed}
use Rattle.fy_replay.proofs.Entering.{bad_in_front}
use Rattle.fy_picture.specs.Recording.{HasRecorded, Recording}
use Rattle.fy_picture.proofs.Afters.{one_more}

abbrev pub upto : Setup → List Entry → Execution
upto c entries = record { setup = c; journal = entries }

-- where no entry is bad, all are recorded
pub all_recorded : (c : Setup) (entries : List Entry) (recording : Recording) → HasRecorded c entries recording → recording.first_bad ≡ None → recording.execution ≡ record { setup = c; journal = entries }
all_recorded c entries recording has none =
    has.execution
    ∙ ap (upto c)
    (ap (λ o. take (unwrap_or o (length entries)) entries) none ∙ take_all (length entries) entries (omega arith))

-- and so the next one's place is how many were recorded
pub next_place : (c : Setup) (entries : List Entry) (recording : Recording) → HasRecorded c entries recording → recording.first_bad ≡ None → length entries ≡ length recording.execution.journal
next_place c entries recording has none = sym (ap (λ (x : Execution). length x.journal) (all_recorded c entries recording has none))

-- a recording of no entry
pub none_recorded : (c : Setup) (recording : Recording) → HasFirstBad recording.version c [] recording.first_bad → recording.first_bad ≡ None → recording.execution ≡ record { setup = c; journal = [] } → HasRecorded c [] recording
none_recorded c recording first none is = record {
  first = first;
  execution = is ∙ ap (λ o. upto c (take (unwrap_or o 0) [])) (sym none);
}

-- the first bad entry is one of them
bad_within : (version : Version) (c : Setup) (entries : List Entry) (at : ℕ) → IsFirstBad version c entries at → at < length entries
bad_within version c entries at is = elim (cases_lt at (length entries)) [
  | inl within ↦ within
  | inr past ↦
      let all : take at entries ≡ entries = take_all at entries past in
      let more : take (at + 1) entries ≡ entries = take_all (at + 1) entries (omega arith) in
      absurd (is.bad (subst (LegalUnder version c) (all ∙ sym more) is.good))
]

-- a replayer that has no bad entry had none
pub none_before : (old new : Replayed) → (IsSome old.first_bad → new ≡ old) → new.first_bad ≡ None → old.first_bad ≡ None
none_before old new stays none = by old.first_bad refl
  where
    by : (o : Option ℕ) → old.first_bad ≡ o → old.first_bad ≡ None
    by None is = is
    by (Some at) is = sym (ap (λ (x : Replayed). x.first_bad) (stays (subst IsSome (sym is) refl))) ∙ none

-- what was replayed by a recorder
pub replayed_by : (c : Setup) (entries : List Entry) (recording : Recording) (replayed : Replayed) → replayed.version ≡ recording.version → replayed.first_bad ≡ recording.first_bad → (replayed.first_bad ≡ None → replayed.execution ≡ recording.execution)
    → HasRecorded c entries recording → HasReplayed c entries replayed
replayed_by c entries recording replayed version bad same has = record {
  first = subst (λ v. HasFirstBad v c entries replayed.first_bad) (sym version) (subst (HasFirstBad recording.version c entries) (sym bad) has.first);
  execution = λ none. same none ∙ all_recorded c entries recording has (sym bad ∙ none);
}

-- an entry more of those that are recorded, which isn't bad
pub replayed_next : (state : Execution) (before behind : Replayed) (e copy : Entry) → copy ≡ e → LegalUnder before.version state.setup state.journal → (before.first_bad ≡ None → before.execution ≡ state) → (IsSome before.first_bad → behind ≡ before)
    → ((c : Setup) (entries : List Entry) → HasReplayed c entries before → HasReplayed c (entries ++ copy ∷ []) behind) → behind.first_bad ≡ None → HasReplayed state.setup (state.journal ++ e ∷ []) behind
replayed_next state before behind e copy is legal same stays entered none =
    let was_none = none_before before behind stays none in
    subst (λ (x : Entry). HasReplayed state.setup (state.journal ++ x ∷ []) behind) is
    (entered state.setup state.journal
    (record { first = subst (HasFirstBad before.version state.setup state.journal) (sym was_none) legal; execution = same }))

-- and so the journal stays legal
pub legal_next : (state : Execution) (behind : Replayed) (e : Entry) → behind.first_bad ≡ None → HasReplayed state.setup (state.journal ++ e ∷ []) behind → LegalUnder behind.version state.setup (state.journal ++ e ∷ [])
legal_next state behind e none replayed = subst (HasFirstBad behind.version state.setup (state.journal ++ e ∷ [])) none replayed.first

pub none_of : (o : Option ℕ) (b : Bool) → b ≡ is_some o → b ≡ false → o ≡ None
none_of None b is not_some = refl
none_of (Some at) b is not_some = absurd (false≢true (sym not_some ∙ is))

-- a good entry more
pub good_recorded : (c : Setup) (entries : List Entry) (new : Recording) → HasFirstBad new.version c entries new.first_bad → new.first_bad ≡ None → new.execution ≡ record { setup = c; journal = entries } → HasRecorded c entries new
good_recorded c entries new first none is = record {
  first = first;
  execution =
      is ∙ ap (upto c)
      (sym (take_all (length entries) entries (omega arith)) ∙ ap (λ o. take (unwrap_or o (length entries)) entries) (sym none));
}

-- an entry more where one is bad: this one or an earlier one
pub bad_recorded : (c : Setup) (entries : List Entry) (e : Entry) (old new : Recording) (before behind : Replayed)
    → before.version ≡ old.version → before.first_bad ≡ old.first_bad → behind.first_bad ≡ new.first_bad
    → HasRecorded c entries old → HasFirstBad new.version c (entries ++ e ∷ []) new.first_bad → IsSome new.first_bad
    → (IsSome before.first_bad → behind ≡ before) → (before.first_bad ≡ None → IfSome behind.first_bad (λ at. at ≡ e.at)) → (old.first_bad ≡ None → e.at ≡ length old.execution.journal)
    → new.execution ≡ old.execution → HasRecorded c (entries ++ e ∷ []) new
bad_recorded c entries e old new before behind version was is has first some stays place numbered same =
    by old.first_bad refl new.first_bad refl
  where
    finally : (at : ℕ) → new.first_bad ≡ Some at → old.execution ≡ record { setup = c; journal = take at entries } → at ≤ length entries → HasRecorded c (entries ++ e ∷ []) new
    finally at bad execution within = record {
      first = first;
      execution =
          same ∙ execution
          ∙ ap (upto c)
          (sym (take-append-le at entries (e ∷ []) within)
          ∙ ap (λ o. take (unwrap_or o (length (entries ++ e ∷ []))) (entries ++ e ∷ [])) (sym bad));
    }

    by : (o : Option ℕ) → old.first_bad ≡ o → (n : Option ℕ) → new.first_bad ≡ n → HasRecorded c (entries ++ e ∷ []) new
    by o old_is None new_is = absurd (let no : IsSome {T = ℕ} None = subst IsSome new_is some in let bad : ⊥ = cc in bad)
    by None old_is (Some at) new_is =
        let all = all_recorded c entries old has old_is in
        let own : at ≡ e.at = subst (λ (x : Option ℕ). IfSome x (λ k. k ≡ e.at)) (is ∙ new_is) (place (was ∙ old_is)) in
        let count : at ≡ length entries = own ∙ numbered old_is ∙ ap (λ (x : Execution). length x.journal) all in
        finally at new_is (all ∙ ap (upto c) (sym (take_all at entries (omega arith)))) (omega arith)
    by (Some at) old_is (Some other) new_is =
        let stay = stays (subst IsSome (sym (was ∙ old_is)) refl) in
        let one : new.first_bad ≡ Some at = sym is ∙ ap (λ (x : Replayed). x.first_bad) stay ∙ was ∙ old_is in
        let within : at < length entries = bad_within old.version c entries at (subst (HasFirstBad old.version c entries) old_is has.first) in
        finally at one (has.execution ∙ ap (λ o. upto c (take (unwrap_or o (length entries)) entries)) old_is) (omega arith)

-- where the first entries of a journal were recorded, one more is
pub one_more_recorded : (c : Setup) (entries : List Entry) (i : ℕ) (e given : Entry) (new : Recording) → i < length entries → e ≡ get_or entries i e → given ≡ e → HasRecorded c (take i entries ++ given ∷ []) new → HasRecorded c (take (i + 1) entries) new
one_more_recorded c entries i e given new l is same entered =
    subst (λ es. HasRecorded c es new) (sym (one_more entries i e l is))
    (subst (λ (x : Entry). HasRecorded c (take i entries ++ x ∷ []) new) same entered)

-- where all were recorded and none is bad, they are a legal journal
pub all_are_legal : (version : Version) (c : Setup) (entries : List Entry) (i : ℕ) (recording : Recording) → length entries ≤ i → HasRecorded c (take i entries) recording → recording.first_bad ≡ None → recording.version ≡ version → LegalUnder version c entries
all_are_legal version c entries i recording l has none same =
    let first = subst (HasFirstBad recording.version c (take i entries)) none has.first in
    let whole = subst (LegalUnder recording.version c) (take_all i entries l) first in
    subst (λ v. LegalUnder v c entries) same whole

-- a first bad one of the first entries is that of all
pub bad_of_all : (version : Version) (c : Setup) (entries : List Entry) (n at : ℕ) (recording : Recording) → HasRecorded c (take n entries) recording → recording.first_bad ≡ Some at → recording.version ≡ version → IsFirstBad version c entries at
bad_of_all version c entries n at recording has some same =
    let first = subst (HasFirstBad recording.version c (take n entries)) some has.first in
    let whole = bad_in_front recording.version c (take n entries) (drop n entries) at first in
    subst (λ v. IsFirstBad v c entries at) same
    (subst (λ es. IsFirstBad recording.version c es at) (take-append-drop n entries) whole)

-- a recording of this version says which of its entries is the first bad one
pub first_of : (version : Version) (c : Setup) (entries : List Entry) (recording : Recording) → HasRecorded c entries recording → recording.version ≡ version → HasFirstBad version c entries recording.first_bad
first_of version c entries recording has same = subst (λ v. HasFirstBad v c entries recording.first_bad) same has.first

-- of no entries none is bad
pub none_is_bad : (c : Setup) (recording : Recording) → HasRecorded c [] recording → recording.first_bad ≡ None
none_is_bad c recording has = by recording.first_bad refl
  where
    by : (o : Option ℕ) → recording.first_bad ≡ o → recording.first_bad ≡ None
    by None is = is
    by (Some at) is =
        let within : at < 0 = bad_within recording.version c [] at (subst (HasFirstBad recording.version c []) is has.first) in
        absurd (omega arith)

-- where one of the first entries is bad, those behind them change nothing
pub bad_recorded_of_all : (c : Setup) (entries : List Entry) (n : ℕ) (recording : Recording) → HasRecorded c (take n entries) recording → IsSome recording.first_bad → HasRecorded c entries recording
bad_recorded_of_all c entries n recording has some = by recording.first_bad refl
  where
    by : (o : Option ℕ) → recording.first_bad ≡ o → HasRecorded c entries recording
    by None is = absurd (let no : IsSome {T = ℕ} None = subst IsSome is some in let bad : ⊥ = cc in bad)
    by (Some at) is =
        let first = subst (HasFirstBad recording.version c (take n entries)) is has.first in
        let within : at < length (take n entries) = bad_within recording.version c (take n entries) at first in
        record {
          first = subst (HasFirstBad recording.version c entries) (sym is)
              (bad_of_all recording.version c entries n at recording has is refl);
          execution =
              has.execution
              ∙ ap (λ o. upto c (take (unwrap_or o (length (take n entries))) (take n entries))) is
              ∙ ap (upto c)
              (sym (take-append-le at (take n entries) (drop n entries) (omega arith))
              ∙ ap (take at) (take-append-drop n entries)
              ∙ ap (λ o. take (unwrap_or o (length entries)) entries) (sym is));
        }

-- what was recorded doesn't hang on the columns
pub recorded_alike : (c : Setup) (entries : List Entry) (old new : Recording) → new ≡ record old { columns = new.columns } → HasRecorded c entries old → HasRecorded c entries new
recorded_alike c entries old new same has = record {
  first = subst (λ v. HasFirstBad v c entries new.first_bad) (sym (ap (λ (r : Recording). r.version) same))
      (subst (HasFirstBad old.version c entries) (sym (ap (λ (r : Recording). r.first_bad) same)) has.first);
  execution =
      ap (λ (r : Recording). r.execution) same ∙ has.execution
      ∙ ap (λ o. upto c (take (unwrap_or o (length entries)) entries)) (sym (ap (λ (r : Recording). r.first_bad) same));
}
