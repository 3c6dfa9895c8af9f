-- one more entry is replayed
use Rattle.std.proofs.Common.{◌≡◌, ◌∙◌, ℕ, ◌+◌, ◌<◌, ◌≤◌, inl, inr, List, [], ◌∷◌, ◌++◌, length, take, drop, get_or, Some, None, sym, subst, arith}
use Rattle.std.proofs.lemmas.Bool.{cases_lt}
use Rattle.std.proofs.lemmas.List.{take_all, take_more, take-append-le, take-append-drop}
use Rattle.fy_acts.specs.declared.entry.Entry.{Entry}
use Rattle.fy_acts.specs.declared.version.Version.{Version}
use Rattle.fy_cluster.specs.Setup.{Setup}
use Rattle.fy_cluster.specs.Versions.{LegalUnder}
use Rattle.fy_replay.specs.Check.{IsFirstBad}
use Rattle.fy_replay.specs.Replayed.{Replayed, HasFirstBad, HasReplayed}

-- a first bad entry is one of the entries
pub bad_within : (version : Version) (setup : Setup) (entries : List Entry) (at : ℕ) → IsFirstBad version setup entries at → at < length entries
bad_within version setup entries at first =
    elim (cases_lt at (length entries)) [
      | inl less ↦ less
      | inr more ↦
          let whole = take_all at entries more in
          let still = take_all (at + 1) entries (omega arith) in
          absurd (first.bad (subst (LegalUnder version setup) (whole ∙ sym still) first.good))
    ]

-- and stays the first, whatever follows
pub bad_in_front : (version : Version) (setup : Setup) (entries more : List Entry) (at : ℕ) → IsFirstBad version setup entries at → IsFirstBad version setup (entries ++ more) at
bad_in_front version setup entries more at first =
    let within = bad_within version setup entries at first in
    record {
      good = subst (LegalUnder version setup) (sym (take-append-le at entries more (omega arith))) first.good;
      bad = λ legal. first.bad (subst (LegalUnder version setup) (take-append-le (at + 1) entries more (omega arith)) legal);
    }

-- ---- a journal's entries one after another

-- where the first ones were replayed, one more is
pub one_more_entered : (setup : Setup) (entries : List Entry) (i : ℕ) (e given : Entry) (new : Replayed) → i < length entries → e ≡ get_or entries i e → given ≡ e
    → HasReplayed setup (take i entries ++ given ∷ []) new → HasReplayed setup (take (i + 1) entries) new
one_more_entered setup entries i e given new l is same entered =
    subst (λ es. HasReplayed setup es new) (sym (take_more entries i e l))
    (subst (λ x. HasReplayed setup (take i entries ++ x ∷ []) new) (same ∙ is) entered)

-- where all were and none is bad, they are a legal journal
pub all_are_legal : (version : Version) (setup : Setup) (entries : List Entry) (i : ℕ) (replayed : Replayed) → length entries ≤ i → HasReplayed setup (take i entries) replayed → replayed.first_bad ≡ None → replayed.version ≡ version
    → LegalUnder version setup entries
all_are_legal version setup entries i replayed l has none same =
    let first = subst (HasFirstBad replayed.version setup (take i entries)) none has.first in
    let whole = subst (LegalUnder replayed.version setup) (take_all i entries l) first in
    subst (λ v. LegalUnder v setup entries) same whole

-- a first bad one of the first entries is that of all
pub bad_of_all : (version : Version) (setup : Setup) (entries : List Entry) (n at : ℕ) (replayed : Replayed) → HasReplayed setup (take n entries) replayed → replayed.first_bad ≡ Some at → replayed.version ≡ version
    → IsFirstBad version setup entries at
bad_of_all version setup entries n at replayed has some same =
    let first = subst (HasFirstBad replayed.version setup (take n entries)) some has.first in
    let whole = bad_in_front replayed.version setup (take n entries) (drop n entries) at first in
    subst (λ v. IsFirstBad v setup entries at) same
    (subst (λ es. IsFirstBad replayed.version setup es at) (take-append-drop n entries) whole)
