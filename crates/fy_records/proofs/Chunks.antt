-- the reads of one process among those of all
use Rattle.std.proofs.Common.{◌≡◌, ◌+◌, Bool, false, ◌∙◌, List, [], ◌∷◌, ◌++◌, ◌||◌, ◌&&◌, not, length, Option, Some, None, refl, sym, ap, subst, inl, inr, arith, append_assoc}
use Rattle.std.specs.Prelude.{Contains, nat_le}
use Rattle.std.specs.List.{list_any}
use Rattle.std.proofs.lemmas.List.Folds.{list_any-append}
use Rattle.std.proofs.lemmas.List.Elements.{Contains-append_left, Contains-append_right, Contains-append_cases}
use Rattle.fy_history.specs.declared.history.Place.{Place}
use Rattle.fy_records.specs.declared.TheConstants.{MINUTE_NANOS}
use Rattle.fy_records.specs.declared.seen.Seen.{Seen}
use Rattle.fy_records.specs.declared.seen.Test.{Test}
use Rattle.fy_records.specs.Found.{some_of, AreApart, FindsOne}
use Rattle.fy_records.specs.Reads.{lacks, is_of_store, is_answered, is_at_end, same_process, began_after, passes}
use Rattle.fy_records.specs.Verdicts.{lacks_to_end, is_last_answer, is_minute_behind}
use Rattle.fy_records.proofs.Steps.{or_none}
use Rattle.fy_records.proofs.Finding.{any_agree, contains_first, contains_other}

-- no element passes
pub none_passes : {X : Type 0} (p : X → Bool) (xs : List X) → ((x : X) → Contains xs x → p x ≡ false) → list_any p xs ≡ false
none_passes p [] none = refl
none_passes p (x ∷ xs) none =
    ap (λ b. b || list_any p xs) (none x (contains_first x xs))
    ∙ none_passes p xs (λ y there. none y (contains_other x xs y there))

-- where none before and behind passes, some does where one between does
pub between : {X : Type 0} (p : X → Bool) (done chunk next : List X) → list_any p done ≡ false → list_any p next ≡ false
    → list_any p (done ++ (chunk ++ next)) ≡ list_any p chunk
between p done chunk next before behind =
    list_any-append p done (chunk ++ next)
    ∙ ap (λ b. b || list_any p (chunk ++ next)) before
    ∙ list_any-append p chunk next
    ∙ ap (λ b. list_any p chunk || b) behind
    ∙ sym (or_none (list_any p chunk))

-- what is asked of reads of the same process is asked of its reads alone
pub lacks_within : (written : Option Place) (done chunk next : List Seen)
    → ((a b : Seen) → Contains done a → Contains chunk b → same_process b a ≡ false)
    → ((a b : Seen) → Contains chunk a → Contains next b → same_process a b ≡ false)
    → (seen : Seen) → Contains chunk seen
    → lacks_to_end (some_of (done ++ (chunk ++ next))) written seen ≡ lacks_to_end (some_of chunk) written seen
lacks_within written done chunk next before behind seen there =
    ap (λ b. lacks seen && (not (is_of_store seen) && is_at_end written seen && is_answered seen && not b) && is_minute_behind (some_of (done ++ (chunk ++ next))) written seen) later_same
    ∙ ap (λ b. lacks seen && is_last_answer (some_of chunk) written seen && b) first_same
  where
    later_than : Seen → Bool
    later_than later = same_process seen later && is_answered later && is_at_end written later && began_after seen.read.began.line later

    earlier_than : Seen → Bool
    earlier_than first = same_process seen first && is_at_end written first && nat_le (first.read.began.nanos + MINUTE_NANOS) seen.read.began.nanos

    not_later : (x : Seen) → same_process seen x ≡ false → later_than x ≡ false
    not_later x other = ap (λ b. b && is_answered x && is_at_end written x && began_after seen.read.began.line x) other

    not_earlier : (x : Seen) → same_process seen x ≡ false → earlier_than x ≡ false
    not_earlier x other = ap (λ b. b && is_at_end written x && nat_le (x.read.began.nanos + MINUTE_NANOS) seen.read.began.nanos) other

    later_same : list_any later_than (done ++ (chunk ++ next)) ≡ list_any later_than chunk
    later_same = between later_than done chunk next (none_passes later_than done (λ x at. not_later x (before x seen at there))) (none_passes later_than next (λ x at. not_later x (behind seen x there at)))

    first_same : list_any earlier_than (done ++ (chunk ++ next)) ≡ list_any earlier_than chunk
    first_same = between earlier_than done chunk next (none_passes earlier_than done (λ x at. not_earlier x (before x seen at there))) (none_passes earlier_than next (λ x at. not_earlier x (behind seen x there at)))

-- so far none of the reads lacks to the end, and those that are left asked other processes
pub record NoneSoFar (written : Option Place) (test : Test) (reads rest : List Seen) : Type 0 where
  pub done : List Seen
  pub whole : reads ≡ done ++ rest
  pub apart : (a b : Seen) → Contains done a → Contains rest b → same_process b a ≡ false
  pub none : list_any (λ seen. lacks_to_end (some_of reads) written seen && passes test seen) done ≡ false

-- at first
pub none_at_first : (written : Option Place) (test : Test) (reads : List Seen) → NoneSoFar written test reads reads
none_at_first written test reads = record { done = []; whole = refl; apart = λ a b at. absurd (omega (arith, at.1)); none = refl }

-- all is as among the reads of the process
alike : (written : Option Place) (test : Test) (reads rest chunk next : List Seen) → (so : NoneSoFar written test reads rest)
    → rest ≡ chunk ++ next → AreApart chunk next → (seen : Seen) → Contains chunk seen
    → lacks_to_end (some_of reads) written seen ≡ lacks_to_end (some_of chunk) written seen
alike written test reads rest chunk next so split apart seen there =
    ap (λ (ys : List Seen). lacks_to_end (some_of ys) written seen) (so.whole ∙ ap (λ ys. so.done ++ ys) split)
    ∙ lacks_within written so.done chunk next
    (λ a b at here. so.apart a b at (subst (λ (ys : List Seen). Contains ys b) (sym split) (Contains-append_left chunk next b here)))
    (λ a b at here. (apart a b at here).0)
    seen there

-- with the reads of one more process
pub none_more : (written : Option Place) (test : Test) (reads rest chunk next : List Seen) → NoneSoFar written test reads rest
    → rest ≡ chunk ++ next → AreApart chunk next
    → list_any (λ seen. lacks_to_end (some_of chunk) written seen && passes test seen) chunk ≡ false
    → NoneSoFar written test reads next
none_more written test reads rest chunk next so split apart none = record {
  done = so.done ++ chunk;
  whole = so.whole ∙ ap (λ ys. so.done ++ ys) split ∙ sym (append_assoc so.done chunk next);
  apart = λ a b at here. elim (Contains-append_cases so.done chunk a at) [
    | inl before ↦ so.apart a b before (subst (λ (ys : List Seen). Contains ys b) (sym split) (Contains-append_right chunk next b here))
    | inr within ↦ (apart a b within here).1
  ];
  none = list_any-append _ so.done chunk ∙ ap (λ b. b || list_any (λ seen. lacks_to_end (some_of reads) written seen && passes test seen) chunk) so.none
      ∙ any_agree _ _ chunk (λ seen there. ap (λ b. b && passes test seen) (alike written test reads rest chunk next so split apart seen there))
      ∙ none;
}

-- one is found
pub one_found : (written : Option Place) (test : Test) (reads rest chunk next : List Seen) (seen : Seen) → NoneSoFar written test reads rest
    → rest ≡ chunk ++ next → AreApart chunk next
    → FindsOne (λ seen. lacks_to_end (some_of chunk) written seen && passes test seen) chunk (Some seen)
    → FindsOne (λ seen. lacks_to_end (some_of reads) written seen && passes test seen) reads (Some seen)
one_found written test reads rest chunk next seen so split apart (there, holds) = (
  subst (λ (ys : List Seen). Contains ys seen) (sym so.whole) (Contains-append_right so.done rest seen (subst (λ (ys : List Seen). Contains ys seen) (sym split) (Contains-append_left chunk next seen there))),
  ap (λ b. b && passes test seen) (alike written test reads rest chunk next so split apart seen there) ∙ holds,
)

-- nothing behind a list
pub append_none : (xs : List Seen) → xs ++ [] ≡ xs
append_none [] = refl
append_none (x ∷ xs) = ap (λ ys. x ∷ ys) (append_none xs)

-- none is left
pub none_at_last : (written : Option Place) (test : Test) (reads rest : List Seen) → NoneSoFar written test reads rest
    → length rest ≡ 0 → FindsOne (λ seen. lacks_to_end (some_of reads) written seen && passes test seen) reads None
none_at_last written test reads [] so none =
    let all = so.whole ∙ append_none so.done in
    subst (λ (ys : List Seen). list_any (λ seen. lacks_to_end (some_of reads) written seen && passes test seen) ys ≡ false) (sym all) so.none
none_at_last written test reads (x ∷ rest) so none = absurd (omega (arith, none))

-- some of the reads are passed, and those that are left asked other processes
pub record Passed (reads rest : List Seen) : Type 0 where
  pub done : List Seen
  pub whole : reads ≡ done ++ rest
  pub apart : (a b : Seen) → Contains done a → Contains rest b → same_process b a ≡ false

abbrev pub passed_none : (reads : List Seen) → Passed reads reads
passed_none reads = record { done = []; whole = refl; apart = λ a b at. absurd (omega (arith, at.1)) }

abbrev pub passed_more : (reads rest chunk next : List Seen) → Passed reads rest → rest ≡ chunk ++ next → AreApart chunk next → Passed reads next
passed_more reads rest chunk next so split apart = record {
  done = so.done ++ chunk;
  whole = so.whole ∙ ap (λ ys. so.done ++ ys) split ∙ sym (append_assoc so.done chunk next);
  apart = λ a b at here. elim (Contains-append_cases so.done chunk a at) [
    | inl before ↦ so.apart a b before (subst (λ (ys : List Seen). Contains ys b) (sym split) (Contains-append_right chunk next b here))
    | inr within ↦ (apart a b within here).1
  ];
}

-- what is asked of reads of one process is asked of its reads alone
pub passed_alike : (written : Option Place) (reads rest chunk next : List Seen) → Passed reads rest → rest ≡ chunk ++ next → AreApart chunk next
    → (seen : Seen) → Contains chunk seen → lacks_to_end (some_of reads) written seen ≡ lacks_to_end (some_of chunk) written seen
passed_alike written reads rest chunk next so split apart seen there =
    ap (λ (ys : List Seen). lacks_to_end (some_of ys) written seen) (so.whole ∙ ap (λ ys. so.done ++ ys) split)
    ∙ lacks_within written so.done chunk next
    (λ a b at here. so.apart a b at (subst (λ (ys : List Seen). Contains ys b) (sym split) (Contains-append_left chunk next b here)))
    (λ a b at here. (apart a b at here).0)
    seen there

-- an answer that lacks the record to the end among the reads of its process does so among all
pub lacks_among : (written : Option Place) (test : Test) (reads rest chunk next : List Seen) (seen : Seen) → Passed reads rest
    → rest ≡ chunk ++ next → AreApart chunk next
    → FindsOne (λ seen. lacks_to_end (some_of chunk) written seen && passes test seen) chunk (Some seen)
    → FindsOne (λ seen. lacks_to_end (some_of reads) written seen && passes test seen) reads (Some seen)
lacks_among written test reads rest chunk next seen so split apart (there, holds) = (
  subst (λ (ys : List Seen). Contains ys seen) (sym so.whole) (Contains-append_right so.done rest seen (subst (λ (ys : List Seen). Contains ys seen) (sym split) (Contains-append_left chunk next seen there))),
  ap (λ (ys : List Seen). lacks_to_end (some_of ys) written seen && passes test seen) (so.whole ∙ ap (λ ys. so.done ++ ys) split)
      ∙ ap (λ b. b && passes test seen) (lacks_within written so.done chunk next
      (λ a b at here. so.apart a b at (subst (λ (ys : List Seen). Contains ys b) (sym split) (Contains-append_left chunk next b here)))
      (λ a b at here. (apart a b at here).0)
      seen there)
      ∙ holds,
)
