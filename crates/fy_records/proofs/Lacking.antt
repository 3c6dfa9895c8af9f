-- the processes that lack a record to the end, one after the other
use Rattle.std.proofs.Common.{◌≡◌, ◌+◌, ◌∙◌, ℕ, Bool, true, false, List, [], ◌∷◌, ◌++◌, ◌||◌, ◌&&◌, length, Option, Some, None, refl, sym, ap, inl, inr, ◌⊎◌, arith}
use Rattle.std.specs.Prelude.{Contains, ◌==◌}
use Rattle.std.specs.List.{list_any}
use Rattle.std.proofs.lemmas.Bool.{false≢true}
use Rattle.std.proofs.lemmas.List.Folds.{list_any-append}
use Rattle.fy_history.specs.declared.history.Place.{Place}
use Rattle.fy_records.specs.declared.evidence.Lacker.{Lacker}
use Rattle.fy_records.specs.declared.seen.Seen.{Seen}
use Rattle.fy_records.specs.declared.seen.Test.TheVariants.{Whole}
use Rattle.fy_records.specs.Evidence.{is_answer, is_missing_by, is_answer_of, is_lacker, IsAnswer, AreLackers}
use Rattle.fy_records.specs.Found.{some_of, FindsOne, AreApart, AreOfOne}
use Rattle.fy_records.specs.Reads.{process_of, passes}
use Rattle.fy_records.specs.Verdicts.{lacks_to_end}
use Rattle.fy_records.proofs.Chunks.{Passed, passed_none, passed_more, lacks_among, none_passes, passed_alike, append_none}
use Rattle.fy_records.proofs.Finding.{passes_there}

-- where none passes, this one doesn't
fails_there : (p : Seen → Bool) (xs : List Seen) (x : Seen) → list_any p xs ≡ false → Contains xs x → p x ≡ false
fails_there p xs x none at = by (p x) refl
  where
    by : (b : Bool) → p x ≡ b → b ≡ false
    by false e = refl
    by true e = absurd (false≢true (sym none ∙ passes_there p xs x at e))

-- what is asked of the reads that are passed
asks : (reads : List Seen) (written : Option Place) (process : ℕ) → Seen → Bool
asks reads written process seen = is_missing_by (some_of reads) written seen && (process_of seen == process + 1)

-- the answer of a process says what its reads say
chunk_says : (written : Option Place) (reads rest chunk next : List Seen) → Passed reads rest → rest ≡ chunk ++ next → AreApart chunk next → AreOfOne chunk
    → (found : Option Seen) → FindsOne (λ seen. lacks_to_end (some_of chunk) written seen && passes Whole seen) chunk found
    → (process : ℕ) → is_answer_of process found ≡ list_any (λ seen. is_missing_by (some_of reads) written seen && (process_of seen == process + 1)) chunk
chunk_says written reads rest chunk next so split apart one None none process =
    sym (none_passes (λ seen. is_missing_by (some_of reads) written seen && (process_of seen == process + 1)) chunk (λ x at.
    ap (λ b. b && x.whole && (process_of x == process + 1)) (passed_alike written reads rest chunk next so split apart x at)
    ∙ ap (λ b. b && (process_of x == process + 1)) (fails_there (λ seen. lacks_to_end (some_of chunk) written seen && passes Whole seen) chunk x none at)))
chunk_says written reads rest chunk next so split apart one (Some s) (there, holds) process = by (process_of s == process + 1) refl
  where
    by : (b : Bool) → (process_of s == process + 1) ≡ b → b ≡ list_any (λ seen. is_missing_by (some_of reads) written seen && (process_of seen == process + 1)) chunk
    by true e =
        sym (passes_there (λ seen. is_missing_by (some_of reads) written seen && (process_of seen == process + 1)) chunk s there
        (ap (λ b. b && s.whole && (process_of s == process + 1)) (passed_alike written reads rest chunk next so split apart s there)
        ∙ ap (λ b. b && (process_of s == process + 1)) holds ∙ e))
    by false e =
        sym (none_passes (λ seen. is_missing_by (some_of reads) written seen && (process_of seen == process + 1)) chunk (λ x at.
        let same : (process_of s == process_of x) ≡ true = one s x there at in
        let other : (process_of x == process + 1) ≡ false = grind (arith, same, e) in
        ap (λ b. is_missing_by (some_of reads) written x && b) other ∙ and_none (is_missing_by (some_of reads) written x)))
      where
        and_none : (b : Bool) → (b && false) ≡ false
        and_none true = refl
        and_none false = refl

-- so far the lackers are those of the reads that are passed
pub record LackersSoFar (written : Option Place) (reads rest : List Seen) (lackers : List Lacker) : Type 0 where
  pub passed : Passed reads rest
  pub each : (lacker : Lacker) → Contains lackers lacker → some_of reads (λ seen. is_missing_by (some_of reads) written seen && is_answer lacker seen) ≡ true
  pub all : (process : ℕ) → is_lacker lackers process ≡ list_any (λ seen. is_missing_by (some_of reads) written seen && (process_of seen == process + 1)) passed.done

pub lackers_none : (written : Option Place) (reads : List Seen) (lackers : List Lacker) → lackers ≡ [] → LackersSoFar written reads reads lackers
lackers_none written reads lackers none = record {
  passed = passed_none reads;
  each = λ lacker at. absurd (omega (arith, at.1, ap length none));
  all = λ process. ap (λ (ls : List Lacker). is_lacker ls process) none;
}

-- what was added is an answer that lacks the record to the end
added : (written : Option Place) (reads rest chunk next : List Seen) (seen : Option Seen) (lacker : Lacker) → Passed reads rest
    → rest ≡ chunk ++ next → AreApart chunk next
    → FindsOne (λ seen. lacks_to_end (some_of chunk) written seen && passes Whole seen) chunk seen
    → IsAnswer lacker seen → some_of reads (λ seen. is_missing_by (some_of reads) written seen && is_answer lacker seen) ≡ true
added written reads rest chunk next None lacker so split apart found answer = absurd answer
added written reads rest chunk next (Some seen) lacker so split apart found answer =
    let all = lacks_among written Whole reads rest chunk next seen so split apart found in
    passes_there (λ seen. is_missing_by (some_of reads) written seen && is_answer lacker seen) reads seen all.0
    (ap (λ b. b && is_answer lacker seen) all.1 ∙ answer)

-- with the answer of one more process
pub lackers_more : (written : Option Place) (reads rest chunk next : List Seen) (old new : List Lacker) (found : Option Seen)
    → LackersSoFar written reads rest old → rest ≡ chunk ++ next → AreApart chunk next → AreOfOne chunk
    → FindsOne (λ seen. lacks_to_end (some_of chunk) written seen && passes Whole seen) chunk found
    → ((lacker : Lacker) → Contains new lacker → Contains old lacker ⊎ IsAnswer lacker found)
    → ((process : ℕ) → is_lacker new process ≡ (is_lacker old process || is_answer_of process found))
    → LackersSoFar written reads next new
lackers_more written reads rest chunk next old new found so split apart one finds each all = record {
  passed = passed_more reads rest chunk next so.passed split apart;
  each = λ lacker at. elim (each lacker at) [
    | inl before ↦ so.each lacker before
    | inr answer ↦ added written reads rest chunk next found lacker so.passed split apart finds answer
  ];
  all = λ process.
      all process
      ∙ ap (λ b. b || is_answer_of process found) (so.all process)
      ∙ ap (λ b. list_any (λ seen. is_missing_by (some_of reads) written seen && (process_of seen == process + 1)) so.passed.done || b) (chunk_says written reads rest chunk next so.passed split apart one found finds process)
      ∙ sym (list_any-append (λ seen. is_missing_by (some_of reads) written seen && (process_of seen == process + 1)) so.passed.done chunk);
}

-- and at last they are all
pub lackers_all : (written : Option Place) (reads rest : List Seen) (lackers : List Lacker) → LackersSoFar written reads rest lackers → length rest ≡ 0
    → AreLackers (some_of reads) written lackers
lackers_all written reads [] lackers so none = record {
  each = so.each;
  all = λ process. so.all process ∙ ap (λ (ys : List Seen). list_any (λ seen. is_missing_by (some_of reads) written seen && (process_of seen == process + 1)) ys) (sym (so.passed.whole ∙ append_none so.passed.done));
}
lackers_all written reads (x ∷ rest) lackers so none = absurd (omega (arith, none))
