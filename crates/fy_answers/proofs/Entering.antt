-- what a cluster's calls say of an act that is entered, and of one that isn't
use Rattle.std.proofs.Common.{◌≡◌, ◌∙◌, ◌↔◌, ◌≤◌, ◌+◌, ◌-◌, ℕ, List, [], ◌∷◌, ◌++◌, length, length-append, refl, ap, arith, slice_get, Some, inl, inr}
use Rattle.std.proofs.lemmas.Bool.{cases_lt}
use Rattle.std.specs.Prelude.{Result, Ok, Err}
use Rattle.fy_acts.specs.declared.act.Act.{Act}
use Rattle.fy_acts.specs.declared.entry.Entry.{Entry}
use Rattle.fy_spelling.specs.Command.{LineAnswers}
use Rattle.fy_spelling.specs.declared.command.CommandFault.{CommandFault}
use Rattle.fy_spelling.specs.declared.command.CommandFault.TheVariants as reading
use Rattle.fy_cluster.specs.declared.fault.Fault.{Fault}
use Rattle.fy_cluster.specs.declared.fault.Fault.TheVariants as cluster
use Rattle.fy_cluster.specs.Execution.{Execution, next_entry, entered}
use Rattle.fy_answers.specs.Answers.{HasRoom, HasNoEntry, HasNoAnswer, reading_fault, entering_fault}

-- a reader of lines answers a fault: it is the line's, or an allocation failed
pub faulty_line : (execution : Execution) (line : List ℕ) (room : ℕ) (fault : CommandFault) →
    LineAnswers line (Err fault) → HasNoAnswer execution execution line room (reading_fault fault)
faulty_line execution line room (reading.Line fault) is = HasNoAnswer.faulty fault is refl
faulty_line execution line room reading.NoMemory is = HasNoAnswer.unread is refl

-- what was put behind a list is found behind it
at_end : {X : Type 0} (xs : List X) (x : X) → slice_get (xs ++ x ∷ []) (length xs) ≡ Some x
at_end [] x = refl
at_end (y ∷ xs) x = at_end xs x

same_some : {X : Type 0} (y x : X) → Some y ≡ Some x → y ≡ x
same_some y x is = cc

-- and is its last from then on
last_is : {X : Type 0} (ys xs : List X) (x y : X) → ys ≡ xs ++ x ∷ [] →
    Some y ≡ slice_get ys (length ys - 1) → y ≡ x
last_is ys xs x y is found =
    let count : length (xs ++ x ∷ []) ≡ length xs + 1 = length-append xs (x ∷ []) in
    let place : length (xs ++ x ∷ []) - 1 ≡ length xs = omega (arith, count) in
    same_some y x
    (found ∙ ap (λ zs. slice_get zs (length zs - 1)) is ∙ ap (slice_get (xs ++ x ∷ [])) place
    ∙ at_end xs x)

-- the last entry of a journal in which an act was entered is that of the act
pub last_entry : (old new : Execution) (by : ℕ) (act : Act) (entries : List Entry) (entry : Entry) →
    new ≡ entered old by act → entries ≡ new.journal →
    Some entry ≡ slice_get entries (length entries - 1) → entry ≡ next_entry old by act
last_entry old new by act entries entry enters its found =
    last_is entries old.journal (next_entry old by act) entry
    (its ∙ ap (λ (it : Execution). it.journal) enters) found

-- an answer is no full journal, and neither is an allocation that failed
pub not_full : {A : Type 0} (answer : A) → Ok answer ≡ Err cluster.JournalFull → ⊥
not_full answer full = cc

memory_not_full : {A : Type 0} (result : Result A Fault) → result ≡ Err cluster.NoMemory →
    result ≡ Err cluster.JournalFull → ⊥
memory_not_full result memory full = cc

-- what isn't full has room
pub has_room : (execution : Execution) → (execution.setup.limit ≤ length execution.journal → ⊥) →
    HasRoom execution
has_room execution none =
    elim (cases_lt (length execution.journal) execution.setup.limit) [
      | inl room ↦ room
      | inr full ↦ absurd (none full)
    ]

-- an act isn't entered
pub no_entry : {A : Type 0} (old new : Execution) (by : ℕ) (act : Act) (room : ℕ) (why : Fault)
    (result : Result A Fault) → result ≡ Err why →
    (old.setup.limit ≤ length old.journal) ↔ (result ≡ Err cluster.JournalFull) → new ≡ old →
    HasNoEntry old new by act room (entering_fault why)
no_entry old new by act room cluster.JournalFull result is full kept =
    HasNoEntry.full (full.1 is) kept
no_entry old new by act room cluster.NoMemory result is full kept =
    HasNoEntry.no_memory (has_room old (λ limit. memory_not_full result is (full.0 limit))) kept
