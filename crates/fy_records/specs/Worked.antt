-- histories that are written out: of three processes, with one write of the value 1 of the key 0,
-- which began at line 0 and ended at line 1, a second later. The reads at the end begin behind line
-- 100, at second 100
use Rattle.std.specs.Prelude.{ℕ, ◌+◌, ◌*◌, true, false, List, [], ◌∷◌, map, Option, Some, None}
use Rattle.fy_history.specs.declared.history.Answer.{Answer}
use Rattle.fy_history.specs.declared.history.Answer.TheVariants.{Unanswered, Nothing}
use Rattle.fy_history.specs.declared.history.DiskLine.{DiskLine}
use Rattle.fy_history.specs.declared.history.End.{End}
use Rattle.fy_history.specs.declared.history.End.TheVariants.{Done}
use Rattle.fy_history.specs.declared.history.Place.{Place}
use Rattle.fy_history.specs.declared.history.Read.{Read}
use Rattle.fy_history.specs.declared.history.Trace.{Trace}
use Rattle.fy_history.specs.declared.history.Trace.TheVariants as trace
use Rattle.fy_history.specs.declared.history.Write.{Write}
use Rattle.fy_records.specs.declared.verdict.Verdict.{Verdict}
use Rattle.fy_records.specs.Lines.{Lines}
use Rattle.fy_records.specs.Verdicts.{verdict_of}

-- a line, and the second at which it was written
abbrev pub at : (line second : ℕ) → Place
at line second = record { line = line; nanos = second * 1000000000 }

-- the write
abbrev pub write : End → Write
write end = record { key = 0; value = 1; began = at 0 0; ended = Some (at 1 1); end = end }

-- a read that is answered at the next line, in the same second
abbrev pub read : Option ℕ → (line second : ℕ) → Answer → Read
read node line second answer = record {
  key = 0;
  node = node;
  began = at line second;
  ended = Some (at (line + 1) second);
  answer = answer;
  times = 1;
}

-- a read of the store as a whole
abbrev pub of_store : (line second : ℕ) → Answer → Read
of_store line second answer = read None line second answer

-- a read of a process
abbrev pub of_process : (process line second : ℕ) → Answer → Read
of_process process line second answer = read (Some process) line second answer

-- what a line says of a disk
abbrev pub on : ℕ → Trace → DiskLine
on process t = record { node = process; trace = t }

-- a history with these writes, reads and lines of disks; each process counts as whole
abbrev pub history : List Write → List Read → List DiskLine → Lines
history writes reads disks = record {
  writes = writes;
  reads = reads;
  wholes = map (λ _. true) reads;
  disks = disks;
  written = Some (at 100 100);
  processes = 3;
  names = 3;
}

-- the verdict of the record, if these are the reads and the lines of disks
abbrev pub judged : List Read → List DiskLine → Verdict
judged reads disks = verdict_of (history (write Done ∷ []) reads disks) (write Done) (at 1 1)

-- the same, where no process counts as whole
abbrev pub judged_unwhole : List Read → Verdict
judged_unwhole reads =
    verdict_of
    (record (history (write Done ∷ []) reads []) { wholes = map (λ _. false) reads })
    (write Done) (at 1 1)

-- all records of the disks of processes 0 and 2 were told, and of the plain files of process 1
abbrev pub looked_through : List DiskLine
looked_through = on 0 trace.All ∷ on 2 trace.All ∷ on 1 trace.Some ∷ on 1 trace.NothingElse ∷ []

-- a process lacks the record from the first time that it is asked at the end until this second
abbrev pub lacks_until : (second : ℕ) → List Read
lacks_until second = of_process 1 200 200 Unanswered ∷ of_process 1 202 second Nothing ∷ []
