-- the operations of the registers of a history
use Rattle.std.specs.Prelude.{ℕ, List, ◌++◌, Option, Some, None, option_map, filter_map}
use Rattle.fy_history.specs.declared.history.Place.{Place}
use Rattle.fy_history.specs.declared.history.End.{End}
use Rattle.fy_history.specs.declared.history.End.TheVariants.{Done, Undone}
use Rattle.fy_history.specs.declared.history.Write.{Write}
use Rattle.fy_history.specs.declared.history.Answer.{Answer}
use Rattle.fy_history.specs.declared.history.Answer.TheVariants.{Unanswered, Nothing, Value}
use Rattle.fy_history.specs.declared.history.Read.{Read}
use Rattle.fy_history.specs.declared.history.History.{History}
use Rattle.fy_registers.specs.declared.operation.Act.{Act}
use Rattle.fy_registers.specs.declared.operation.Act.TheVariants as act
use Rattle.fy_registers.specs.declared.keyed.Keyed.{Keyed}

-- the line of a place
abbrev pub line_of : Option Place → Option ℕ
line_of place = option_map (λ p. p.line) place

-- an operation of a key
abbrev pub operation : (key : ℕ) → Act → (began : Place) → (ended : Option ℕ) → Keyed
operation key does began ended = record {
  key = key;
  operation = record { act = does; began = began.line; ended = ended };
}

-- a write that is known not to be done is none, and one that wasn't acknowledged has no end
abbrev pub written_by : End → Write → Option Keyed
written_by Undone write = None
written_by Done write =
    Some (operation write.key (act.Write write.value) write.began (line_of write.ended))
written_by _ write = Some (operation write.key (act.Write write.value) write.began None)

-- the operation of a write, if it may have been done
abbrev pub written : Write → Option Keyed
written write = written_by write.end write

-- a read of the store as a whole that was answered; one of a process is none
abbrev pub answered_by : Option ℕ → Answer → Read → Option Keyed
answered_by (Some node) answer read = None
answered_by None Unanswered read = None
answered_by None Nothing read =
    Some (operation read.key (act.Read None) read.began (line_of read.ended))
answered_by None (Value value) read =
    Some (operation read.key (act.Read (Some value)) read.began (line_of read.ended))

-- the operation of a read, if the store as a whole answered it
abbrev pub answered : Read → Option Keyed
answered read = answered_by read.node read.answer read

-- all operations: the writes, and then the reads
abbrev pub all_of : History → List Keyed
all_of history =
    filter_map written history.writes.items ++ filter_map answered history.reads.items

-- where an operation began
abbrev pub began_of : Keyed → ℕ
began_of keyed = keyed.operation.began
