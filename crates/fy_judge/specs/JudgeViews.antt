-- what the program's own values of a line say
use Rattle.std.specs.Prelude.{◌≢◌, ℕ, List}
use Rattle.std.specs.List.{AllByRecursion}
use Rattle.fy_judge.specs.declared.stop.JudgeFault.{JudgeFault}
use Rattle.fy_judge.specs.declared.stop.JudgeStop.{JudgeStop}
use Rattle.fy_judge.specs.declared.stop.JudgeStop.TheVariants.{TooLong, Line, Read, NoMemory as StopNoMemory}
use Rattle.fy_judge.specs.declared.input.TakeFault.{TakeFault}
use Rattle.fy_judge.specs.declared.input.TakeFault.TheVariants.{Fault, NoMemory}
use Rattle.fy_judge.specs.declared.stop.JudgeFault.TheVariants.{Syntax, Policy, Twice, TooMany}
use Rattle.fy_lines.specs.declared.input.InputFault.{InputFault}
use Rattle.fy_lines.specs.declared.input.InputFault.TheVariants.{TooLong as input_too_long, Reader, NoMemory as input_no_memory}
use Rattle.fy_policy.specs.declared.fault.PolicyFault.{PolicyFault}
use Rattle.fy_policy.specs.declared.fault.PolicyFault.TheVariants.{NoMemory as no_memory}
use Rattle.fy_locality.specs.declared.map.MapFault.{MapFault}
use Rattle.fy_locality.specs.declared.map.MapFault.TheVariants.{Name as map_name, Twice as map_twice, TooMany as map_too_many}

-- no blank
abbrev pub IsToken : List ℕ → Type 0
IsToken bytes = AllByRecursion (λ b. b ≢ 32) bytes

-- a fact for a line's fault; none for an allocation failure
abbrev pub IfFault : TakeFault → (JudgeFault → Type 0) → Type 0
IfFault (Fault fault) P = P fault
IfFault NoMemory P = Unit {0}

-- the fault of a policy's line, by why its text is none
abbrev pub policy_fault_of : PolicyFault → TakeFault
policy_fault_of no_memory = NoMemory
policy_fault_of _ = Fault Policy

-- the fault of a process's line, by why the process was not added
abbrev pub process_fault_of : MapFault → TakeFault
process_fault_of map_name = Fault Syntax
process_fault_of map_twice = Fault Twice
process_fault_of map_too_many = Fault TooMany
process_fault_of _ = NoMemory

-- the stop for a line that is not taken
abbrev pub line_stop_of : ℕ → TakeFault → JudgeStop
line_stop_of line (Fault fault) = Line line fault
line_stop_of line NoMemory = StopNoMemory

-- the stop for an input that is not read whole
abbrev pub input_stop_of : InputFault → JudgeStop
input_stop_of input_too_long = TooLong
input_stop_of Reader = Read
input_stop_of input_no_memory = StopNoMemory
