-- an audit that is being read, as its fields keep it
use Rattle.std.specs.Prelude.{◌≤◌, ◌+◌, length}
use Rattle.fy_check.specs.Inputs.{InputState}
use Rattle.fy_check.specs.declared.input.AuditInput.TheInside.{Inside}

-- what the fields say
abbrev pub input_state : Inside → InputState
input_state input = record {
  version = input.version;
  place = input.place;
  held = input.window.held;
  read = input.window.read;
}

-- each entry took a byte of those that were read
abbrev pub IsWithin : Inside → Type 0
IsWithin input = input.place + length input.window.held ≤ input.window.read
