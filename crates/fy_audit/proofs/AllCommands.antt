-- one more command at the end
use Rattle.std.proofs.Common.{ℕ, List, [], ◌∷◌, ◌++◌, Ok}
use Rattle.fy_spelling.specs.Command.{LineOf}
use Rattle.fy_spelling.specs.declared.command.Command.{Command}
use Rattle.fy_audit.specs.Script.{AreCommands}

pub one_more : (lines : List (List ℕ)) (commands : List Command) (line : List ℕ)
    (command : Command) → AreCommands lines commands → LineOf line (Ok command) →
    AreCommands (lines ++ line ∷ []) (commands ++ command ∷ [])
one_more [] [] line command all is = (is, tt)
one_more [] (other ∷ commands) line command all is = absurd all
one_more (first ∷ lines) [] line command all is = absurd all
one_more (first ∷ lines) (other ∷ commands) line command all is =
    (all.0, one_more lines commands line command all.1 is)
