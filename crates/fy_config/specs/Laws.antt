-- what the laws of cluster files state
use Rattle.std.specs.Prelude.{◌≡◌, ℕ, List, Result}
use Rattle.fy_cluster.specs.Setup.{Setup}
use Rattle.fy_config.specs.declared.fault.ConfigFault.{ConfigFault}
use Rattle.fy_config.specs.Config.{ConfigOf}

-- bytes are one setup, or have one fault
abbrev pub ConfigIsUnambiguous : Type 0
ConfigIsUnambiguous =
    (bytes : List ℕ) (a b : Result Setup ConfigFault) → ConfigOf bytes a → ConfigOf bytes b → a ≡ b
