-- which process has a name
use Rattle.std.proofs.Common.{◌≡◌, ◌≢◌, ◌<◌, ℕ, List, length, Option, Some, None}
use Rattle.std.specs.Prelude.{IfSome, IfNone}
use Rattle.fy_locality.specs.Locality.{value_of}
use Rattle.fy_locality.specs.declared.ProcId.{ProcId}
use Rattle.fy_locality.specs.declared.key.Key.TheVariants.{Process}
use Rattle.fy_locality.specs.declared.locality.Locality.{Locality}
use Rattle.fy_c.specs.Asking.{Finds}
use Rattle.fy_c.specs.Numbers.{process_number}

-- the number of what a map finds
pub finds : (processes : List Locality) (name : List ℕ) (found : Option ProcId) →
    IfSome found (λ p. value_of processes Process p.0 ≡ Some name) →
    IfSome found (λ p. p.0 < length processes) →
    IfNone found ((p : ℕ) → value_of processes Process p ≢ Some name) →
    Finds processes name (process_number found)
finds processes name (Some p) has within none = Finds.found p.0 within has
finds processes name None has within none = Finds.none none
