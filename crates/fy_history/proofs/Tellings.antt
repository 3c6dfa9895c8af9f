-- what a JSON line comes to, by what taking its value says
use Rattle.std.proofs.Common.{◌≡◌, ℕ, List, Result, Ok, Err, OnOk, IfErr, sym, subst}
use Rattle.json.specs.Json.{Json}
use Rattle.fy_events.specs.Events.{IsJson}
use Rattle.fy_history.specs.Histories.{told, LineOf, json, IfFaulty}
use Rattle.fy_history.specs.Progress.{State, Takes}
use Rattle.fy_history.specs.declared.fault.NotTaken.{NotTaken}
use Rattle.fy_history.specs.declared.fault.NotTaken.TheVariants.{Faulty, NoMemory}
use Rattle.fy_history.specs.declared.progress.Known.{Known}

pub taken : (known : Known) (s now : State) (line : List ℕ) (value : Json)
    (done : Result (Unit {0}) NotTaken) → IsJson line value → Takes (told known s value) now done
    → OnOk done (LineOf known s line (Ok now))
taken known s now line value (Ok u) is took =
    subst (LineOf known s line) took (json value is)
taken known s now line value (Err why) is took = tt

pub untaken : (known : Known) (s now : State) (line : List ℕ) (value : Json)
    (done : Result (Unit {0}) NotTaken) → IsJson line value → Takes (told known s value) now done
    → IfErr done (λ stop. IfFaulty stop (λ fault. LineOf known s line (Err fault)))
untaken known s now line value (Ok u) is took = tt
untaken known s now line value (Err (Faulty why)) is took =
    subst (LineOf known s line) took (json value is)
untaken known s now line value (Err NoMemory) is took = tt
