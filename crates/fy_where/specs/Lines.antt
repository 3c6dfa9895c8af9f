-- what is said of a cluster file that is one
use Rattle.std.specs.Prelude.{ℕ, List, ◌++◌, length, codes, decimal, Option, IfSome, Ok}
use Rattle.fy_cluster.specs.Setup.{Setup}
use Rattle.fy_config.specs.Config.{ConfigOf}

-- the line for a cluster: how many processes, policies, actors, grants and protections it begins
-- with, and how many entries its journal may have
abbrev pub ok_line : Setup → List ℕ
ok_line c =
    codes "ok: processes " ++ decimal (length c.processes)
    ++ codes ", policies " ++ decimal (length c.policies)
    ++ codes ", actors " ++ decimal (length c.roles)
    ++ codes ", grants " ++ decimal (length c.grants)
    ++ codes ", protections " ++ decimal (length c.protections)
    ++ codes ", journal limit " ++ decimal c.limit
    ++ codes "\n"

-- the bytes, where they are known, are a cluster file, and this holds of its line
abbrev pub TellsOf : Option (List ℕ) → (List ℕ → Type 0) → Type 0
TellsOf known Out =
    IfSome known (λ bytes. (setup : Setup) × ConfigOf bytes (Ok setup) × Out (ok_line setup))
