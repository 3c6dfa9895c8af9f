-- how what `bears` tells is spelled
use Rattle.std.specs.Prelude.{◌≡◌, ℕ, List, ◌++◌, codes, length}
use Rattle.fy_bears.specs.declared.told.Told.{Told}
use Rattle.fy_bears.specs.Forgets.{forgets_text}
use Rattle.fy_bears.specs.Pieces.{between}
use Rattle.fy_bears.specs.Texts.{before_text, borne_text}
use Rattle.fy_bears.specs.Warnings.{warnings_text}
use Rattle.fy_cluster.specs.Setup.{Setup}
use Rattle.fy_policy.specs.Tree.{Tree}
use Rattle.fy_tolerance.specs.declared.borne.Findings.{Findings}
use Rattle.fy_tolerance.specs.declared.reports.Form.{Form}
use Rattle.fy_tolerance.specs.declared.reports.Form.TheVariants.{Json, Text}

-- how many processes there are, and who was lost before
abbrev pub front_text : Setup → Told → List ℕ
front_text c told =
    between (codes "processes: ") (length c.processes) (codes "\n")
    ++ before_text c.processes told.before

-- what is borne of each kind of loss, and what is warned of
abbrev pub findings_text : Setup → Findings → List ℕ
findings_text c findings =
    borne_text c.processes c.policies findings.emptied
    ++ (borne_text c.processes c.policies findings.gone
    ++ warnings_text c.processes c.policies findings)

-- all that is told, for people
abbrev pub told_text : Setup → (elections : List Tree) → Told → List ℕ
told_text c elections told =
    front_text c told ++ (findings_text c told.findings
    ++ forgets_text c.processes c.policies elections told.forgetting.items)

-- the text stands for what is told: of what programs get, no definition says how
abbrev pub IsSpelled : Form → Setup → (elections : List Tree) → Told → List ℕ → Type 0
IsSpelled Json c elections told written = Unit {0}
IsSpelled Text c elections told written = written ≡ told_text c elections told
