-- what an act holds
use Rattle.std.specs.Prelude.{Bool, true, false}
use Rattle.fy_acts.specs.declared.act.Act.{Act}
use Rattle.fy_acts.specs.declared.act.Act.TheVariants.{Form, Begin}

-- whether the act holds a list, so that a copy of it allocates
abbrev pub holds_list : Act → Bool
holds_list (Form members policy) = true
holds_list (Begin team payload) = true
holds_list act = false
