-- how the parts of a file are named
use Rattle.std.specs.Prelude.{ℕ, List, codes}
use Rattle.fy_config.specs.declared.fault.Part.{Part}
use Rattle.fy_config.specs.declared.fault.Part.TheVariants.{JournalLimit, Policies, Process, Actor, Protect, Unknown}

-- the key of a part at the top of a file
abbrev pub part_text : Part → List ℕ
part_text JournalLimit = codes "journal_limit"
part_text Policies = codes "policies"
part_text Process = codes "process"
part_text Actor = codes "actor"
part_text Protect = codes "protect"
part_text Unknown = codes "an unknown key"
