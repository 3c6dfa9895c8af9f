-- which acts there are under a version: the first lacks the three that came with the second
use Rattle.std.specs.Prelude.{Bool, true, false}
use Rattle.fy_acts.specs.declared.act.Act.{Act}
use Rattle.fy_acts.specs.declared.act.Act.TheVariants.{Kill, Clog, Unclog, Form, Begin, Deliver, Lose, Resend, Sync, Up, Tick, Give, Take, Protect, Unprotect, CopyTo, Replace, Heal}
use Rattle.fy_acts.specs.declared.version.Version.{Version}
use Rattle.fy_acts.specs.declared.version.Version.TheVariants.{First, Second}

-- whether there is such an act under the version
abbrev pub knows : Version → Act → Bool
knows Second act = true
knows First (Kill order) = true
knows First (Clog target n) = true
knows First (Unclog target) = true
knows First (Form members policy) = true
knows First (Begin team payload) = true
knows First (Deliver n) = true
knows First (Lose n) = true
knows First (Resend rec process) = true
knows First (Sync process) = true
knows First (Up process) = true
knows First (Tick n) = true
knows First (Give grant) = true
knows First (Take actor index) = true
knows First (Protect process kinds) = true
knows First (Unprotect process kinds) = true
knows First (CopyTo from rec to) = false
knows First (Replace team out into) = false
knows First (Heal process) = false
