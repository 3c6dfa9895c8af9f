-- what a rule bars, as the rules name it
use Rattle.fy_kinds.specs.Kinds.{Deed, Striking, Clogging}
use Rattle.fy_check_by_rules.specs.declared.asked.AskedDeed.{AskedDeed}
use Rattle.fy_check_by_rules.specs.declared.asked.AskedDeed.TheVariants.{Strike, Clog}

-- a strike by a kind, or a clog
abbrev pub deed_of : AskedDeed → Deed
deed_of (Strike kind) = Striking kind
deed_of Clog = Clogging
