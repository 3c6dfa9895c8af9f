-- a refused act changes nothing
use Rattle.std.proofs.Common.{◌≡◌, refl, sym}
use Rattle.fy_acts.specs.declared.act.Act.{Act}
use Rattle.fy_acts.specs.declared.act.Act.TheVariants.{Kill}
use Rattle.fy_acts.specs.declared.reply.Reply.TheVariants.{No}
use Rattle.fy_acts.specs.declared.reply.Refusal.{Refusal}
use Rattle.fy_cluster.specs.declared.machine.Machine.{Machine}
use Rattle.fy_cluster.specs.Replies.{first_refusal_or, refusals, answer}
use Rattle.fy_cluster.specs.Standing.{Refines, Point, StepsTo, following}
use Rattle.fy_cluster.proofs.Still.{doings, nothing, unmoved}

does_nothing : (act : Act) (why : Refusal) → doings act (No why) ≡ nothing
does_nothing (Kill order) why = refl
does_nothing _ why = refl

pub unmoved_by : (point : Point) (act : Act) (why : Refusal) (m : Machine) → Refines point.setup point.before m → Refines point.setup (following point act (No why)) m
unmoved_by point act why m k = unmoved point act (No why) m (does_nothing act why) refl k

-- the first reason against an act is its reply
pub refuse : (point : Point) (act : Act) (why : Refusal) (m : Machine) → Refines point.setup point.before m → first_refusal_or (refusals point.setup point.before act) (answer point.setup point.before point.by act) ≡ No why → StepsTo point act (No why) m
refuse point act why m k is = record { right = sym is; stands = unmoved_by point act why m k }
