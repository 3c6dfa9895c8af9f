use Rattle.std.proofs.Common.{ap, ◌∙◌, ltb}
use Rattle.fy_policy.proofs.Walk.{one-least, one-empty}
use Rattle.fy_policy.proofs.satisfaction.has_process.Goals as goal

pub returns-in-Some : goal.returns-in-Some
returns-in-Some c = ap (ltb c.in-Some.p.0) c.len.ensures.count ∙ one-least c.args.map.now c.args.set.now c.in-Some.p.0 c.in-Some.ensures.some

pub returns-in-None : goal.returns-in-None
returns-in-None c = one-empty c.args.map.now c.args.set.now c.in-None.ensures.none
