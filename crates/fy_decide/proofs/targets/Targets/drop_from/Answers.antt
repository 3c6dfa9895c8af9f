use Rattle.std.proofs.Common.{◌∙◌, ap}
use Rattle.fy_decide.specs.Targets.{set_of, targeted}
use Rattle.fy_decide.proofs.Alone.{without-one}
use Rattle.fy_decide.proofs.targets.Targets.drop_from.Goals as goal

pub returns-in-One : goal.returns-in-One
returns-in-One c = c.drop_one.ensures ∙ without-one c.args.set.now (targeted c.args.self.now) c.in-One.p.0 (ap set_of c.in-One.is)
