use Rattle.std.proofs.Common.{rules}
use Rattle.fy_actors.proofs.Working.{acted_works}
use Rattle.fy_actors.proofs.desk.Desk.act.Goals as goal

pub returns-clause-worked : goal.returns-clause-worked
returns-clause-worked c = acted_works c.args.self.now _ c.args.act (search rules)
