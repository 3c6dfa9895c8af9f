use Rattle.std.specs.FinSet as sets
use Rattle.fy_kinds.specs.Kinds.{Striking}
use Rattle.fy_decide.specs.Targets.{targeted}
use Rattle.fy_decide.specs.Verdicts.{situation_of}
use Rattle.fy_decide.proofs.Judging.{bar_of_permission, bar_of_loss}
use Rattle.fy_decide.proofs.verdict.Case.bar.Goals as goal

pub returns-in-Some : goal.returns-in-Some
returns-in-Some c = bar_of_permission (situation_of c.args.self.now.dead.now c.args.self.now.book.now c.args.self.now.actor) (Striking c.args.kind) (sets.contains (targeted c.args.self.now.targets.now)) _ _ (c.permission_bar.ensures (Striking c.args.kind) c.of.ensures) c.in-Some.is

pub returns-in-None : goal.returns-in-None
returns-in-None c = bar_of_loss (situation_of c.args.self.now.dead.now c.args.self.now.book.now c.args.self.now.actor) (Striking c.args.kind) (sets.contains (targeted c.args.self.now.targets.now)) _ _ (c.permission_bar.ensures (Striking c.args.kind) c.of.ensures) c.in-None.is (c.loss_bar.ensures c.args.self.now.book.now c.args.self.now.actor)
