use Rattle.std.proofs.Common.{◌∙◌, ap}
use Rattle.fy_cluster.specs.Standing.{targets_by}
use Rattle.fy_cluster.proofs.machine.Machine.kill.Goals as goal

pub strike-requires : goal.strike-requires
strike-requires g c = (c.requires.0, (c.requires.1.1, λ p. c.find_targets-found.ensures p ∙ ap (λ t. targets_by c.args.self.now t p) c.target.ensures))
