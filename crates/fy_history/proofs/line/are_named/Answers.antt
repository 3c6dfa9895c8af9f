use Rattle.std.proofs.Common.{◌∙◌}
use Rattle.fy_history.proofs.Named.{all_named}
use Rattle.fy_history.proofs.line.are_named.Goals as goal

pub returns : goal.returns
returns c = c.are_among.ensures ∙ all_named c.args.names.now c.args.members.now
