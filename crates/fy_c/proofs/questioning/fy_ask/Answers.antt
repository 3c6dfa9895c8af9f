use Rattle.std.proofs.Common.{◌∙◌, subst}
use Rattle.fy_c.specs.Questioning.{Asks}
use Rattle.fy_c.specs.Statuses.{ending}
use Rattle.fy_c.proofs.questioning.fy_ask.Goals as goal

pub returns-clause-asked : goal.returns-clause-asked
returns-clause-asked c = (
  ending c.ask_into.result,
  c.number_of.ensures,
  subst (λ execution. Asks execution c.args.line.now c.args.buffer.now c.ask_into.new.buffer c.args.told.now c.ask_into.new.told (ending c.ask_into.result)) (c.asked_state-state.ensures ∙ c.cluster.ensures.value) c.ask_into.ensures,
)
