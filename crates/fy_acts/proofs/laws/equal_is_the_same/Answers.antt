use Rattle.fy_acts.proofs.Compared.{same_act, same_reply, same_entry}
use Rattle.fy_acts.proofs.laws.equal_is_the_same.Goals as goal

pub returns-clause-acts : goal.returns-clause-acts
returns-clause-acts c = same_act

pub returns-clause-replies : goal.returns-clause-replies
returns-clause-replies c = same_reply

pub returns-clause-entries : goal.returns-clause-entries
returns-clause-entries c = same_entry
