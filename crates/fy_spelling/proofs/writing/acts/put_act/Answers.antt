use Rattle.fy_spelling.proofs.writing.acts.put_act.Goals as goal

pub returns-in-Protect-clause-text : goal.returns-in-Protect-clause-text
returns-in-Protect-clause-text c = rw c.in-Protect.is c.put_protection.ensures
