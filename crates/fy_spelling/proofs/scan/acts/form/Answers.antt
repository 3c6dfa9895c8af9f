use Rattle.fy_spelling.proofs.ScannedLines.{form_parts}
use Rattle.fy_spelling.proofs.scan.acts.form.Goals as goal

pub returns : goal.returns
returns c =
    form_parts c.args.line.now c.in_ok-skip.field-0.now c.in-Some.rest.now c.in_ok-policy.rest.now
    c.in-Some.processes.items c.in-Ok.members c.in_ok-policy.policy c.in_ok-skip.ensures
    c.in-Some.ensures c.in_ok-policy.ensures c.in-Ok.ensures.made
