use Rattle.std.proofs.Common.{◌∙◌, [], ◌∷◌, ◌++◌, sym, ap, subst, arith, append_assoc, length-append}
use Rattle.fy_lines.specs.Lines.{lines_of}
use Rattle.fy_audit.specs.Script.{AreCommands}
use Rattle.fy_audit.proofs.AllCommands.{one_more}
use Rattle.fy_audit.proofs.script.read_script.Goals as goal

pub loop-rest-preserved : goal.loop-rest-preserved
loop-rest-preserved c =
    let bound = c.loop-rest.invariant.0 in
    let done = c.loop-rest.invariant.1 in
    let split = c.loop-rest.invariant.2 in
    let all = c.loop-rest.invariant.3 in
    let number = c.loop-rest.invariant.4 in
    let line = c.first_line.result.0.now in
    let next = c.first_line.result.1.now in
    let shorter = c.first_line.ensures.shorter in
    let longer = length-append done (line ∷ []) in
    let pushed =
    subst (AreCommands (done ++ line ∷ [])) (sym c.in_ok-push-in-Ok.ensures.items)
    (one_more done c.loop-rest.commands.items line c.in-Ok.command all c.in-Ok.ensures) in
    let whole =
    split ∙ ap (λ lines. done ++ lines) c.first_line.ensures.first
    ∙ sym (append_assoc done (line ∷ []) (lines_of next)) in
    (omega arith, done ++ line ∷ [], whole, pushed, omega arith)
