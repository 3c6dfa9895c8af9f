use Rattle.fy_spelling.proofs.ScannedLines.{spelled_plainly, command_parts}
use Rattle.fy_spelling.proofs.scan.scan_command.Goals as goal

pub returns : goal.returns
returns c =
    spelled_plainly c.args.line.now _ c.u32_fits.ensures c.act_fits.ensures
    (command_parts c.args.line.now _ c.in_ok-by.rest.now _ c.in_ok-skip.field-0.now
    c.in-Some.rest.now c.in_ok-by.ensures c.in_ok-skip.ensures c.in-Some.ensures
    (c.is_exactly.ensures c.if-not-is_exactly.false))
