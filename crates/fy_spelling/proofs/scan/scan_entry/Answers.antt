use Rattle.fy_spelling.proofs.ScannedLines.{told_plainly, entry_parts}
use Rattle.fy_spelling.proofs.scan.scan_entry.Goals as goal

pub returns : goal.returns
returns c =
    told_plainly c.args.line.now _ c.u32_fits.ensures c.u32_fits-2.ensures c.act_fits.ensures
    c.in_ok-reply.ensures.fits
    (entry_parts c.args.line.now c.in_ok-skip.field-0.now _ c.in-Some.rest.now _
    c.in_ok-at.rest.now _ c.in_ok-by.rest.now _ c.in_ok-skip.ensures c.in-Some.ensures
    c.in_ok-at.ensures c.in_ok-by.ensures c.in_ok-reply.ensures.reads)
