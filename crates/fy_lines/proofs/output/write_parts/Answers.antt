use Rattle.std.proofs.Common.{rules, []}
use Rattle.fy_lines.proofs.FrontLemmas.{AppendsProperPrefix-part}
use Rattle.fy_lines.proofs.output.write_parts.Goals as goal

pub returns-in_err-write_bytes-clause-short : goal.returns-in_err-write_bytes-clause-short
returns-in_err-write_bytes-clause-short g c =
    let short = AppendsProperPrefix-part (λ part. part.now) c.args.parts.now c.loop-part.part-index (record { ref_ptr = (0, 0); now = [] }) _ _ _ c.loop-part-test.true c.loop-part.invariant c.in_err-write_bytes.ensures.short in
    search rules
