use Rattle.fy_spelling.proofs.Scanned.{skipped}
use Rattle.fy_spelling.proofs.scan.tokens.skip.Goals as goal

pub returns : goal.returns
returns c = skipped c.args.line.now c.args.text.now c.as_bytes.result.now c.strip_prefix.result c.as_bytes.ensures.value c.strip_prefix.ensures.cases
