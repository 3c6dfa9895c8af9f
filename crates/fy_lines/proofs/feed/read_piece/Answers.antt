use Rattle.std.proofs.Common.{subst}
use Rattle.std.specs.Io.BufRead.{FillKeeps}
use Rattle.fy_lines.proofs.FeedLemmas.{was_read}
use Rattle.fy_lines.proofs.feed.read_piece.Goals as goal

pub returns-in_ok-extend_from_slice-in-Some-clause-read : goal.returns-in_ok-extend_from_slice-in-Some-clause-read
returns-in_ok-extend_from_slice-in-Some-clause-read g c =
    let remaining = g.R.Read.remaining in
    let rested = c.fill_buf.follows.lender-at-none in
    let limit = g.R.BufRead.consumable_len rested in
    let filled =
    subst (FillKeeps (remaining c.args.reader.now) (remaining rested) limit) c.in-Ok.is
    c.fill_buf.follows.holds-at-none in
    let is = c.in-Some.ensures.some in
    let read =
    was_read (remaining c.args.reader.now) (remaining rested) (remaining c.consume.new.self) limit
    c.in-Ok.chunk.now c.in-Some.end.now c.in-Some.field-0-1.now c.in-Ok.ensures.front
    c.in-Ok.ensures.end filled.0 filled.1 c.consume.ensures.bytes is.0 in
    (c.in-Some.end.now, read, is.1, c.in_ok-extend_from_slice-in-Some.ensures.items)
