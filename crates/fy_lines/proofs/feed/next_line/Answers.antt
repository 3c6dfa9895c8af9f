use Rattle.std.proofs.Common.{rules, ◌<◌, length}
use Rattle.fy_lines.proofs.FeedLemmas.{gives_last, ended, gives_ended, has_long_line, has_long_ended, within_ended}
use Rattle.fy_lines.proofs.feed.next_line.Goals as goal

pub returns-in-End-clause-line : goal.returns-in-End-clause-line
returns-in-End-clause-line g c is =
    let some : 0 < length c.read_piece.new.line.items = search rules in
    gives_last (g.R.Read.remaining c.args.reader.now) (g.R.Read.remaining c.loop-reader.reader)
    (g.R.Read.remaining c.read_piece.new.reader) c.loop-reader.line.items
    c.read_piece.new.line.items c.in_ok-read_piece.field-0 c.loop-reader.invariant.0
    c.loop-reader.invariant.1 c.in_ok-read_piece.ensures.read c.in-End.is some

pub returns-then-len-most-clause-line : goal.returns-then-len-most-clause-line
returns-then-len-most-clause-line g c _ =
    gives_ended (g.R.Read.remaining c.args.reader.now) (g.R.Read.remaining c.read_piece.new.reader)
    c.read_piece.new.line.items
    (ended _ (g.R.Read.remaining c.loop-reader.reader) _ c.loop-reader.line.items _
    c.in_ok-read_piece.field-0 c.loop-reader.invariant.0 c.loop-reader.invariant.1
    c.in_ok-read_piece.ensures.read c.in-Feed.is)

pub returns-then-len-most-clause-no_further : goal.returns-then-len-most-clause-no_further
returns-then-len-most-clause-no_further g c =
    within_ended (g.R.Read.remaining c.args.reader.now) (g.R.Read.remaining c.read_piece.new.reader)
    c.read_piece.new.line.items
    (ended _ (g.R.Read.remaining c.loop-reader.reader) _ c.loop-reader.line.items _
    c.in_ok-read_piece.field-0 c.loop-reader.invariant.0 c.loop-reader.invariant.1
    c.in_ok-read_piece.ensures.read c.in-Feed.is)

pub returns-else-len-most-clause-too_long : goal.returns-else-len-most-clause-too_long
returns-else-len-most-clause-too_long g c _ =
    let long : c.args.most < length c.read_piece.new.line.items = search rules in
    has_long_ended (g.R.Read.remaining c.args.reader.now)
    (g.R.Read.remaining c.read_piece.new.reader) c.read_piece.new.line.items c.args.most
    (ended _ (g.R.Read.remaining c.loop-reader.reader) _ c.loop-reader.line.items _
    c.in_ok-read_piece.field-0 c.loop-reader.invariant.0 c.loop-reader.invariant.1
    c.in_ok-read_piece.ensures.read c.in-Feed.is)
    long

pub returns-else-len-most-clause-no_further : goal.returns-else-len-most-clause-no_further
returns-else-len-most-clause-no_further g c =
    within_ended (g.R.Read.remaining c.args.reader.now) (g.R.Read.remaining c.read_piece.new.reader)
    c.read_piece.new.line.items
    (ended _ (g.R.Read.remaining c.loop-reader.reader) _ c.loop-reader.line.items _
    c.in_ok-read_piece.field-0 c.loop-reader.invariant.0 c.loop-reader.invariant.1
    c.in_ok-read_piece.ensures.read c.in-Feed.is)

pub returns-clause-too_long : goal.returns-clause-too_long
returns-clause-too_long g c _ =
    has_long_line (g.R.Read.remaining c.args.reader.now) (g.R.Read.remaining c.loop-reader.reader)
    c.loop-reader.line.items c.args.most c.loop-reader.invariant.0 c.loop-reader.invariant.1
    (search rules)
