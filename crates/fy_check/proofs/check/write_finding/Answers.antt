use Rattle.std.specs.Io.KnownBytes.{Appends}
use Rattle.fy_lines.specs.Prefixes.{AppendsProperPrefix}
use Rattle.fy_check.proofs.Checking.{legal_out, bad_out, line_of_none, line_of_bad}
use Rattle.fy_check.proofs.check.write_finding.Goals as goal

pub returns-in-None-clause-out : goal.returns-in-None-clause-out
returns-in-None-clause-out g c = λ setup known found.
    (legal_out setup known c.args.finding
    (Appends (g.W.Write.contents c.args.writer.now) (g.W.Write.contents c.say.new.writer))
    (AppendsProperPrefix (g.W.Write.contents c.args.writer.now) (g.W.Write.contents c.say.new.writer))
    c.say.result found c.in-None.is c.say.ensures.said c.say.ensures.short).0

pub returns-in-None-clause-front_out : goal.returns-in-None-clause-front_out
returns-in-None-clause-front_out g c = λ setup known found.
    (legal_out setup known c.args.finding
    (Appends (g.W.Write.contents c.args.writer.now) (g.W.Write.contents c.say.new.writer))
    (AppendsProperPrefix (g.W.Write.contents c.args.writer.now) (g.W.Write.contents c.say.new.writer))
    c.say.result found c.in-None.is c.say.ensures.said c.say.ensures.short).1

pub returns-in-Some-clause-out : goal.returns-in-Some-clause-out
returns-in-Some-clause-out g c = λ setup known found.
    (bad_out setup known c.args.finding c.in-Some.at
    (Appends (g.W.Write.contents c.args.writer.now) (g.W.Write.contents c.say-in-Some.new.writer))
    (AppendsProperPrefix (g.W.Write.contents c.args.writer.now) (g.W.Write.contents c.say-in-Some.new.writer))
    c.say-in-Some.result found c.in-Some.is c.say-in-Some.ensures.said c.say-in-Some.ensures.short).0

pub returns-in-Some-clause-front_out : goal.returns-in-Some-clause-front_out
returns-in-Some-clause-front_out g c = λ setup known found.
    (bad_out setup known c.args.finding c.in-Some.at
    (Appends (g.W.Write.contents c.args.writer.now) (g.W.Write.contents c.say-in-Some.new.writer))
    (AppendsProperPrefix (g.W.Write.contents c.args.writer.now) (g.W.Write.contents c.say-in-Some.new.writer))
    c.say-in-Some.result found c.in-Some.is c.say-in-Some.ensures.said c.say-in-Some.ensures.short).1

pub returns-in-None-clause-line : goal.returns-in-None-clause-line
returns-in-None-clause-line g c =
    (line_of_none c.args.finding
    (Appends (g.W.Write.contents c.args.writer.now) (g.W.Write.contents c.say.new.writer))
    (AppendsProperPrefix (g.W.Write.contents c.args.writer.now) (g.W.Write.contents c.say.new.writer))
    c.say.result c.in-None.is c.say.ensures.said c.say.ensures.short).0

pub returns-in-None-clause-short : goal.returns-in-None-clause-short
returns-in-None-clause-short g c =
    (line_of_none c.args.finding
    (Appends (g.W.Write.contents c.args.writer.now) (g.W.Write.contents c.say.new.writer))
    (AppendsProperPrefix (g.W.Write.contents c.args.writer.now) (g.W.Write.contents c.say.new.writer))
    c.say.result c.in-None.is c.say.ensures.said c.say.ensures.short).1

pub returns-in-Some-clause-line : goal.returns-in-Some-clause-line
returns-in-Some-clause-line g c =
    (line_of_bad c.args.finding c.in-Some.at
    (Appends (g.W.Write.contents c.args.writer.now) (g.W.Write.contents c.say-in-Some.new.writer))
    (AppendsProperPrefix (g.W.Write.contents c.args.writer.now) (g.W.Write.contents c.say-in-Some.new.writer))
    c.say-in-Some.result c.in-Some.is c.say-in-Some.ensures.said c.say-in-Some.ensures.short).0

pub returns-in-Some-clause-short : goal.returns-in-Some-clause-short
returns-in-Some-clause-short g c =
    (line_of_bad c.args.finding c.in-Some.at
    (Appends (g.W.Write.contents c.args.writer.now) (g.W.Write.contents c.say-in-Some.new.writer))
    (AppendsProperPrefix (g.W.Write.contents c.args.writer.now) (g.W.Write.contents c.say-in-Some.new.writer))
    c.say-in-Some.result c.in-Some.is c.say-in-Some.ensures.said c.say-in-Some.ensures.short).1
