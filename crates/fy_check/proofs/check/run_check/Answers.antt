use Rattle.fy_check.proofs.check.run_check.Goals as goal

pub returns-clause-done : goal.returns-clause-done
returns-clause-done g c =
    c.write_finding.ensures.out c.args.config.now (g.R.Read.remaining c.args.reader.now) (c.finding.ensures.found c.args.config.now (g.R.Read.remaining c.args.reader.now) c.in_ok-audit.ensures.replayed)

pub returns-clause-front_out : goal.returns-clause-front_out
returns-clause-front_out g c =
    c.write_finding.ensures.front_out c.args.config.now (g.R.Read.remaining c.args.reader.now) (c.finding.ensures.found c.args.config.now (g.R.Read.remaining c.args.reader.now) c.in_ok-audit.ensures.replayed)
