use Rattle.fy_verdict.proofs.Watching.{enters}
use Rattle.fy_verdict.proofs.watched.WatchSinkSink.enter.Goals as goal

pub returns : goal.returns
returns c =
    enters c.enter.result c.args.self.now.watch.replayed c.enter.new.self.replayed c.args.entry
    c.enter.ensures.entered c.enter.ensures.version
