use Rattle.std.proofs.Common.{◌≡◌, ◌≤◌, arith}
use Rattle.fy_history.specs.Progress.{state_of}
use Rattle.fy_history.specs.Views.{line_view}
use Rattle.fy_history.proofs.Steps.{takes}
use Rattle.fy_history.proofs.progress.Progress.take.Goals as goal

pub returns-clause-taken : goal.returns-clause-taken
returns-clause-taken c =
    let same : c.args.line.index ≡ c.args.self.now.lines = omega arith in
    let later : c.args.self.now.nanos ≤ c.args.line.nanos = omega arith in
    takes c.args.known (state_of c.args.self.now) (state_of c.take_event.new.self)
    (line_view c.args.line) same later c.in_ok-take_event.ensures
