use Rattle.fy_history.specs.Progress.{state_of}
use Rattle.fy_history.proofs.Steps.{begins}
use Rattle.fy_history.proofs.progress.Progress.begin_write.Goals as goal

pub returns : goal.returns
returns c =
    begins (state_of c.args.self.now) (state_of c.name.new.self) (state_of c.name-2.new.self)
    (state_of c.begin_with.new.self) c.args.client c.args.key.now c.args.value.now c.args.began
    c.in_ok-key.key c.in_ok-value.value c.begin_with.result (c.in_ok-key.ensures.number)
    c.in_ok-key.ensures.state c.in_ok-value.ensures.number c.in_ok-value.ensures.state
    c.begin_with.ensures
