use Rattle.fy_c.proofs.Opened.{guard_followed}
use Rattle.fy_c.proofs.callers.use_guard_after.Goals as goal

pub kill_and_judge-requires : goal.kill_and_judge-requires
kill_and_judge-requires c =
    guard_followed c.args.config.now c.args.audit.now c.args.guard c.fy_open_after.new.guard
    c.fy_open_after.new.first_bad c.fy_open_after.result c.fy_open_after.ensures
    c.if-fy_open_after-eq0.true
