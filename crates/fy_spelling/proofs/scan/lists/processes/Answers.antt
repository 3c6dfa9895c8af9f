use Rattle.std.proofs.Common.{◌≡◌, ◌++◌, ◌∷◌, [], rules}
use Rattle.fy_spelling.proofs.ScannedLists.{process_more, filled_behind}
use Rattle.fy_spelling.proofs.scan.lists.processes.Goals as goal

pub loop-preserved : goal.loop-preserved
loop-preserved c =
    let found = c.loop.found.items in
    let p = c.in-Some.process in
    let pushed : c.push.new.self.items ≡ found ++ (p ∷ []) = search rules in
    rw pushed (
      process_more c.args.line.now c.loop.rest.now c.in-Some.after.now found p c.loop.later
          c.loop.invariant.1 c.loop.invariant.0 c.in-Some.ensures,
      filled_behind found p,
    )
