use Rattle.std.proofs.Common.{not}
use Rattle.fy_grants.specs.Rights.{is_covered, grants_of}
use Rattle.fy_grants.proofs.Covering.{least_left}
use Rattle.fy_grants.proofs.book.Book.uncovered.Goals as goal

pub returns : goal.returns
returns c =
    least_left c.args.set.now c.uncovered_in.result (λ q. not (is_covered c.args.self.now.processes (grants_of c.args.self.now c.args.actor) c.args.kinds q))
    c.uncovered_in.ensures
    c.least.result c.least.ensures.some c.least.ensures.none
