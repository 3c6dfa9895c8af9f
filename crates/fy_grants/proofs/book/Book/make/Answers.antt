use Rattle.fy_grants.proofs.Covered.{book_of_none}
use Rattle.fy_grants.proofs.book.Book.make.Goals as goal

pub invariant_of-result : goal.invariant_of-result
invariant_of-result c = book_of_none _ c.args.actors _ _ c.in_ok-no_grants.ensures c.in_ok-bare_covers.ensures
