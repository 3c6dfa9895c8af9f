use Rattle.std.proofs.Common.{nat_lt, slice_index}
use Rattle.fy_net.proofs.Clogs.{Finds}
use Rattle.fy_net.proofs.net.Net.all_clogged.Given as goal

abbrev pub invariant-loop-p : goal.invariant-loop-p
invariant-loop-p l = Finds l.self-inside.may_be_clogged l.p-iterator l.clogged (λ q. nat_lt l.self-inside.clock (slice_index l.self-inside.until.items q))
