use Rattle.std.proofs.Common.{◌≡◌, length}
use Rattle.fy_audit.specs.Reading.{HasRead}
use Rattle.fy_cluster.specs.Replies.{Legal}
use Rattle.fy_acts.specs.declared.version.Version.TheVariants.{Second}
use Rattle.fy_c.proofs.resuming.follow.Given as goal

-- the entries that were read are the cluster's
abbrev pub invariant-loop-reader : goal.invariant-loop-reader
invariant-loop-reader l =
    HasRead l.audit l.cluster.journal l.reader
    × (l.reader.version ≡ Second)
    × (l.cluster.setup ≡ l.fn.cluster.setup)
    × Legal l.cluster.setup l.cluster.journal

abbrev pub decreases-loop-reader : goal.decreases-loop-reader
decreases-loop-reader l = length l.reader.rest
