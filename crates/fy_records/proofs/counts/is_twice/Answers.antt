use Rattle.std.proofs.Common.{◌∙◌, ◌&&◌, ap}
use Rattle.std.specs.Prelude.{nat_le}
use Rattle.fy_records.specs.Reads.{Reads, is_answered}
use Rattle.fy_records.proofs.counts.is_twice.Goals as goal

pub returns : goal.returns
returns c h is =
    c.is_told_twice.ensures
    ∙ ap (λ (some : Reads). some (λ seen. is_answered seen && nat_le 2 seen.read.times)) (c.reads_of.ensures.same h is)
