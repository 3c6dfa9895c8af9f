use Rattle.std.proofs.Common.{◌≡◌, length, arith, ◌∙◌}
use Rattle.std.specs.FinSet as sets
use Rattle.fy_policy.specs.Counted.{number_of}
use Rattle.fy_votes.proofs.Booked.{known_are}
use Rattle.fy_votes.proofs.forgetting.fewest_in_common.Goals as goal

pub returns : goal.returns
returns c =
    let known : c.len-known.result ≡ number_of (sets.contains c.args.destroyed.now) (length c.args.map.now) = c.len-known.ensures.count ∙ known_are c.args.destroyed.now c.everyone.result c.intersection.result (length c.args.map.now) c.intersection.ensures c.everyone.ensures in
    omega (arith, known, c.from.ensures, c.from-2.ensures, c.from-3.ensures, c.len.ensures.count, c.from-4.ensures, c.saturating_sub-common.ensures, c.from-5.ensures, c.min.ensures)
