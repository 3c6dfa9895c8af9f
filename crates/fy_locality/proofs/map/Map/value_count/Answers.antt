use Rattle.std.proofs.Common.{◌≡◌, ap, ◌∙◌, length, arith}
use Rattle.fy_locality.specs.Locality.{values_of}
use Rattle.fy_locality.proofs.Values.{length-values_of}
use Rattle.fy_locality.proofs.Indexes.{length-keys}
use Rattle.fy_locality.proofs.map.Map.value_count.Goals as goal

pub overflow_cast-result : goal.overflow_cast-result
overflow_cast-result c =
    let n : c.len.result ≡ length (values_of c.args.self.now c.args.key) = c.len.ensures.len ∙ length-keys c.index.result.now.entries ∙ ap length c.index.ensures.index.seen in
    omega (arith, length-values_of c.args.self.now c.args.key)
