use Rattle.fy_locality.proofs.Indexes.{IsIndexed-nil, IsIndexed-same}
use Rattle.fy_locality.proofs.map.Map.make.Goals as goal

pub invariant_of-result : goal.invariant_of-result
invariant_of-result c = IsIndexed-same _ _ _ _ _ _ _ _ _ _ _ _ _ _ IsIndexed-nil c.new.ensures.items c.new-2.ensures.empty c.new-3.ensures.empty c.new-4.ensures.empty c.new-5.ensures.empty c.new-6.ensures.empty c.new-7.ensures.items
