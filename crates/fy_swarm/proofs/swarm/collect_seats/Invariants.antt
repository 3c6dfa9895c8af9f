use Rattle.std.proofs.Common.{◌≡◌, ◌≢◌, ◌++◌, map}
use Rattle.std.specs.List.{All}
use Rattle.fy_shared.specs.declared.posts.End.TheVariants.{Failed}
use Rattle.fy_cluster.specs.declared.fault.Fault.TheVariants.{NoMemory}
use Rattle.fy_swarm.proofs.swarm.collect_seats.Given as goal

-- the seats so far, and those to come; and if no allocation for those to come failed, none did
abbrev pub invariant-loop-post : goal.invariant-loop-post
invariant-loop-post g l =
    (l.seats.items ++ map (λ post. post.seat) l.post-iterator.rest.items
    ≡ l.fn.back.items ++ map (λ post. post.seat) l.fn.posts.items)
    × (All (λ post. post.end ≢ Failed NoMemory) l.post-iterator.rest.items
    → All (λ post. post.end ≢ Failed NoMemory) l.fn.posts.items)
