use Rattle.std.proofs.Common.{◌≡◌, ◌∙◌, Some}
use Rattle.fy_swarm.proofs.Swarming.{ran_whole}
use Rattle.fy_swarm.proofs.swarm.run_posts.Goals as goal

pub returns : goal.returns
returns g c =
    let all = ran_whole _ c.args.posts.now.items c.run_actors.new.posts c.args.posts.now.len c.as_mut_slice.ensures.value c.run_actors.ensures c.args.posts.now.ok.0 in
    record {
      theirs = all.2 (λ post. post.seat.of ≡ Some c.args.shared.now) (λ old new kept of. kept.seat.0 ∙ of) c.requires;
      ran = all.0;
      same = all.1;
    }
