use Rattle.fy_votes.proofs.Common.{forgetting_known}
use Rattle.fy_votes.proofs.forgetting.forgetting_of.Goals as goal

pub returns : goal.returns
returns c = λ writes at.
    forgetting_known c.a_quorum_is_left.ensures c.test_is_satisfaction.ensures c.more_of_map_satisfies.ensures c.args.dead.now writes c.args.elections.now c.in_ok-writes.writes c.in_ok-votes.votes c.in_ok-beside.beside c.all_but-others.result
    (record { fewest = c.fewest_of.result; too_many = c.still_needed.result }) c.args.map.now c.destroyed-destroyed.result c.requires.map c.destroyed-destroyed.ensures.destroyed (c.in_ok-writes.ensures writes at) (record {
      differ = c.names_differ.ensures;
      few = c.len-few.ensures.few;
      sat_votes = c.in_ok-votes.ensures.none;
      takes_votes = c.in_ok-votes.ensures.some;
      zero_is = c.fewest_of.ensures.none;
      fewest_is = c.fewest_of.ensures.some;
      all_but = c.all_but-others.ensures;
      sat_others = c.in_ok-beside.ensures.none;
      takes_others = c.in_ok-beside.ensures.some;
      empty_is = c.still_needed.ensures.none;
      needed = c.still_needed.ensures.some;
    })
