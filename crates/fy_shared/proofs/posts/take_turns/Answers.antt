use Rattle.std.proofs.Common.{rules, arith}
use Rattle.fy_shared.proofs.Parting.{goes_on, ends, fails, stops, limits}
use Rattle.fy_shared.proofs.posts.take_turns.Goals as goal

pub returns-then-not-before : goal.returns-then-not-before
returns-then-not-before g c =
    stops _ _ c.loop-turn.turn _ _ _ _ _ c.loop-turn.invariant (search rules) c.actor-number.result
    c.actor-number.ensures (c.before-in-loop-turn.ensures c.if-not-before.true)

pub returns-in-Ok-Ended : goal.returns-in-Ok-Ended
returns-in-Ok-Ended g c =
    ends (record {
      turns = c.parts_are_kept.ensures.turns;
      others = c.parts_are_kept.ensures.others;
      answers = c.answers_tell.ensures;
    })
    _ _ c.loop-turn.turn _ _ c.loop-turn.seat _ _ _ _ _ c.loop-turn.invariant
    (record {
      same = c.turn.ensures.same;
      sees = c.turn.ensures.sees;
      turned = c.turn.ensures.turned;
      plays = c.turn.ensures.plays;
    })
    (search rules)

pub returns-in-Err : goal.returns-in-Err
returns-in-Err g c =
    fails (record {
      turns = c.parts_are_kept.ensures.turns;
      others = c.parts_are_kept.ensures.others;
      answers = c.answers_tell.ensures;
    })
    _ _ c.loop-turn.turn _ _ c.loop-turn.seat _ _ _ _ _ _ c.loop-turn.invariant
    (record {
      same = c.turn.ensures.same;
      sees = c.turn.ensures.sees;
      turned = c.turn.ensures.turned;
      plays = c.turn.ensures.plays;
    })
    (search rules)

pub returns : goal.returns
returns g c = limits _ _ c.loop-turn.turn _ _ _ _ _ c.loop-turn.invariant (omega arith)

pub loop-turn-preserved : goal.loop-turn-preserved
loop-turn-preserved g c =
    goes_on (record {
      turns = c.parts_are_kept.ensures.turns;
      others = c.parts_are_kept.ensures.others;
      answers = c.answers_tell.ensures;
    })
    _ c.loop-turn.turn _ c.loop-turn.seat _ _ _ _ _ c.loop-turn.invariant
    (record {
      same = c.turn.ensures.same;
      sees = c.turn.ensures.sees;
      turned = c.turn.ensures.turned;
      plays = c.turn.ensures.plays;
    })
    (search rules)
