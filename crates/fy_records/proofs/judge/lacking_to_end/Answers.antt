use Rattle.fy_records.proofs.Chunks.{none_more, one_found}
use Rattle.fy_records.proofs.judge.lacking_to_end.Goals as goal

pub returns-in-Some : goal.returns-in-Some
returns-in-Some c =
    one_found c.args.written c.args.test c.args.reads.now c.loop-rest.rest.now c.split_process.result.0.now c.split_process.result.1.now c.in-Some.seen c.loop-rest.invariant.so_far c.split_process.ensures.whole c.split_process.ensures.apart c.in-Some.ensures

pub loop-rest-preserved : goal.loop-rest-preserved
loop-rest-preserved c = record {
  so_far = none_more c.args.written c.args.test c.args.reads.now c.loop-rest.rest.now c.split_process.result.0.now c.split_process.result.1.now c.loop-rest.invariant.so_far c.split_process.ensures.whole c.split_process.ensures.apart c.in_default.ensures;
  gathered = c.split_process.ensures.rest;
}
