use Rattle.fy_records.proofs.Lacking.{lackers_none, lackers_more}
use Rattle.fy_records.proofs.evidence.lackers_among.Goals as goal

pub loop-rest-init : goal.loop-rest-init
loop-rest-init c = record {
  so_far = lackers_none c.args.written c.args.reads.now c.new-lackers.result.items c.new-lackers.ensures.items;
  gathered = c.requires;
}

pub loop-rest-preserved : goal.loop-rest-preserved
loop-rest-preserved c = record {
  so_far = lackers_more c.args.written c.args.reads.now c.loop-rest.rest.now c.split_process.result.0.now c.split_process.result.1.now c.loop-rest.lackers.items c.add_lacker.new.lackers.items c.last_lacking.result c.loop-rest.invariant.so_far c.split_process.ensures.whole c.split_process.ensures.apart c.split_process.ensures.one c.last_lacking.ensures c.in_ok-add_lacker.ensures.each c.in_ok-add_lacker.ensures.all;
  gathered = c.split_process.ensures.rest;
}
