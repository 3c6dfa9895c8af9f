use Rattle.std.proofs.Common.{◌<◌, None, refl, arith}
use Rattle.std.proofs.lemmas.List.Elements.{All-get_or}
use Rattle.fy_registers.specs.declared.operation.Act.TheVariants.{Write}
use Rattle.fy_registers.specs.declared.keyed.Keyed.{Keyed}
use Rattle.fy_registers.proofs.Splitting.{split_more, split_ends}
use Rattle.fy_registers.proofs.keyed.split_by_key.Goals as goal

abbrev no_keyed : Keyed
no_keyed = record { key = 0; operation = record { act = Write 0; began = 0; ended = None } }

pub loop-keyed-preserved : goal.loop-keyed-preserved
loop-keyed-preserved c =
    split_more c.args.operations.now c.loop-keyed.keyed-index c.args.count no_keyed c.loop-keyed-test.true c.loop-keyed.parts.items c.loop-keyed.invariant _ refl
    (All-get_or (λ (o : Keyed). o.key < c.args.count) c.args.operations.now c.loop-keyed.keyed-index no_keyed c.loop-keyed-test.true c.requires)
    c.index_mut.result.now c.push.new.self c.index_mut.ensures.value c.in_ok-push.ensures.items

pub returns-clause-each : goal.returns-clause-each
returns-clause-each c = split_ends c.args.operations.now c.loop-keyed.keyed-index c.args.count c.loop-keyed.parts.items (omega arith) c.loop-keyed.invariant
