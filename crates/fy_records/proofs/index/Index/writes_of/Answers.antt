use Rattle.fy_records.specs.Indexed.{write_key}
use Rattle.fy_records.proofs.Columns.{keys_in_order, group_of}
use Rattle.fy_records.proofs.index.Index.writes_of.Goals as goal

pub range_of-start-requires : goal.range_of-start-requires
range_of-start-requires c =
    keys_in_order write_key c.args.self.now.writes.items c.args.self.now.write_keys.items c.deref.result.now c.deref.ensures.value c.requires.write_table

pub returns : goal.returns
returns c =
    group_of write_key c.args.key c.args.self.now.writes.items c.deref-2.result.now c.args.self.now.write_keys.items c.deref.result.now c.range_of-start.result.0 c.range_of-start.result.1 c.requires.write_table c.deref.ensures.value c.deref-2.ensures.value c.range_of-start.ensures.start c.range_of-start.ensures.end
