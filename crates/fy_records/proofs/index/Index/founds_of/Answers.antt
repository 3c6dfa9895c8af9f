use Rattle.std.proofs.Common.{◌∙◌, List, ap}
use Rattle.fy_records.specs.declared.disks.Found.{Found}
use Rattle.fy_records.specs.Founds.{is_found}
use Rattle.fy_records.proofs.Same.{found_is_there}
use Rattle.fy_records.specs.Indexed.{found_key}
use Rattle.fy_records.proofs.Columns.{keys_in_order, group_of}
use Rattle.fy_records.proofs.index.Index.founds_of.Goals as goal

pub range_of-start-requires : goal.range_of-start-requires
range_of-start-requires c =
    keys_in_order found_key c.args.self.now.founds.items c.args.self.now.found_keys.items c.deref.result.now c.deref.ensures.value c.requires.found_table

pub returns-clause-founds : goal.returns-clause-founds
returns-clause-founds c =
    group_of found_key c.args.key c.args.self.now.founds.items c.deref-2.result.now c.args.self.now.found_keys.items c.deref.result.now c.range_of-start.result.0 c.range_of-start.result.1 c.requires.found_table c.deref.ensures.value c.deref-2.ensures.value c.range_of-start.ensures.start c.range_of-start.ensures.end

pub returns-clause-same : goal.returns-clause-same
returns-clause-same c h value is =
    ap (λ (fs : List Found). is_found fs value) (returns-clause-founds c)
    ∙ found_is_there h.disks c.args.self.now.founds.items c.args.key value is.founds
