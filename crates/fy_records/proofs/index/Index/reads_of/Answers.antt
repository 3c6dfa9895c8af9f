use Rattle.std.proofs.Common.{◌∙◌, sym, ap, subst}
use Rattle.std.specs.Prelude.{◌==◌}
use Rattle.fy_records.specs.Found.{some_of, AreGathered}
use Rattle.fy_records.specs.Lines.{all_reads, reads_of}
use Rattle.fy_records.proofs.Same.{same_some, same_kept}
use Rattle.fy_records.specs.Indexed.{read_key}
use Rattle.fy_records.proofs.Columns.{keys_in_order, group_of}
use Rattle.fy_records.proofs.index.Index.reads_of.Goals as goal

pub range_of-start-requires : goal.range_of-start-requires
range_of-start-requires c =
    keys_in_order read_key c.args.self.now.reads.items c.args.self.now.read_keys.items c.deref.result.now c.deref.ensures.value c.requires.read_table

pub returns-clause-reads : goal.returns-clause-reads
returns-clause-reads c =
    group_of read_key c.args.key c.args.self.now.reads.items c.deref-2.result.now c.args.self.now.read_keys.items c.deref.result.now c.range_of-start.result.0 c.range_of-start.result.1 c.requires.read_table c.deref.ensures.value c.deref-2.ensures.value c.range_of-start.ensures.start c.range_of-start.ensures.end

pub returns-clause-gathered : goal.returns-clause-gathered
returns-clause-gathered c = subst AreGathered (sym (returns-clause-reads c)) (c.requires.gathered c.args.key)

pub returns-clause-same : goal.returns-clause-same
returns-clause-same c h is =
    ap some_of (returns-clause-reads c)
    ∙ same_some _ (reads_of h c.args.key) (same_kept (λ seen. seen.read.key == c.args.key) (all_reads h) c.args.self.now.reads.items is.reads)
